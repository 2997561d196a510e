-- What a reply makes of the pool of an agent, case by case.
use Rattle.std.proofs.Common.{◌≡◌, ℕ, Bool, true, false, cond, slice_get, Option, Some, None, IsSome, refl, subst}
use Rattle.grasp_types.specs.Prefix.{AddressBlock as Prefix}
use Rattle.grasp_types.specs.declared.objective.Objective.{Objective}
use Rattle.grasp_types.specs.declared.refusal.ApiRefused.{ApiRefused}
use Rattle.grasp_types.specs.declared.reply.ApiAnswer.{ApiAnswer}
use Rattle.grasp_types.specs.declared.reply.ApiAnswer.TheVariants as answer
use Rattle.grasp_types.specs.declared.reply.Reply.{Reply}
use Rattle.grasp_types.specs.declared.reply.Reply.TheVariants as reply
use Rattle.grasp_types.specs.declared.session.Handle.{Handle}
use Rattle.grasp_types.specs.declared.session.Outcome.{Outcome}
use Rattle.grasp_types.specs.declared.session.Progress.{Progress}
use Rattle.grasp_types.specs.declared.session.Progress.TheVariants as progress
use Rattle.grasp_pool.specs.Holdings.{Holding}
use Rattle.grasp_pool.specs.Functions.{after_back, after_gaining}
use Rattle.grasp_agent.specs.Decisions.{giver_decision, after_deciding}
use Rattle.grasp_agent.specs.Replies.{is_passing, is_again, refused_in, answer_in, asa_in, started_in, incoming_in, progress_in, after_incoming, after_registering, after_opening, after_act, after_asking, after_starting, after_sending, after_unsent, after_returning, after_want_progress, after_back_progress, giving_back, settled, settling, after_give_progress, after_duty, after_serving, advanced, after_reply}
use Rattle.grasp_agent.specs.States.{AgentState, is_open, is_asking, is_returning, back_session, duty_of}
use Rattle.grasp_agent.specs.declared.act.Act.{Act}
use Rattle.grasp_agent.specs.declared.act.Act.TheVariants as act
use Rattle.grasp_agent.specs.declared.back.Return.{Return}
use Rattle.grasp_agent.specs.declared.duty.Duty.{Duty}
use Rattle.grasp_agent.specs.declared.duty.Duty.TheVariants as duty
use Rattle.grasp_agent.specs.declared.giving.Giving.{Giving}
use Rattle.grasp_agent.specs.declared.stage.Stage.{Stage}
use Rattle.grasp_agent.specs.declared.stage.Stage.TheVariants as stage
use Rattle.grasp_agent.specs.declared.want.Want.{Want}
use Rattle.grasp_laws_agent.proofs.LawNext.{its_duty}

-- the agent asks how this giving session stands
pub record IsGiver (s : AgentState) (place : ℕ) (g : Giving) : Type 0 where
  pub idle : s.act ≡ None
  pub duty : duty_of s ≡ duty.Give place g.handle
  pub entry : slice_get s.giving place ≡ Some g

-- the agent asks how the session of its return stands
pub record IsReturner (s : AgentState) (h : Handle) (b : Return) : Type 0 where
  pub idle : s.act ≡ None
  pub duty : duty_of s ≡ duty.Return h
  pub back : s.back ≡ Some b
  pub session : b.session ≡ Some h

-- what h, the pool after the reply, is
pub data PoolEffect (s : AgentState) (r : Reply) (h : Holding) : Type 0 where
  unchanged : h ≡ s.pool → PoolEffect s r h
  dropped : (place : ℕ) (handle : Handle) (q : Prefix) → s.act ≡ Some (act.Offer place handle q) → IsSome (refused_in r) → is_again r ≡ false
      → h ≡ after_back s.pool q → PoolEffect s r h
  gained : (handle : Handle) (q : Prefix) → s.act ≡ Some (act.Accept handle q) → r ≡ reply.Api answer.Done → h ≡ after_gaining s.pool q → PoolEffect s r h
  unsent : (b : Return) → s.back ≡ Some b → b.session ≡ None → IsSome (refused_in r) → is_again r ≡ false → h ≡ after_back s.pool b.prefix → PoolEffect s r h
  heard : (handle : Handle) (b : Return) (e : Outcome) → IsReturner s handle b → progress_in (answer_in r) ≡ Some (progress.Ended e)
      → h ≡ settled s.pool b.prefix e → PoolEffect s r h
  turned : (place : ℕ) (g : Giving) (o : Objective) → IsGiver s place g → progress_in (answer_in r) ≡ Some (progress.Turn o)
      → h ≡ after_deciding (giving_back s.pool g.offer) (giver_decision (giving_back s.pool g.offer) o.value o.loops g.first) → PoolEffect s r h
  ended : (place : ℕ) (g : Giving) (e : Outcome) → IsGiver s place g → progress_in (answer_in r) ≡ Some (progress.Ended e)
      → h ≡ settling s.pool g.offer e → PoolEffect s r h

-- a choice between two agents of the same pool
choice_pool : (b : Bool) (x y : AgentState) (h : Holding) → x.pool ≡ h → y.pool ≡ h → (cond b x y).pool ≡ h
choice_pool true x y h e f = e
choice_pool false x y h e f = f

-- the pool stays as it was where a session comes in
pub incoming_pool : (s : AgentState) (o : Option Handle) → (after_incoming s o).pool ≡ s.pool
incoming_pool s None = refl
incoming_pool s (Some h) = choice_pool _ _ _ _ refl refl

registering_pool : (s : AgentState) (o : Option ℕ) → (after_registering s o).pool ≡ s.pool
registering_pool s None = refl
registering_pool s (Some n) = refl

-- an opening call leaves the pool
pub opening_pool : (s : AgentState) (st : Stage) (r : Reply) → (after_opening (record s { stage = st }) r).pool ≡ s.pool
opening_pool s stage.Registering r = registering_pool (record s { stage = stage.Registering }) (asa_in (answer_in r))
opening_pool s stage.Declaring r = choice_pool _ _ _ _ refl refl
opening_pool s stage.Opening r = choice_pool _ _ _ _ (incoming_pool (record s { stage = stage.Serving }) (incoming_in (answer_in r))) refl
opening_pool s stage.Serving r = refl

starting_pool : (s : AgentState) (w : Option Want) (o : Option Handle) → (after_starting s w o).pool ≡ s.pool
starting_pool s None o = refl
starting_pool s (Some w) None = refl
starting_pool s (Some w) (Some h) = refl

-- the request of a want leaves the pool
pub asking_pool : (s : AgentState) (r : Reply) → (after_asking s r).pool ≡ s.pool
asking_pool s (reply.Refused x) = refl
asking_pool s (reply.Api a) = starting_pool s s.want (started_in (Some a))
asking_pool s _ = starting_pool s s.want None

-- the request of a return leaves the pool, or its prefix goes back
pub sending_pool : (s : AgentState) (b : Option Return) (o : Option Handle) → (after_sending s b o).pool ≡ s.pool
sending_pool s None o = refl
sending_pool s (Some b) None = refl
sending_pool s (Some b) (Some h) = refl

returning_session : (b : Return) (o : Option Handle) → is_returning (Some (record b { session = o })) ≡ true → o ≡ None
returning_session b None e = refl
returning_session b (Some h) e = absurd (cc)

unsent_effect : (s : AgentState) (r : Reply) → IsSome (refused_in r) → is_again r ≡ false → (b : Option Return) → s.back ≡ b → is_returning b ≡ true
    → PoolEffect s r (after_unsent s b).pool
unsent_effect s r refused last None e returns = unchanged refl
unsent_effect s r refused last (Some b) e returns = unsent b e (returning_session b b.session returns) refused last refl

returning_effect : (s : AgentState) (r : Reply) → is_returning s.back ≡ true → is_again r ≡ false → PoolEffect s r (after_returning s r).pool
returning_effect s (reply.Refused x) returns last = unsent_effect s (reply.Refused x) refl last s.back refl returns
returning_effect s (reply.Api a) returns last = unchanged (sending_pool s s.back (started_in (Some a)))
returning_effect s _ returns last = unchanged (sending_pool s s.back None)

-- the progress of a return
back_effect : (s : AgentState) (r : Reply) (h : Handle) → s.act ≡ None → duty_of s ≡ duty.Return h → (b : Option Return) → s.back ≡ b
    → back_session b ≡ Some h → (p : Option Progress) → progress_in (answer_in r) ≡ p → PoolEffect s r (after_back_progress s b p).pool
back_effect s r h idle next (Some b) e at (Some (progress.Ended o)) told =
    heard h b o (record { idle = idle; duty = next; back = e; session = at }) told refl
back_effect s r h idle next _ e at _ told = unchanged refl

-- the progress of a want leaves the pool
pub want_pool : (s : AgentState) (w : Option Want) (h : Handle) (p : Option Progress) → (after_want_progress s w h p).pool ≡ s.pool
want_pool s None h p = refl
want_pool s (Some w) h None = refl
want_pool s (Some w) h (Some progress.NotYet) = refl
want_pool s (Some w) h (Some _) = refl

-- the handle of a duty in the giving session at this place is that session's
pub duty_handle : (s : AgentState) (place : ℕ) (h : Handle) (g : Giving) → duty_of s ≡ duty.Give place h → slice_get s.giving place ≡ Some g → h ≡ g.handle
duty_handle s place h g e at =
    let is = its_duty s (duty.Give place h) e
    in let here : slice_get s.giving place ≡ Some is.0 = is.1 in let its : is.0.handle ≡ h = is.2 in cc

-- the progress of a giving session
giving_effect : (s : AgentState) (r : Reply) (place : ℕ) (g : Giving) → IsGiver s place g → (p : Option Progress) → progress_in (answer_in r) ≡ p
    → PoolEffect s r (after_give_progress s place (Some g) p).pool
giving_effect s r place g is None e = unchanged refl
giving_effect s r place g is (Some progress.NotYet) e = unchanged refl
giving_effect s r place g is (Some (progress.Turn o)) e = turned place g o is e refl
giving_effect s r place g is (Some (progress.Ended o)) e = ended place g o is e refl

-- the duty that is next
duty_effect : (s : AgentState) (r : Reply) → s.act ≡ None → (d : Duty) → duty_of s ≡ d → PoolEffect s r (after_duty s d r).pool
duty_effect s r idle duty.Listen e = unchanged (incoming_pool s (incoming_in (answer_in r)))
duty_effect s r idle (duty.Want h) e = unchanged (want_pool s s.want h (progress_in (answer_in r)))
duty_effect s r idle (duty.Return h) e = back_effect s r h idle e s.back refl (its_duty s (duty.Return h) e) (progress_in (answer_in r)) refl
duty_effect s r idle (duty.Give place h) e = by (slice_get s.giving place) refl
  where
    by : (o : Option Giving) → slice_get s.giving place ≡ o → PoolEffect s r (after_give_progress s place o (progress_in (answer_in r))).pool
    by None f = unchanged refl
    by (Some g) f =
        let same : h ≡ g.handle = duty_handle s place h g e f
        in let next : duty_of s ≡ duty.Give place g.handle = subst (λ x. duty_of s ≡ duty.Give place x) same e
        in giving_effect s r place g (record { idle = idle; duty = next; entry = f }) (progress_in (answer_in r)) refl

-- an answer to an act
answered_effect : (s : AgentState) (a : Act) (x : ApiAnswer) → PoolEffect (record s { act = Some a }) (reply.Api x) (after_act (record s { act = Some a }) a (reply.Api x)).pool
answered_effect s (act.Accept handle p) answer.Done = gained handle p refl refl refl
answered_effect s (act.Accept handle p) x = unchanged refl
answered_effect s _ x = unchanged (choice_pool _ _ _ _ refl refl)

-- a refusal of an act
refused_effect : (s : AgentState) (a : Act) (x : ApiRefused) → is_passing x ≡ false
    → PoolEffect (record s { act = Some a }) (reply.Refused x) (after_act (record s { act = Some a }) a (reply.Refused x)).pool
refused_effect s (act.Offer place handle p) x last = dropped place handle p refl refl last refl
refused_effect s _ x last = unchanged refl

-- a reply to the act that isn't done
act_effect : (s : AgentState) (a : Act) (r : Reply) → is_again r ≡ false → PoolEffect (record s { act = Some a }) r (after_act (record s { act = Some a }) a r).pool
act_effect s a (reply.Refused x) last = refused_effect s a x last
act_effect s a (reply.Api x) last = answered_effect s a x
act_effect s a _ last = unchanged refl

-- a reply to a call after the opening calls
serving_effect : (s : AgentState) (a : Option Act) (r : Reply) → is_again r ≡ false → PoolEffect (record s { act = a }) r (after_serving (record s { act = a }) a r).pool
serving_effect s (Some a) r last = act_effect s a r last
serving_effect s None r last = by (record s { act = None }) refl (is_asking s.want) (is_returning s.back) refl
  where
    by : (t : AgentState) → t.act ≡ None → (b c : Bool) → is_returning t.back ≡ c
        → PoolEffect t r (cond b (after_asking t r) (cond c (after_returning t r) (advanced (after_duty t (duty_of t) r)))).pool
    by t idle true c e = unchanged (asking_pool t r)
    by t idle false true e = returning_effect t r e last
    by t idle false false e = duty_effect t r idle (duty_of t) refl

open_effect : (s : AgentState) (st : Stage) (r : Reply) → is_again r ≡ false
    → PoolEffect (record s { stage = st }) r (cond (is_open st) (after_serving (record s { stage = st }) s.act r) (after_opening (record s { stage = st }) r)).pool
open_effect s stage.Registering r last = unchanged (opening_pool s stage.Registering r)
open_effect s stage.Declaring r last = unchanged (opening_pool s stage.Declaring r)
open_effect s stage.Opening r last = unchanged (opening_pool s stage.Opening r)
open_effect s stage.Serving r last = serving_effect (record s { stage = stage.Serving }) s.act r last

-- what a reply makes of the pool
pub pool_effect : (s : AgentState) (r : Reply) → PoolEffect s r (after_reply s r).pool
unfolding after_reply
pool_effect s r = by (is_again r) refl
  where
    by : (b : Bool) → is_again r ≡ b → PoolEffect s r (cond b s (cond (is_open s.stage) (after_serving s s.act r) (after_opening s r))).pool
    by true e = unchanged refl
    by false e = open_effect s s.stage r e
