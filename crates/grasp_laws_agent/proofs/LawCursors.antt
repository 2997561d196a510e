-- How the cursor of an agent goes round, and how its opening calls go on.
use Rattle.std.proofs.Common.{◌≡◌, ◌⊎◌, inl, inr, ℕ, ◌+◌, ◌<◌, ◌≤◌, nat_lt, Bool, true, false, cond, [], ◌∷◌, ◌++◌, length, slice_get, Option, Some, None, refl, sym, ap, subst, ◌∙◌}
use Rattle.grasp_types.specs.declared.reply.ApiAnswer.TheVariants as answer
use Rattle.grasp_types.specs.declared.reply.Reply.{Reply}
use Rattle.grasp_types.specs.declared.reply.Reply.TheVariants as reply
use Rattle.grasp_types.specs.declared.session.Handle.{Handle}
use Rattle.grasp_types.specs.declared.session.Progress.{Progress}
use Rattle.grasp_types.specs.declared.session.Progress.TheVariants as progress
use Rattle.grasp_pool.proofs.Lists.{lt_tells}
use Rattle.grasp_laws_agent.specs.Moves.{NextPlace, HasDone, CursorsTurn, OpeningGoes, OpeningsGoOn, OpeningsEnd}
use Rattle.grasp_agent.specs.Replies.{answer_in, is_again, is_answered, is_done, asa_in, incoming_in, started_in, progress_in, after_incoming, after_registering, after_opening, after_act, after_doing, after_dropping, after_starting, after_asking, after_sending, after_unsent, after_returning, after_want_progress, after_back_progress, after_give_progress, after_duty, after_serving, advanced, after_reply}
use Rattle.grasp_agent.specs.States.{AgentState, is_open, is_asking, is_returning, duties, duty_of}
use Rattle.grasp_agent.specs.declared.act.Act.{Act}
use Rattle.grasp_agent.specs.declared.act.Act.TheVariants as act
use Rattle.grasp_agent.specs.declared.back.Return.{Return}
use Rattle.grasp_agent.specs.declared.duty.Duty.{Duty}
use Rattle.grasp_agent.specs.declared.duty.Duty.TheVariants as duty
use Rattle.grasp_agent.specs.declared.giving.Giving.{Giving}
use Rattle.grasp_agent.specs.declared.stage.Stage.{Stage}
use Rattle.grasp_agent.specs.declared.stage.Stage.TheVariants as stage
use Rattle.grasp_agent.specs.declared.want.Want.{Want}
use Rattle.grasp_laws_agent.proofs.LawMoves.{at_duty}

-- ---- what else stays

-- the number, the stage and the cursor stay
record Stays (s t : AgentState) : Type 0 where
  asa : t.asa ≡ s.asa
  stage : t.stage ≡ s.stage
  cursor : t.cursor ≡ s.cursor

stays : (s : AgentState) → Stays s s
stays s = record { asa = refl; stage = refl; cursor = refl }

choice_stays : (s : AgentState) (b : Bool) (x y : AgentState) → Stays s x → Stays s y → Stays s (cond b x y)
choice_stays s true x y h k = h
choice_stays s false x y h k = k

incoming_stays : (s : AgentState) (o : Option Handle) → Stays s (after_incoming s o)
incoming_stays s None = stays s
incoming_stays s (Some h) = by (nat_lt (length s.giving) 64)
  where
    by : (b : Bool) → Stays s (cond b (record s { giving = s.giving ++ record { handle = h; offer = None; first = true } ∷ [] }) s)
    by true = record { asa = refl; stage = refl; cursor = refl }
    by false = stays s

dropping_stays : (s : AgentState) (a : Act) → Stays s (after_dropping s a)
dropping_stays s (act.Offer place h p) = record { asa = refl; stage = refl; cursor = refl }
dropping_stays s _ = record { asa = refl; stage = refl; cursor = refl }

doing_stays : (s : AgentState) (a : Act) → Stays s (after_doing s a)
doing_stays s (act.Offer place h p) = record { asa = refl; stage = refl; cursor = refl }
doing_stays s _ = record { asa = refl; stage = refl; cursor = refl }

act_stays : (s : AgentState) (a : Act) (r : Reply) → Stays s (after_act s a r)
act_stays s a (reply.Refused x) = dropping_stays s a
act_stays s a (reply.Api x) = choice_stays s (is_done (Some x)) (after_doing s a) s (doing_stays s a) (stays s)
act_stays s a _ = stays s

starting_stays : (s : AgentState) (w : Option Want) (o : Option Handle) → Stays s (after_starting s w o)
starting_stays s None o = stays s
starting_stays s (Some w) None = stays s
starting_stays s (Some w) (Some h) = record { asa = refl; stage = refl; cursor = refl }

asking_stays : (s : AgentState) (r : Reply) → Stays s (after_asking s r)
asking_stays s (reply.Refused x) = record { asa = refl; stage = refl; cursor = refl }
asking_stays s (reply.Api a) = starting_stays s s.want (started_in (Some a))
asking_stays s _ = starting_stays s s.want None

sending_stays : (s : AgentState) (b : Option Return) (o : Option Handle) → Stays s (after_sending s b o)
sending_stays s None o = stays s
sending_stays s (Some b) None = stays s
sending_stays s (Some b) (Some h) = record { asa = refl; stage = refl; cursor = refl }

unsent_stays : (s : AgentState) (b : Option Return) → Stays s (after_unsent s b)
unsent_stays s None = stays s
unsent_stays s (Some b) = record { asa = refl; stage = refl; cursor = refl }

returning_stays : (s : AgentState) (r : Reply) → Stays s (after_returning s r)
returning_stays s (reply.Refused x) = unsent_stays s s.back
returning_stays s (reply.Api a) = sending_stays s s.back (started_in (Some a))
returning_stays s _ = sending_stays s s.back None

back_stays : (s : AgentState) (b : Option Return) (p : Option Progress) → Stays s (after_back_progress s b p)
back_stays s (Some b) (Some (progress.Ended e)) = record { asa = refl; stage = refl; cursor = refl }
back_stays s _ _ = stays s

want_stays : (s : AgentState) (w : Option Want) (h : Handle) (p : Option Progress) → Stays s (after_want_progress s w h p)
want_stays s (Some w) h (Some (progress.Turn o)) = record { asa = refl; stage = refl; cursor = refl }
want_stays s (Some w) h (Some (progress.Ended e)) = record { asa = refl; stage = refl; cursor = refl }
want_stays s _ h _ = stays s

giving_stays : (s : AgentState) (place : ℕ) (o : Option Giving) (p : Option Progress) → Stays s (after_give_progress s place o p)
giving_stays s place (Some g) (Some (progress.Turn o)) = record { asa = refl; stage = refl; cursor = refl }
giving_stays s place (Some g) (Some (progress.Ended e)) = record { asa = refl; stage = refl; cursor = refl }
giving_stays s place _ _ = stays s

duty_stays : (s : AgentState) (d : Duty) (r : Reply) → Stays s (after_duty s d r)
duty_stays s duty.Listen r = incoming_stays s (incoming_in (answer_in r))
duty_stays s (duty.Want h) r = want_stays s s.want h (progress_in (answer_in r))
duty_stays s (duty.Return h) r = back_stays s s.back (progress_in (answer_in r))
duty_stays s (duty.Give place h) r = giving_stays s place (slice_get s.giving place) (progress_in (answer_in r))

-- ---- the cursor

registering_cursor : (s : AgentState) (o : Option ℕ) → (after_registering s o).cursor ≡ s.cursor
registering_cursor s None = refl
registering_cursor s (Some n) = refl

choice_cursor : (b : Bool) (x y : AgentState) (c : ℕ) → x.cursor ≡ c → y.cursor ≡ c → (cond b x y).cursor ≡ c
choice_cursor true x y c h k = h
choice_cursor false x y c h k = k

opening_cursor : (s : AgentState) (st : Stage) (r : Reply) → (after_opening (record s { stage = st }) r).cursor ≡ s.cursor
opening_cursor s stage.Registering r = registering_cursor (record s { stage = stage.Registering }) (asa_in (answer_in r))
opening_cursor s stage.Declaring r = choice_cursor (is_done (answer_in r)) _ _ s.cursor refl refl
opening_cursor s stage.Opening r =
    choice_cursor (is_answered r) _ _ s.cursor (incoming_stays (record s { stage = stage.Serving }) (incoming_in (answer_in r))).cursor refl
opening_cursor s stage.Serving r = refl

-- after a duty comes the next place
next_place : (s x : AgentState) → x.cursor ≡ s.cursor → NextPlace s (advanced x)
next_place s x e = by (nat_lt (x.cursor + 1) (duties x)) (lt_tells (x.cursor + 1) (duties x))
  where
    by : (b : Bool) → ((b ≡ true) × (x.cursor + 1 < duties x)) ⊎ ((b ≡ false) × (duties x ≤ x.cursor + 1))
        → NextPlace s (record x { cursor = cond b (x.cursor + 1) 0 })
    by true (inl t) = inl (ap (λ (c : ℕ). c + 1) e, t.1)
    by true (inr t) = absurd (cc)
    by false (inl t) = absurd (cc)
    by false (inr t) = inr (refl, subst (λ (c : ℕ). duties x ≤ c + 1) e t.1)

duty_done : (s : AgentState) (r : Reply) → HasDone s r → NextPlace s (after_reply s r)
duty_done s r done =
    subst (NextPlace s) (sym (at_duty s r (duty_of s) done.1 done.0)) (next_place s (after_duty s (duty_of s) r) (duty_stays s (duty_of s) r).cursor)

serving_cursor : (s : AgentState) (a : Option Act) (r : Reply) → s.act ≡ a → is_open s.stage ≡ true → is_again r ≡ false → ¬ HasDone s r
    → (after_serving s a r).cursor ≡ s.cursor
serving_cursor s (Some a) r e serves again none = (act_stays s a r).cursor
serving_cursor s None r e serves again none = by (is_asking s.want) refl (is_returning s.back) refl
  where
    by : (b : Bool) → is_asking s.want ≡ b → (c : Bool) → is_returning s.back ≡ c
        → (cond b (after_asking s r) (cond c (after_returning s r) (advanced (after_duty s (duty_of s) r)))).cursor ≡ s.cursor
    by true asks c f = (asking_stays s r).cursor
    by false asked true returns = (returning_stays s r).cursor
    by false asked false sent = absurd (none (record { serves = serves; idle = e; asked = asked; sent = sent; duty = refl }, again))

cursor_stays : (s : AgentState) (r : Reply) → ¬ HasDone s r → (after_reply s r).cursor ≡ s.cursor
unfolding after_reply
cursor_stays s r none = by (is_again r) refl (is_open s.stage) refl
  where
    by : (b : Bool) → is_again r ≡ b → (c : Bool) → is_open s.stage ≡ c → (cond b s (cond c (after_serving s s.act r) (after_opening s r))).cursor ≡ s.cursor
    by true e c f = refl
    by false e true f = serving_cursor s s.act r refl f e none
    by false e false f = opening_cursor s s.stage r

pub cursors_turn : CursorsTurn
cursors_turn s r = (λ done. duty_done s r done, λ none. cursor_stays s r none)

-- ---- the opening calls

opening_goes : (s : AgentState) (st : Stage) (r : Reply) → is_open st ≡ false
    → OpeningGoes (record s { stage = st }) r (after_opening (record s { stage = st }) r) st
opening_goes s stage.Registering (reply.Api (answer.Asa n)) shut = inl (n, refl, refl)
opening_goes s stage.Registering _ shut = inr (λ n e. absurd (cc), refl)
opening_goes s stage.Declaring (reply.Api answer.Done) shut = inl (refl, refl)
opening_goes s stage.Declaring _ shut = inr (λ e. absurd (cc), refl)
opening_goes s stage.Opening (reply.Api x) shut =
    let k : Stays (record s { stage = stage.Serving }) (after_incoming (record s { stage = stage.Serving }) (incoming_in (Some x)))
    = incoming_stays (record s { stage = stage.Serving }) (incoming_in (Some x))
    in inl (x, refl, k.stage, k.asa)
opening_goes s stage.Opening _ shut = inr (λ a e. absurd (cc), refl)
opening_goes s stage.Serving r shut = absurd (cc)

-- a call that is made again leaves the agent
again_goes : (s : AgentState) (st : Stage) (r : Reply) → is_again r ≡ true → s.stage ≡ st → OpeningGoes s r s st
again_goes s stage.Registering r again is = inr (λ n e. let last : is_again r ≡ false = ap is_again e in absurd (cc), refl)
again_goes s stage.Declaring r again is = inr (λ e. let last : is_again r ≡ false = ap is_again e in absurd (cc), refl)
again_goes s stage.Opening r again is = inr (λ a e. let last : is_again r ≡ false = ap is_again e in absurd (cc), refl)
again_goes s stage.Serving r again is = (is, refl)

-- an agent that serves goes on
serving_stays : (s : AgentState) (a : Option Act) (r : Reply) → ((after_serving s a r).stage ≡ s.stage) × ((after_serving s a r).asa ≡ s.asa)
serving_stays s (Some a) r = let k : Stays s (after_act s a r) = act_stays s a r in (k.stage, k.asa)
serving_stays s None r = by (is_asking s.want) (is_returning s.back)
  where
    by : (b c : Bool) → ((cond b (after_asking s r) (cond c (after_returning s r) (advanced (after_duty s (duty_of s) r)))).stage ≡ s.stage)
        × ((cond b (after_asking s r) (cond c (after_returning s r) (advanced (after_duty s (duty_of s) r)))).asa ≡ s.asa)
    by true c = let k : Stays s (after_asking s r) = asking_stays s r in (k.stage, k.asa)
    by false true = let k : Stays s (after_returning s r) = returning_stays s r in (k.stage, k.asa)
    by false false = let k : Stays s (after_duty s (duty_of s) r) = duty_stays s (duty_of s) r in (k.stage, k.asa)

serving_goes : (s : AgentState) (st : Stage) (r : Reply) → is_open st ≡ true → s.stage ≡ st → OpeningGoes s r (after_serving s s.act r) st
serving_goes s stage.Serving r serves is = let k = serving_stays s s.act r in (k.0 ∙ is, k.1)
serving_goes s _ r serves is = absurd (cc)

pub openings_go_on : OpeningsGoOn
unfolding after_reply
openings_go_on s r = by (is_again r) refl (is_open s.stage) refl
  where
    by : (b : Bool) → is_again r ≡ b → (c : Bool) → is_open s.stage ≡ c
        → OpeningGoes s r (cond b s (cond c (after_serving s s.act r) (after_opening s r))) s.stage
    by true e c f = again_goes s s.stage r e refl
    by false e true f = serving_goes s s.stage r f refl
    by false e false f = opening_goes s s.stage r f

pub openings_end : OpeningsEnd
unfolding after_reply
openings_end h n = refl
