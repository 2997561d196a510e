-- An agent always has a next duty, whatever happens.
use Rattle.std.proofs.Common.{◌≡◌, ◌⊎◌, inl, inr, ℕ, ◌+◌, ◌<◌, ◌≤◌, Bool, true, false, cond, nat_lt, List, [], ◌∷◌, ◌++◌, length, slice_get, Option, Some, None, Ok, Err, is_none, fold, refl, subst, arith, length-append, length-set}
use Rattle.grasp_types.specs.Prefix.{AddressBlock as Prefix}
use Rattle.grasp_types.specs.declared.address.Locator.{Locator}
use Rattle.grasp_types.specs.declared.reply.Reply.{Reply}
use Rattle.grasp_types.specs.declared.reply.Reply.TheVariants as reply
use Rattle.grasp_types.specs.declared.session.Handle.{Handle}
use Rattle.grasp_pool.specs.Functions.{around}
use Rattle.grasp_pool.specs.Pools.{room_of}
use Rattle.grasp_pool.proofs.Lists.{lt_tells}
use Rattle.grasp_agent.specs.Laws.{ThereIsADuty}
use Rattle.grasp_agent.specs.Replies.{AgentEvent, wanted, returned, replied, after_event, after_want, want_reply, after_return, return_reply, is_again, answer_in, asa_in, incoming_in, started_in, after_incoming, after_registering, after_opening, offering, without_offer, after_dropping, after_doing, after_act, after_starting, finished, after_asking, after_sending, after_unsent, after_returning, after_serving, advanced, after_duty, after_reply}
use Rattle.grasp_agent.specs.States.{AgentState, first_agent, is_open, is_asking, is_returning, want_session, back_session, one_of, duties_before, duties, duty_of}
use Rattle.grasp_agent.specs.declared.act.Act.{Act}
use Rattle.grasp_agent.specs.declared.act.Act.TheVariants as act
use Rattle.grasp_agent.specs.declared.back.Return.{Return}
use Rattle.grasp_agent.specs.declared.back.ReturnFault.TheVariants as fault
use Rattle.grasp_agent.specs.declared.giving.Giving.{Giving}
use Rattle.grasp_agent.specs.declared.stage.Stage.{Stage}
use Rattle.grasp_agent.specs.declared.stage.Stage.TheVariants as stage
use Rattle.grasp_agent.specs.declared.want.Want.{Want}
use Rattle.grasp_agent.specs.declared.want.WantEnd.{WantEnd}
use Rattle.grasp_agent.specs.declared.want.WantEnd.TheVariants as end

-- the next duty is one of the agent's
abbrev HasDuty : AgentState → Type 0
HasDuty s = s.cursor < duties s

choice_duty : (b : Bool) (x y : AgentState) → HasDuty x → HasDuty y → HasDuty (cond b x y)
choice_duty true x y h k = h
choice_duty false x y h k = k

-- a session is at most one duty
at_most_one : (o : Option Handle) → one_of o ≤ 1
at_most_one None = omega arith
at_most_one (Some h) = omega arith

-- ---- sessions

more_duty : (s : AgentState) (g : Giving) → HasDuty s → HasDuty (record s { giving = s.giving ++ g ∷ [] })
more_duty s g has = let n : length (s.giving ++ g ∷ []) ≡ length s.giving + 1 = length-append s.giving (g ∷ []) in omega arith

incoming_duty : (s : AgentState) (o : Option Handle) → HasDuty s → HasDuty (after_incoming s o)
incoming_duty s None has = has
incoming_duty s (Some h) has = choice_duty _ _ _ (more_duty s (record { handle = h; offer = None; first = true }) has) has

registering_duty : (s : AgentState) (o : Option ℕ) → HasDuty s → HasDuty (after_registering s o)
registering_duty s None has = has
registering_duty s (Some n) has = has

opening_duty : (s : AgentState) (st : Stage) (r : Reply) → HasDuty s → HasDuty (after_opening (record s { stage = st }) r)
opening_duty s stage.Registering r has = registering_duty (record s { stage = stage.Registering }) (asa_in (answer_in r)) has
opening_duty s stage.Declaring r has = choice_duty _ _ _ has has
opening_duty s stage.Opening r has = choice_duty _ _ _ (incoming_duty (record s { stage = stage.Serving }) (incoming_in (answer_in r)) has) has
opening_duty s stage.Serving r has = has

-- ---- acts

-- as many sessions
as_many : (xs : List Giving) (place : ℕ) → length (without_offer xs place) ≡ length xs
as_many xs place = by (slice_get xs place) refl
  where
    by : (o : Option Giving) → slice_get xs place ≡ o → length (without_offer xs place) ≡ length xs
    by None e = rw e refl
    by (Some g) e = rw e (length-set xs place (offering g None))

dropping_duty : (s : AgentState) (a : Act) → HasDuty s → HasDuty (after_dropping s a)
dropping_duty s (act.Offer place h p) has = let n : length (without_offer s.giving place) ≡ length s.giving = as_many s.giving place in omega arith
dropping_duty s _ has = has

doing_duty : (s : AgentState) (a : Act) → HasDuty s → HasDuty (after_doing s a)
doing_duty s (act.Offer place h p) has = has
doing_duty s _ has = has

act_duty : (s : AgentState) (a : Act) (r : Reply) → HasDuty s → HasDuty (after_act s a r)
act_duty s a (reply.Refused x) has = dropping_duty s a has
act_duty s a (reply.Api x) has = choice_duty _ _ _ (doing_duty s a has) has
act_duty s a _ has = has

-- ---- the request of a want

-- a want that wasn't requested has no session
asking_none : (w : Option Want) → is_asking w ≡ true → want_session w ≡ None
asking_none None e = refl
asking_none (Some w) e = by w w.session e
  where
    by : (v : Want) (o : Option Handle) → is_asking (Some (record v { session = o })) ≡ true → o ≡ None
    by v None f = refl
    by v (Some h) f = absurd (cc)

finished_duty : (s : AgentState) (e : WantEnd) → want_session s.want ≡ None → HasDuty s → HasDuty (finished s e)
finished_duty s e none has = subst (λ o. s.cursor < duties_before o (back_session s.back) + length s.giving) none has

starting_duty : (s : AgentState) (w : Option Want) (o : Option Handle) → HasDuty s → HasDuty (after_starting s w o)
starting_duty s None o has = has
starting_duty s (Some w) None has = has
starting_duty s (Some w) (Some h) has = let n : one_of (want_session s.want) ≤ 1 = at_most_one (want_session s.want) in omega arith

asking_duty : (s : AgentState) (r : Reply) → want_session s.want ≡ None → HasDuty s → HasDuty (after_asking s r)
asking_duty s (reply.Refused x) none has = finished_duty s (end.Refused x) none has
asking_duty s (reply.Api a) none has = starting_duty s s.want (started_in (Some a)) has
asking_duty s _ none has = starting_duty s s.want None has

-- ---- the request of a return

-- a return that wasn't requested has no session
returning_none : (b : Option Return) → is_returning b ≡ true → back_session b ≡ None
returning_none None e = refl
returning_none (Some b) e = by b b.session e
  where
    by : (v : Return) (o : Option Handle) → is_returning (Some (record v { session = o })) ≡ true → o ≡ None
    by v None f = refl
    by v (Some h) f = absurd (cc)

unsent_duty : (s : AgentState) (b : Option Return) → back_session s.back ≡ None → HasDuty s → HasDuty (after_unsent s b)
unsent_duty s None none has = has
unsent_duty s (Some b) none has = subst (λ o. s.cursor < duties_before (want_session s.want) o + length s.giving) none has

sending_duty : (s : AgentState) (b : Option Return) (o : Option Handle) → HasDuty s → HasDuty (after_sending s b o)
sending_duty s None o has = has
sending_duty s (Some b) None has = has
sending_duty s (Some b) (Some h) has = let n : one_of (back_session s.back) ≤ 1 = at_most_one (back_session s.back) in omega arith

returning_duty : (s : AgentState) (r : Reply) → back_session s.back ≡ None → HasDuty s → HasDuty (after_returning s r)
returning_duty s (reply.Refused x) none has = unsent_duty s s.back none has
returning_duty s (reply.Api a) none has = sending_duty s s.back (started_in (Some a)) has
returning_duty s _ none has = sending_duty s s.back None has

-- ---- replies

-- after the last duty comes the first
advanced_duty : (s : AgentState) → HasDuty (advanced s)
advanced_duty s = by (nat_lt (s.cursor + 1) (duties s)) (lt_tells (s.cursor + 1) (duties s))
  where
    by : (b : Bool) → ((b ≡ true) × (s.cursor + 1 < duties s)) ⊎ ((b ≡ false) × (duties s ≤ s.cursor + 1)) → HasDuty (record s { cursor = cond b (s.cursor + 1) 0 })
    by true (inl h) = h.1
    by true (inr h) = absurd (cc)
    by false h = omega arith

serving_duty : (s : AgentState) (a : Option Act) (r : Reply) → HasDuty s → HasDuty (after_serving s a r)
serving_duty s (Some a) r has = act_duty s a r has
serving_duty s None r has = by (is_asking s.want) refl (is_returning s.back) refl
  where
    by : (b : Bool) → is_asking s.want ≡ b → (c : Bool) → is_returning s.back ≡ c
        → HasDuty (cond b (after_asking s r) (cond c (after_returning s r) (advanced (after_duty s (duty_of s) r))))
    by true e c f = asking_duty s r (asking_none s.want e) has
    by false e true f = returning_duty s r (returning_none s.back f) has
    by false e false f = advanced_duty (after_duty s (duty_of s) r)

reply_duty : (s : AgentState) (r : Reply) → HasDuty s → HasDuty (after_reply s r)
unfolding after_reply
reply_duty s r has =
    choice_duty (is_again r) s (cond (is_open s.stage) (after_serving s s.act r) (after_opening s r)) has
    (choice_duty (is_open s.stage) (after_serving s s.act r) (after_opening s r) (serving_duty s s.act r has) (opening_duty s s.stage r has))

-- ---- wants and returns

want_duty : (s : AgentState) (w : Option Want) (n longest : ℕ) (peer : Locator) → HasDuty (record s { want = w }) → HasDuty (after_want (record s { want = w }) n longest peer (want_reply (record s { want = w })))
want_duty s None n longest peer has = by (nat_lt 0 (room_of s.pool))
  where
    by : (b : Bool) → HasDuty (after_want (record s { want = None }) n longest peer (cond b (Ok tt) (Err Rattle.grasp_agent.specs.declared.want.WantFault.TheVariants.Full)))
    by true = has
    by false = has
want_duty s (Some w) n longest peer has = has

returned_duty : (s : AgentState) (b : Option Return) (p : Prefix) (peer : Locator) → HasDuty (record s { back = b })
    → HasDuty (after_return (record s { back = b }) p peer (return_reply (record s { back = b }) p))
returned_duty s None p peer has = by (is_none (around s.pool.free p)) (nat_lt (room_of s.pool) 128)
  where
    by : (a b : Bool) → HasDuty (after_return (record s { back = None }) p peer (cond a (Err fault.NotFree) (cond b (Err fault.Full) (Ok tt))))
    by true b = has
    by false true = has
    by false false = has
returned_duty s (Some b) p peer has = has

event_duty : (s : AgentState) (e : AgentEvent) → HasDuty s → HasDuty (after_event s e)
event_duty s (wanted n longest peer) has = want_duty s s.want n longest peer has
event_duty s (returned p peer) has = returned_duty s s.back p peer has
event_duty s (replied r) has = reply_duty s r has

events_duty : (s : AgentState) (es : List AgentEvent) → HasDuty s → HasDuty (fold after_event s es)
events_duty s [] has = has
events_duty s (e ∷ es) has = events_duty (after_event s e) es (event_duty s e has)

-- an agent always has a next duty
pub there_is_a_duty : ThereIsADuty
there_is_a_duty h events = events_duty (first_agent h) events (omega arith)
