-- What a want and a reply make of an agent of PrefixManager.
use Rattle.std.specs.Prelude.{ℕ, ◌+◌, nat_lt, Bool, true, false, if◌then◌else◌, List, [], ◌∷◌, ◌++◌, length, slice_get, slice_set, take, drop, Option, Some, None, is_none, Result, Ok, Err, fold}
use Rattle.grasp_types.specs.Prefix.{AddressBlock as Prefix}
use Rattle.grasp_types.specs.declared.address.Locator.{Locator}
use Rattle.grasp_types.specs.declared.objective.Objective.{Objective}
use Rattle.grasp_types.specs.declared.refusal.ApiRefused.{ApiRefused}
use Rattle.grasp_types.specs.declared.refusal.ApiRefused.TheVariants as refusal
use Rattle.grasp_types.specs.declared.reply.ApiAnswer.{ApiAnswer}
use Rattle.grasp_types.specs.declared.reply.ApiAnswer.TheVariants as answer
use Rattle.grasp_types.specs.declared.reply.Reply.{Reply}
use Rattle.grasp_types.specs.declared.reply.Reply.TheVariants as reply
use Rattle.grasp_types.specs.declared.session.By.TheVariants.{Mine, Theirs}
use Rattle.grasp_types.specs.declared.session.Handle.{Handle}
use Rattle.grasp_types.specs.declared.session.Outcome.{Outcome}
use Rattle.grasp_types.specs.declared.session.Outcome.TheVariants as outcome
use Rattle.grasp_types.specs.declared.session.Progress.{Progress}
use Rattle.grasp_types.specs.declared.session.Progress.TheVariants as progress
use Rattle.grasp_pool.specs.Holdings.{Holding}
use Rattle.grasp_pool.specs.Pools.{room_of}
use Rattle.grasp_pool.specs.Functions.{around, after_take_at, after_back, after_confirm, after_doubt, after_settle, after_gaining}
use Rattle.grasp_agent.specs.Values.{offered_in}
use Rattle.grasp_agent.specs.Decisions.{giver_decision, after_deciding, requester_decision}
use Rattle.grasp_agent.specs.States.{AgentState, first_agent, is_open, is_asking, is_returning, duties, duty_of}
use Rattle.grasp_agent.specs.declared.act.Act.{Act}
use Rattle.grasp_agent.specs.declared.act.Act.TheVariants as act
use Rattle.grasp_agent.specs.declared.back.Return.{Return}
use Rattle.grasp_agent.specs.declared.back.ReturnFault.{ReturnFault}
use Rattle.grasp_agent.specs.declared.back.ReturnFault.TheVariants as fault
use Rattle.grasp_agent.specs.declared.decision.GiverDecision.{GiverDecision}
use Rattle.grasp_agent.specs.declared.decision.GiverDecision.TheVariants as giver
use Rattle.grasp_agent.specs.declared.decision.RequesterDecision.{RequesterDecision}
use Rattle.grasp_agent.specs.declared.decision.RequesterDecision.TheVariants as requester
use Rattle.grasp_agent.specs.declared.duty.Duty.{Duty}
use Rattle.grasp_agent.specs.declared.duty.Duty.TheVariants as duty
use Rattle.grasp_agent.specs.declared.giving.Giving.{Giving}
use Rattle.grasp_agent.specs.declared.stage.Stage.{Stage}
use Rattle.grasp_agent.specs.declared.stage.Stage.TheVariants.{Registering, Declaring, Opening, Serving}
use Rattle.grasp_agent.specs.declared.want.Want.{Want}
use Rattle.grasp_agent.specs.declared.want.WantEnd.{WantEnd}
use Rattle.grasp_agent.specs.declared.want.WantEnd.TheVariants as end
use Rattle.grasp_agent.specs.declared.want.WantFault.{WantFault}
use Rattle.grasp_agent.specs.declared.want.WantFault.TheVariants.{Busy, Full}

-- ---- wants

-- one want at a time, and room for the prefix
abbrev pub want_reply : AgentState → Result (Unit {0}) WantFault
want_reply s = by_want s.want where
  by_want : Option Want → Result (Unit {0}) WantFault
  by_want None = if nat_lt 0 (room_of s.pool) then Ok tt else Err Full
  by_want (Some w) = Err (Busy w.length w.longest)

-- a new want isn't requested yet
abbrev pub new_want : ℕ → ℕ → Locator → Want
new_want wanted longest peer = record { length = wanted; longest = longest; peer = peer; session = None }

abbrev pub after_want : AgentState → ℕ → ℕ → Locator → Result (Unit {0}) WantFault → AgentState
after_want s wanted longest peer (Ok done) = record s { want = Some (new_want wanted longest peer) }
after_want s wanted longest peer (Err fault) = s

-- ---- returns

-- one return at a time, of a prefix that is all free, and room for the pieces of what is split
abbrev pub return_reply : AgentState → Prefix → Result (Unit {0}) ReturnFault
return_reply s p = by_return s.back where
  by_return : Option Return → Result (Unit {0}) ReturnFault
  by_return None = if is_none (around s.pool.free p) then Err fault.NotFree else (if nat_lt (room_of s.pool) 128 then Err fault.Full else Ok tt)
  by_return (Some r) = Err (fault.Busy r.prefix)

-- a new return isn't requested yet
abbrev pub new_return : Prefix → Locator → Return
new_return p peer = record { prefix = p; peer = peer; session = None }

-- its prefix is reserved
abbrev pub after_return : AgentState → Prefix → Locator → Result (Unit {0}) ReturnFault → AgentState
after_return s p peer (Ok done) = record s { pool = after_take_at s.pool p true; back = Some (new_return p peer) }
after_return s p peer (Err fault) = s

-- ---- settlings

-- a doubtful prefix is free again
abbrev pub after_settling : AgentState → Prefix → AgentState
after_settling s p = record s { pool = after_settle s.pool p }

-- ---- what a reply tells

-- for these refusals the call is made again
abbrev pub is_passing : ApiRefused → Bool
is_passing refusal.OutboxFull = true
is_passing refusal.OutOfMemory = true
is_passing _ = false

abbrev pub is_again : Reply → Bool
is_again (reply.Refused refused) = is_passing refused
is_again reply.OutOfMemory = true
is_again _ = false

abbrev pub refused_in : Reply → Option ApiRefused
refused_in (reply.Refused refused) = Some refused
refused_in _ = None

abbrev pub answer_in : Reply → Option ApiAnswer
answer_in (reply.Api a) = Some a
answer_in _ = None

-- the call was answered, however
abbrev pub is_answered : Reply → Bool
is_answered (reply.Api a) = true
is_answered _ = false

-- the number of the agent that was registered
abbrev pub asa_in : Option ApiAnswer → Option ℕ
asa_in None = None
asa_in (Some a) = by_answer a where
  by_answer : ApiAnswer → Option ℕ
  by_answer (answer.Asa n) = Some n
  by_answer _ = None

abbrev pub is_done : Option ApiAnswer → Bool
is_done None = false
is_done (Some a) = by_answer a where
  by_answer : ApiAnswer → Bool
  by_answer answer.Done = true
  by_answer _ = false

-- the session that began
abbrev pub started_in : Option ApiAnswer → Option Handle
started_in None = None
started_in (Some a) = by_answer a where
  by_answer : ApiAnswer → Option Handle
  by_answer (answer.Started h) = Some h
  by_answer _ = None

-- the session that a peer began
abbrev pub incoming_in : Option ApiAnswer → Option Handle
incoming_in None = None
incoming_in (Some a) = by_answer a where
  by_answer : ApiAnswer → Option Handle
  by_answer (answer.Incoming h from o) = Some h
  by_answer _ = None

-- how a session stands
abbrev pub progress_in : Option ApiAnswer → Option Progress
progress_in None = None
progress_in (Some a) = by_answer a where
  by_answer : ApiAnswer → Option Progress
  by_answer (answer.Polled p) = Some p
  by_answer _ = None

-- ---- the opening calls

-- a session that a peer began is the last in which this agent gives, of which there are at most 64
abbrev pub after_incoming : AgentState → Option Handle → AgentState
after_incoming s None = s
after_incoming s (Some h) = if nat_lt (length s.giving) 64 then record s { giving = s.giving ++ record { handle = h; offer = None; first = true } ∷ [] } else s

abbrev pub after_registering : AgentState → Option ℕ → AgentState
after_registering s None = s
after_registering s (Some n) = record s { asa = n; stage = Declaring }

-- the first listening is done with any answer; each other call is made again where it isn't answered as its kind is
abbrev pub after_opening : AgentState → Reply → AgentState
after_opening s r = by_stage s.stage where
  by_stage : Stage → AgentState
  by_stage Registering = after_registering s (asa_in (answer_in r))
  by_stage Declaring = if is_done (answer_in r) then record s { stage = Opening } else s
  by_stage Opening = if is_answered r then after_incoming (record s { stage = Serving }) (incoming_in (answer_in r)) else s
  by_stage Serving = s

-- ---- acts

-- the giving session with another offer
abbrev pub offering : Giving → Option Prefix → Giving
offering g p = record g { offer = p }

-- the sessions where the one at this place offers nothing
abbrev pub without_offer : List Giving → ℕ → List Giving
without_offer giving place = by_entry (slice_get giving place) where
  by_entry : Option Giving → List Giving
  by_entry None = giving
  by_entry (Some g) = slice_set giving place (offering g None)

-- an act that was refused is dropped, and a prefix that it would have offered goes back
abbrev pub after_dropping : AgentState → Act → AgentState
after_dropping s (act.Offer place handle p) = record s { act = None; pool = after_back s.pool p; giving = without_offer s.giving place }
after_dropping s (act.Counter handle n) = record s { act = None }
after_dropping s (act.Accept handle p) = record s { act = None }
after_dropping s (act.Decline handle reason) = record s { act = None }

-- an acceptance gains its prefix
abbrev pub after_doing : AgentState → Act → AgentState
after_doing s (act.Offer place handle p) = record s { act = None }
after_doing s (act.Counter handle n) = record s { act = None }
after_doing s (act.Accept handle p) = record s { act = None; pool = after_gaining s.pool p }
after_doing s (act.Decline handle reason) = record s { act = None }

abbrev pub after_act : AgentState → Act → Reply → AgentState
after_act s a r = by_refusal (refused_in r) where
  by_refusal : Option ApiRefused → AgentState
  by_refusal (Some refused) = after_dropping s a
  by_refusal None = if is_done (answer_in r) then after_doing s a else s

-- ---- the request of a want

abbrev pub after_starting : AgentState → Option Want → Option Handle → AgentState
after_starting s None session = s
after_starting s (Some w) None = s
after_starting s (Some w) (Some h) = record s { want = Some (record w { session = Some h }) }

abbrev pub finished : AgentState → WantEnd → AgentState
finished s e = record s { want = None; last = Some e }

abbrev pub after_asking : AgentState → Reply → AgentState
after_asking s r = by_refusal (refused_in r) where
  by_refusal : Option ApiRefused → AgentState
  by_refusal (Some refused) = finished s (end.Refused refused)
  by_refusal None = after_starting s s.want (started_in (answer_in r))

-- ---- the request of a return

-- the session of the return began
abbrev pub after_sending : AgentState → Option Return → Option Handle → AgentState
after_sending s None session = s
after_sending s (Some r) None = s
after_sending s (Some r) (Some h) = record s { back = Some (record r { session = Some h }) }

-- a return that was never offered goes back
abbrev pub after_unsent : AgentState → Option Return → AgentState
after_unsent s None = s
after_unsent s (Some r) = record s { back = None; pool = after_back s.pool r.prefix }

abbrev pub after_returning : AgentState → Reply → AgentState
after_returning s r = by_refusal (refused_in r) where
  by_refusal : Option ApiRefused → AgentState
  by_refusal (Some refused) = after_unsent s s.back
  by_refusal None = after_sending s s.back (started_in (answer_in r))

-- ---- duties

-- the prefix that was agreed on is held
abbrev pub held_end : Option Prefix → WantEnd
held_end None = end.Invalid
held_end (Some p) = end.Held p

-- how a want ends with its session. It is `Empty` where the peer accepted the request itself
abbrev pub want_end : Outcome → WantEnd
want_end (outcome.Agreed Mine o) = held_end (offered_in o.value)
want_end (outcome.Agreed Theirs o) = end.Empty
want_end (outcome.Declined by reason) = end.Declined
want_end (outcome.Synchronized o) = end.Invalid
want_end (outcome.TimedOut deadline now) = end.TimedOut
want_end outcome.Broken = end.Broken
want_end outcome.OutOfMemory = end.OutOfMemory
want_end (outcome.Invalid by) = end.Invalid

-- a decision as an act in the session of a want
abbrev pub want_act : Handle → RequesterDecision → Act
want_act h (requester.Accept p) = act.Accept h p
want_act h (requester.Counter n) = act.Counter h n
want_act h (requester.Decline reason) = act.Decline h reason

abbrev pub after_want_progress : AgentState → Option Want → Handle → Option Progress → AgentState
after_want_progress s None h p = s
after_want_progress s (Some w) h None = s
after_want_progress s (Some w) h (Some progress.NotYet) = s
after_want_progress s (Some w) h (Some (progress.Turn o)) = record s { act = Some (want_act h (requester_decision s.pool w.length w.longest o.value o.loops)) }
after_want_progress s (Some w) h (Some (progress.Ended e)) = finished s (want_end e)

-- an offer that was made before goes back
abbrev pub giving_back : Holding → Option Prefix → Holding
giving_back h None = h
giving_back h (Some p) = after_back h p

-- a decision as an act in the giving session at this place
abbrev pub give_act : ℕ → Handle → GiverDecision → Act
give_act place h (giver.Offer p) = act.Offer place h p
give_act place h (giver.Accept p) = act.Accept h p
give_act place h (giver.Decline reason) = act.Decline h reason

-- the giving session after its agent has decided
abbrev pub deciding : Giving → GiverDecision → Giving
deciding g (giver.Offer p) = record { handle = g.handle; offer = Some p; first = false }
deciding g (giver.Accept p) = offering g None
deciding g (giver.Decline reason) = offering g None

-- the turn is the giver's: its last offer goes back, and it decides anew
abbrev pub after_giver_turn : AgentState → ℕ → Giving → Objective → AgentState
after_giver_turn s place g o = decided (giving_back s.pool g.offer) where
  acting : Holding → GiverDecision → AgentState
  acting h d = record s { pool = after_deciding h d; giving = slice_set s.giving place (deciding g d); act = Some (give_act place g.handle d) }

  decided : Holding → AgentState
  decided h = acting h (giver_decision h o.value o.loops g.first)

-- what becomes of an offer when its session ends: it is confirmed by the peer's acceptance, free by the peer's decline, and in doubt by all else
abbrev pub settled : Holding → Prefix → Outcome → Holding
settled h p (outcome.Agreed Theirs o) = after_confirm h p
settled h p (outcome.Agreed Mine o) = after_doubt h p
settled h p (outcome.Declined Theirs reason) = after_back h p
settled h p (outcome.Declined Mine reason) = after_doubt h p
settled h p (outcome.Synchronized o) = after_doubt h p
settled h p (outcome.TimedOut deadline now) = after_doubt h p
settled h p outcome.Broken = after_doubt h p
settled h p outcome.OutOfMemory = after_doubt h p
settled h p (outcome.Invalid by) = after_doubt h p

abbrev pub settling : Holding → Option Prefix → Outcome → Holding
settling h None e = h
settling h (Some p) e = settled h p e

-- the list without the part at this place
abbrev pub removed : {A : Type 0} → List A → ℕ → List A
removed xs place = take place xs ++ drop (place + 1) xs

abbrev pub after_giver_end : AgentState → ℕ → Giving → Outcome → AgentState
after_giver_end s place g e = record s { pool = settling s.pool g.offer e; giving = removed s.giving place }

abbrev pub after_give_progress : AgentState → ℕ → Option Giving → Option Progress → AgentState
after_give_progress s place None p = s
after_give_progress s place (Some g) None = s
after_give_progress s place (Some g) (Some progress.NotYet) = s
after_give_progress s place (Some g) (Some (progress.Turn o)) = after_giver_turn s place g o
after_give_progress s place (Some g) (Some (progress.Ended e)) = after_giver_end s place g e

-- the return's session ended. Its turn never comes, since its one loop allows no step
abbrev pub after_back_progress : AgentState → Option Return → Option Progress → AgentState
after_back_progress s None p = s
after_back_progress s (Some r) None = s
after_back_progress s (Some r) (Some progress.NotYet) = s
after_back_progress s (Some r) (Some (progress.Turn o)) = s
after_back_progress s (Some r) (Some (progress.Ended e)) = record s { pool = settled s.pool r.prefix e; back = None }

abbrev pub after_duty : AgentState → Duty → Reply → AgentState
after_duty s duty.Listen r = after_incoming s (incoming_in (answer_in r))
after_duty s (duty.Want h) r = after_want_progress s s.want h (progress_in (answer_in r))
after_duty s (duty.Return h) r = after_back_progress s s.back (progress_in (answer_in r))
after_duty s (duty.Give place h) r = after_give_progress s place (slice_get s.giving place) (progress_in (answer_in r))

-- the next duty comes, and after the last one the first
abbrev pub advanced : AgentState → AgentState
advanced s = record s { cursor = if nat_lt (s.cursor + 1) (duties s) then s.cursor + 1 else 0 }

-- ---- replies

abbrev pub after_serving : AgentState → Option Act → Reply → AgentState
after_serving s (Some a) r = after_act s a r
after_serving s None r = if is_asking s.want then after_asking s r else (if is_returning s.back then after_returning s r else advanced (after_duty s (duty_of s) r))

-- after the reply to the call that was next
unfoldable pub after_reply : AgentState → Reply → AgentState
after_reply s r = if is_again r then s else (if is_open s.stage then after_serving s s.act r else after_opening s r)

-- ---- all that happens to an agent

-- a want or a return that was asked for, or the reply to the call that was next
pub data AgentEvent : Type 0 where
  wanted : ℕ → ℕ → Locator → AgentEvent
  returned : Prefix → Locator → AgentEvent
  replied : Reply → AgentEvent

abbrev pub after_event : AgentState → AgentEvent → AgentState
after_event s (wanted n longest peer) = after_want s n longest peer (want_reply s)
after_event s (returned p peer) = after_return s p peer (return_reply s p)
after_event s (replied r) = after_reply s r

-- the agent that was opened with this pool after these events, oldest first
abbrev pub agent_after : Holding → List AgentEvent → AgentState
agent_after h events = fold after_event (first_agent h) events
