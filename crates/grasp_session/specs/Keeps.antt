-- What the code keeps of a session.
use Rattle.std.specs.Prelude.{◌≡◌, ℕ, Bool, true, false, not, ◌&&◌, Option, Some, None, is_none, nat_lt, ◌==◌, bytes_eq, if◌then◌else◌}
use Rattle.grasp_types.specs.declared.objective.Objective.{Objective}
use Rattle.grasp_types.specs.declared.session.By.TheVariants.{Mine}
use Rattle.grasp_types.specs.declared.message.Verdict.{Verdict}
use Rattle.grasp_types.specs.declared.message.Verdict.TheVariants.{Accept, Decline}
use Rattle.grasp_types.specs.declared.session.Outcome.{Outcome}
use Rattle.grasp_types.specs.declared.session.Outcome.TheVariants as outcome
use Rattle.grasp_session.specs.declared.answer.Act.{Act}
use Rattle.grasp_session.specs.declared.answer.Act.TheVariants as act
use Rattle.grasp_session.specs.declared.answer.SessionRefused.{SessionRefused}
use Rattle.grasp_session.specs.declared.answer.SessionRefused.TheVariants.{NotYourTurn, LoopsSpent, WaitsSpent}
use Rattle.grasp_session.specs.declared.session.Cause.{Cause}
use Rattle.grasp_session.specs.declared.session.Cause.TheVariants as cause
use Rattle.grasp_session.specs.declared.session.Ending.{Ending}
use Rattle.grasp_session.specs.declared.session.Ending.TheVariants.{Agreed, Declined, Synchronized, TimedOut, Broken, OutOfMemory, Invalid}
use Rattle.grasp_session.specs.declared.session.Session.{Session}
use Rattle.grasp_session.specs.Messages.{Near, is_side}
use Rattle.grasp_session.specs.Transcript.{Mark, Expired, Closed, Starved, Faulty, is_mine, my_offer, peer_offer, last_offer, request_of, session_of, waits_of, deadline_of, outcome_of, is_going}
use Rattle.grasp_session.specs.Sessions.{SessionState}

abbrev pub outcome_with : Objective → Ending → Outcome
outcome_with o (Agreed by) = outcome.Agreed by o
outcome_with o (Declined by reason) = outcome.Declined by reason
outcome_with o (Synchronized p) = outcome.Synchronized p
outcome_with o (TimedOut deadline now) = outcome.TimedOut deadline now
outcome_with o Broken = outcome.Broken
outcome_with o OutOfMemory = outcome.OutOfMemory
outcome_with o (Invalid by) = outcome.Invalid by

abbrev pub ended_with : Objective → Option Ending → Option Outcome
ended_with o None = None
ended_with o (Some e) = Some (outcome_with o e)

-- Inside: by this end's acceptance or decline
abbrev pub ending_of : Verdict → Ending
ending_of Accept = Agreed Mine
ending_of (Decline reason) = Declined Mine reason

abbrev pub offer_or : Objective → Option Objective → Objective
offer_or request None = request
offer_or request (Some o) = o

-- the last offer of either end
abbrev pub offer_in : Session → Objective
offer_in s = offer_or s.request s.offer

-- Inside: a message of this session number may come: it is the other end's turn
abbrev pub awaits_in : Session → ℕ → Bool
awaits_in s n = (n == s.session) && not s.my_turn

-- Inside: an objective that may be a step: with the request's name and flags, and fewer loops than the last offer, but some
abbrev pub steps_in : Session → Objective → Bool
steps_in s o = bytes_eq o.name s.request.name && (o.flags == s.request.flags) && nat_lt 0 o.loops && nat_lt o.loops (offer_in s).loops

-- Inside: no agent has taken it, and it has an outcome
abbrev pub leaves_in : Session → Bool
leaves_in s = (s.owner == 0) && not (is_none s.ending)

-- Inside: what ended a session, as definitions have it
abbrev pub mark_of : Cause → Mark
mark_of (cause.Expired now) = Expired now
mark_of cause.Closed = Closed
mark_of cause.Starved = Starved
mark_of cause.Faulty = Faulty

-- why this end may not do this now, if it may not
abbrev pub refusal_in : Session → Act → Option SessionRefused
refusal_in s act.Step = if is_none s.ending && s.my_turn then (if nat_lt 1 (offer_in s).loops then None else Some LoopsSpent) else Some NotYourTurn
refusal_in s act.Wait = if is_none s.ending && s.my_turn then (if nat_lt s.waits 4 then None else Some WaitsSpent) else Some NotYourTurn
refusal_in s act.End = if is_none s.ending && s.my_turn then None else Some NotYourTurn
refusal_in s act.Invalid = if is_none s.ending then None else Some NotYourTurn

-- the code's session is what is kept of this one
pub record Keeps (s : Session) (x : SessionState) : Type 0 where
  pub number : s.number ≡ x.number
  pub owner : s.owner ≡ x.owner
  pub stream : s.stream ≡ x.stream
  pub kind : s.kind ≡ x.view.kind
  pub requester : s.requester ≡ is_side x.view.role Near
  pub timeout : s.timeout ≡ x.view.timeout
  pub session : s.session ≡ session_of x.view
  pub request : s.request ≡ request_of x.view
  pub offer : offer_in s ≡ last_offer x.view
  pub turn : s.my_turn ≡ is_mine x.view
  pub waits : s.waits ≡ waits_of x.view
  pub deadline : s.deadline ≡ deadline_of x.view
  pub outcome : ended_with (offer_in s) s.ending ≡ outcome_of x.view
  pub going : is_none s.ending ≡ is_going x.view
  -- who made the last offer
  pub theirs : is_mine x.view ≡ true → peer_offer x.view ≡ last_offer x.view
  pub mine : is_mine x.view ≡ false → my_offer x.view ≡ last_offer x.view
  -- the last offer has the request's name and flags, whatever the peer sends
  pub named : (last_offer x.view).name ≡ (request_of x.view).name
  pub flagged : (last_offer x.view).flags ≡ (request_of x.view).flags
