-- A visitor calls as its own agent, and of its own sessions.
use Rattle.std.specs.List.{AllByRecursion}
use Rattle.std.specs.Prelude.{◌≡◌, ◌≢◌, ◌⊎◌, ◌↔◌, ℕ, ◌+◌, true, false, List, [], ◌∷◌, Option, None, Some}
use Rattle.grasp_control.specs.declared.request.Request.TheVariants as request
use Rattle.grasp_crew.specs.Seats.{SeatState}
use Rattle.grasp_desk.specs.declared.desk.Visiting.TheVariants as desk
use Rattle.grasp_shared.specs.History.{Entry}
use Rattle.grasp_types.specs.declared.call.Call.{Call}
use Rattle.grasp_types.specs.declared.call.Call.TheVariants as call
use Rattle.grasp_types.specs.declared.session.Handle.{Handle}
use Rattle.grasp_types.specs.declared.traffic.Input.TheVariants as input
use Rattle.grasp_laws_visits.specs.Knowing.{HasLeft, Heard, StillHas, WasTold, Wrote, WroteCall, agent_number}
use Rattle.grasp_laws_visits.specs.Logs.{AreNext, Log, Sitting, SittingsMean, all_sitting_calls, all_visitings, called, calls_in, heard, log_sittings, seats_at_last, visitings_in}

-- ---- a call

-- without an agent a visitor registers one and calls nothing else, and with one it registers none
abbrev pub MayCall : ℕ → Call → Type 0
MayCall asa (call.RegisterAsa name) = asa ≡ 0
MayCall asa _ = asa ≢ 0

-- the session that a call names
abbrev pub session_named : Call → Option Handle
session_named (call.NegotiateStep h value) = Some h
session_named (call.NegotiateWait h millis) = Some h
session_named (call.EndNegotiate h verdict) = Some h
session_named (call.SendInvalid h detail) = Some h
session_named (call.Poll h) = Some h
session_named _ = None

-- the call, with this session in place of the one that it names
abbrev pub with_session : Call → Handle → Call
with_session (call.NegotiateStep h value) k = call.NegotiateStep k value
with_session (call.NegotiateWait h millis) k = call.NegotiateWait k millis
with_session (call.EndNegotiate h verdict) k = call.EndNegotiate k verdict
with_session (call.SendInvalid h detail) k = call.SendInvalid k detail
with_session (call.Poll h) k = call.Poll k
with_session c k = c

-- the session of a call is the one of its number that the caller was told of, or as it was written; it isn't as it was written where the caller has one of
-- this number
pub record IsPlacedAt (caller : ℕ) (log : Log) (written : Call) (h : Handle) (c : Call) : Type 0 where
  pub session : Handle
  pub call_is : c ≡ with_session written session
  pub number : session.number ≡ h.number
  pub told : (session ≡ h) ⊎ WasTold caller log session
  pub known : (k : Handle) → StillHas caller log k → k.number ≡ h.number → session ≡ k

-- the call is the one that was written, but for the place of its session
abbrev pub IsPlaced : ℕ → Log → Call → Option Handle → Call → Type 0
IsPlaced caller log written None c = c ≡ written
IsPlaced caller log written (Some h) c = IsPlacedAt caller log written h c

-- A call of a visitor's agent, where this log says what happened before it. The visitor is the caller behind the agents. It calls by the number that its own
-- calls were answered. The call is one that it wrote, of a session of its own. Or it deregisters the agent once the visitor left, and then it calls nothing
-- else.
pub record IsOwnCall (agents : ℕ) (log : Log) (e : Entry) : Type 0 where
  pub visitor : ℕ
  pub caller : e.caller ≡ agents + visitor
  pub call_made : Call
  pub input_is : e.input ≡ input.Api (agent_number e.caller log) call_made
  pub may : MayCall (agent_number e.caller log) call_made
  pub written : Call
  pub cause : WroteCall visitor log written ⊎ (HasLeft visitor log × (written ≡ call.DeregisterAsa))
  pub leaves : HasLeft visitor log → written ≡ call.DeregisterAsa
  pub placed : IsPlaced e.caller log written (session_named written) call_made

-- each call is so, behind what happened before it
abbrev pub AreOwnCalls : ℕ → Log → Type 0
AreOwnCalls agents [] = Unit {0}
AreOwnCalls agents (heard v ∷ log) = AreOwnCalls agents log
AreOwnCalls agents (called e ∷ log) = IsOwnCall agents log e × AreOwnCalls agents log

-- ---- a seat

-- A seat is as this log says. It is a guest's where the visitor came in by the door for guests. It is being left where the visitor left, and then waits for
-- nothing and hears of nothing. It hears of events only where the visitor asked for them.
pub record IsSeatBy (log : Log) (s : SeatState) : Type 0 where
  pub came : Heard (desk.Came s.visitor s.guest) log
  pub left : (s.leaving ≡ true) ↔ HasLeft s.visitor log
  pub quiet : s.leaving ≡ true → (s.awaits ≡ None) × (s.hears ≡ false)
  pub hears : s.hears ≡ true → Wrote s.visitor log request.Events

-- no two seats are of one visitor
abbrev pub AreApart : List SeatState → Type 0
AreApart [] = Unit {0}
AreApart (s ∷ seats) = AllByRecursion (λ x. x.visitor ≢ s.visitor) seats × AreApart seats

-- ---- the law

-- what happened in these sittings, which began with no visitor
abbrev pub log_of : ℕ → List Sitting → Log
log_of agents xs = log_sittings agents [] xs []

-- Where each line means what it is said to, and whoever comes has the next number:
pub record VisitorsCallAsTheirOwn : Type 0 where
  -- each call of a visitor's is its own agent's
  pub calls : (agents : ℕ) (xs : List Sitting) (came : ℕ) → SittingsMean [] xs → AreNext 0 (all_visitings xs) came → AreOwnCalls agents (log_of agents xs)
  -- each seat is as what came of its visitor says, and no visitor has two
  pub seats : (agents : ℕ) (xs : List Sitting) (came : ℕ) → SittingsMean [] xs → AreNext 0 (all_visitings xs) came
      → AllByRecursion (IsSeatBy (log_of agents xs)) (seats_at_last [] xs) × AreApart (seats_at_last [] xs)
  -- and the log has just what came and the calls that were made, in order
  pub whole : (agents : ℕ) (xs : List Sitting)
      → (calls_in (log_of agents xs) ≡ all_sitting_calls agents [] xs) × (visitings_in (log_of agents xs) ≡ all_visitings xs)
