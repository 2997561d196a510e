-- The calls of a table one after the other, whatever the agents and the peers do.
use Rattle.std.specs.Prelude.{◌≡◌, ◌≢◌, ℕ, ◌<◌, ◌≤◌, true, List, [], ◌∷◌, Some, None, Result, Ok, ◌⊎◌, AllPairs, Contains, IsSome, length}
use Rattle.grasp_types.specs.declared.session.Handle.{Handle}
use Rattle.grasp_types.specs.declared.session.Progress.{Progress}
use Rattle.grasp_types.specs.declared.session.Kind.TheVariants.{Synchronization}
use Rattle.grasp_types.specs.declared.message.Message.{Message}
use Rattle.grasp_session.specs.declared.answer.SessionRefused.{SessionRefused}
use Rattle.grasp_session.specs.declared.begin.Begin.{Begin}
use Rattle.grasp_session.specs.Messages.{Near, Far}
use Rattle.grasp_session.specs.Transcript.{Mark, known, request_of, is_going, Saying, act_of}
use Rattle.grasp_session.specs.Sessions.{SessionState, Sessions, no_sessions, session_at, owner_of, state_reply, IsProper, start_reply, after_start, check_reply, after_say, receive_reply, after_receive, MayPoll, after_poll, after_mark, after_expire, after_adopt, after_remove}
use Rattle.grasp_session.specs.Laws.{IsBounded}
use Rattle.grasp_session.specs.Says.{IsAt}

-- a call, with its answer where the code may choose. A step, an end and an adoption that find no memory leave the sessions as they are, and are left out
pub data TableCall : Type 0 where
  Begins : (now : ℕ) (begin : Begin) → TableCall
  Speaks : (now owner : ℕ) (handle : Handle) (saying : Saying) → TableCall
  Takes : (now stream : ℕ) (message : Message) → TableCall
  Polls : (owner : ℕ) (handle : Handle) (result : Result Progress SessionRefused) → TableCall
  EndsBy : (stream : ℕ) (mark : Mark) → TableCall
  Expires : (now : ℕ) → TableCall
  Adopts : (owner : ℕ) (handle : Handle) → TableCall
  Removes : (handle : Handle) → TableCall

-- the call meets its conditions, and may be answered thus
abbrev pub MayCall : Sessions → TableCall → Type 0
MayCall z (Begins now begin) = (state_reply z begin.stream ≡ None) × IsProper begin
MayCall z (Speaks now owner h saying) = check_reply z owner h (act_of saying) ≡ Ok tt
MayCall z (Takes now stream message) = Unit {0}
MayCall z (Polls owner h result) = MayPoll z owner h result
MayCall z (EndsBy stream mark) = Unit {0}
MayCall z (Expires now) = Unit {0}
MayCall z (Adopts owner h) = (owner_of (session_at z h) ≡ Some 0) × (0 < owner)
MayCall z (Removes h) = IsSome (session_at z h)

-- the sessions after a call
abbrev pub after_call : Sessions → TableCall → Sessions
after_call z (Begins now begin) = after_start z now begin (start_reply z)
after_call z (Speaks now owner h saying) = after_say z now h saying
after_call z (Takes now stream message) = after_receive z now stream message (receive_reply z stream message)
after_call z (Polls owner h result) = after_poll z h result
after_call z (EndsBy stream mark) = after_mark z stream mark
after_call z (Expires now) = after_expire z now
after_call z (Adopts owner h) = after_adopt z owner h
after_call z (Removes h) = after_remove z h

-- each call may be made after those before it
abbrev pub AreCalls : Sessions → List TableCall → Type 0
AreCalls z [] = Unit {0}
AreCalls z (call ∷ calls) = MayCall z call × AreCalls (after_call z call) calls

abbrev pub after_calls : Sessions → List TableCall → Sessions
after_calls z [] = z
after_calls z (call ∷ calls) = after_calls (after_call z call) calls

-- a session that was made: it is live, or no longer
abbrev pub WasMade : Sessions → SessionState → Type 0
WasMade z x = ((place : ℕ) × IsAt z place x) ⊎ Contains z.gone x

-- a session of this number was made
pub record HasNumber (z : Sessions) (number : ℕ) : Type 0 where
  pub state : SessionState
  pub was_made : WasMade z state
  pub named : state.number ≡ number

-- what is so of the sessions after any calls
pub record AreInOrder (z : Sessions) : Type 0 where
  -- the steps that a session sent and kept are fewer than its request's loop count, and none where that is 0
  pub bounded : (x : SessionState) → WasMade z x → IsBounded (request_of x.view).loops (known x.view)
  -- a session's number is at least 1, and at most how many sessions were made
  pub numbered : (x : SessionState) → WasMade z x → (1 ≤ x.number) × (x.number ≤ z.made)
  -- live sessions have different numbers
  pub apart : (p q : ℕ) (x y : SessionState) → IsAt z p x → IsAt z q y → x.number ≡ y.number → p ≡ q
  -- the number of one that is no longer live is no live one's
  pub unused : (p : ℕ) (x y : SessionState) → IsAt z p x → Contains z.gone y → x.number ≢ y.number
  -- those that are no longer live have different numbers
  pub retired : AllPairs (λ x y. x.number ≢ y.number) z.gone
  -- each number up to that of the last was given
  pub given : (number : ℕ) → 1 ≤ number → number ≤ z.made → HasNumber z number
  -- there are 64 places for live sessions
  pub long : length z.places ≡ 64
  -- live sessions lie on different streams
  pub streams : (p q : ℕ) (x y : SessionState) → IsAt z p x → IsAt z q y → x.stream ≡ y.stream → p ≡ q
  -- a live one that no agent holds is a listener's, and has no outcome
  pub untaken : (p : ℕ) (x : SessionState) → IsAt z p x → x.owner ≡ 0 → (x.view.role ≡ Far) × (is_going x.view ≡ true)
  -- a synchronization is a requester's
  pub asked : (x : SessionState) → WasMade z x → x.view.kind ≡ Synchronization → x.view.role ≡ Near

-- some calls, each of which may be made, lead from no sessions to these
pub record Reached (z : Sessions) : Type 0 where
  pub calls : List TableCall
  pub may : AreCalls no_sessions calls
  pub after : z ≡ after_calls no_sessions calls

-- after one more call that may be made, sessions that calls reach are again sessions that calls reach
abbrev pub CallsGoOn : Type 0
CallsGoOn = (z : Sessions) (call : TableCall) → Reached z → MayCall z call → Reached (after_call z call)

abbrev pub CallsAreInOrder : Type 0
CallsAreInOrder = (z : Sessions) → Reached z → AreInOrder z

-- a session that begins has a number above all earlier ones
abbrev pub NumbersAreNew : Type 0
NumbersAreNew = (z : Sessions) (h : Handle) (x : SessionState) → Reached z → start_reply z ≡ Ok h → WasMade z x → x.number < h.number
