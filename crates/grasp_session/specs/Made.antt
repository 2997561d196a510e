-- Tables that some calls lead to: which sessions were made, and what one more call does to them.
use Rattle.std.specs.Prelude.{◌≡◌, ℕ, List, ◌++◌, Option, Some, None, option_map, filter_map, find, Result, Ok, Err, ◌==◌, if◌then◌else◌}
use Rattle.grasp_types.specs.declared.objective.Objective.{Objective}
use Rattle.grasp_types.specs.declared.session.Handle.{Handle}
use Rattle.grasp_types.specs.declared.session.Kind.{Kind}
use Rattle.grasp_types.specs.declared.session.Kind.TheVariants.{Negotiation}
use Rattle.grasp_session.specs.declared.answer.SessionRefused.{SessionRefused}
use Rattle.grasp_session.specs.declared.begin.Begin.{Begin}
use Rattle.grasp_session.specs.Messages.{Side, Far}
use Rattle.grasp_session.specs.Transcript.{Expired, Transcript, opening, Saying, SayStep, SayWait, SayEnd, SayInvalid, receive, after_received, Deed, Does, Suffers, after_deed, after_deeds}
use Rattle.grasp_session.specs.Sessions.{SessionState, Sessions, no_sessions, with_transcript, with_owner, begun_state, session_at, found, on_stream, due, start_reply}
use Rattle.grasp_session.specs.Says.{IsAt}
use Rattle.grasp_session.specs.Runs.{TableCall, Begins, Speaks, Takes, Polls, EndsBy, Expires, Adopts, Removes, MayCall, after_call, WasMade, Reached}

-- no calls lead to no sessions
abbrev pub NoneAreReached : Type 0
NoneAreReached = Reached no_sessions

-- all sessions that were made: the live ones by their places, and then those that are no longer live, newest first
abbrev pub sessions_made : Sessions → List SessionState
sessions_made z = filter_map (λ x. x) z.places ++ z.gone

-- the session of this number, live or no longer
abbrev pub session_made : Sessions → ℕ → Option SessionState
session_made z number = find (λ x. x.number == number) (sessions_made z)

-- the session on this stream: the live one, or else the newest that is no longer live
abbrev pub on_stream_made : Sessions → ℕ → Option SessionState
on_stream_made z stream = find (λ x. x.stream == stream) (sessions_made z)

abbrev pub opened : ℕ → Begin → Result Handle SessionRefused → Option SessionState
opened now begin (Ok h) = Some (begun_state now h.number begin)
opened now begin (Err refused) = None

abbrev pub with_deed : Deed → SessionState → SessionState
with_deed deed x = with_transcript x (after_deed x.view deed)

-- the one session that a call opens or changes, as it is afterwards. A bad message changes nothing, until `bad` is called
abbrev pub touched : Sessions → TableCall → Option SessionState
touched z (Begins now begin) = opened now begin (start_reply z)
touched z (Speaks now owner h saying) = option_map (with_deed (Does now saying)) (session_at z h)
touched z (Takes now stream message) =
    option_map (λ x. with_transcript x (after_received x.view now message (receive x.view message))) (found z (on_stream z stream))
touched z (Polls owner h result) = None
touched z (EndsBy stream mark) = option_map (with_deed (Suffers mark)) (found z (on_stream z stream))
touched z (Expires now) = option_map (with_deed (Suffers (Expired now))) (found z (due z now))
touched z (Adopts owner h) = option_map (λ x. with_owner x owner) (session_at z h)
touched z (Removes h) = None

-- a look-up by number after one session is as given
abbrev pub with_session : Option SessionState → ℕ → Option SessionState → Option SessionState
with_session None number before = before
with_session (Some y) number before = if y.number == number then Some y else before

-- a call leaves each session that was made as it was, live or no longer, but for the one that it touches
abbrev pub CallsTouchOne : Type 0
CallsTouchOne = (z : Sessions) (call : TableCall) → Reached z → MayCall z call → (number : ℕ)
    → session_made (after_call z call) number ≡ with_session (touched z call) number (session_made z number)

-- the live session on a stream comes first
abbrev pub LiveComesFirst : Type 0
LiveComesFirst = (z : Sessions) (stream : ℕ) (h : Handle) (x : SessionState) → Reached z → on_stream z stream ≡ Some h → session_at z h ≡ Some x
    → on_stream_made z stream ≡ Some x

-- what this end saw is its request and what befell it since
pub record IsBuilt (v : Transcript) : Type 0 where
  pub kind : Kind
  pub role : Side
  pub timeout : ℕ
  pub now : ℕ
  pub session : ℕ
  pub objective : Objective
  pub deeds : List Deed
  pub built : v ≡ after_deeds (opening kind role timeout now session objective) deeds

abbrev pub ViewsAreBuilt : Type 0
ViewsAreBuilt = (z : Sessions) (x : SessionState) → Reached z → WasMade z x → IsBuilt x.view

-- a listener's transcript that is the request alone
pub record IsFresh (v : Transcript) : Type 0 where
  pub timeout : ℕ
  pub now : ℕ
  pub session : ℕ
  pub objective : Objective
  pub fresh : v ≡ opening Negotiation Far timeout now session objective

-- each live session that no agent has taken has its request alone
abbrev pub AreFresh : Sessions → Type 0
AreFresh z = (place : ℕ) (x : SessionState) → IsAt z place x → x.owner ≡ 0 → IsFresh x.view

abbrev pub IsLastSaying : Saying → Type 0
IsLastSaying (SayStep value) = ⊥
IsLastSaying (SayWait millis) = ⊥
IsLastSaying (SayEnd verdict) = Unit {0}
IsLastSaying (SayInvalid detail) = Unit {0}

-- in a session that no agent has taken the node itself says only what ends it
abbrev pub EndsUntaken : TableCall → Type 0
EndsUntaken (Speaks now owner h saying) = owner ≡ 0 → IsLastSaying saying
EndsUntaken call = Unit {0}

abbrev pub NoneAreFresh : Type 0
NoneAreFresh = AreFresh no_sessions

abbrev pub FreshStay : Type 0
FreshStay = (z : Sessions) (call : TableCall) → AreFresh z → MayCall z call → EndsUntaken call → AreFresh (after_call z call)
