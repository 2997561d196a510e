-- What the answers of a table say, in the words of its sessions.
use Rattle.std.specs.Prelude.{◌≡◌, ℕ, ◌+◌, ◌<◌, ◌≤◌, Bool, true, false, ◌&&◌, Option, Some, None, IsSome, Result, Ok, Err, length, slice_index_or}
use Rattle.grasp_types.specs.declared.session.Handle.{Handle}
use Rattle.grasp_session.specs.declared.answer.Act.{Act}
use Rattle.grasp_session.specs.declared.answer.Act.TheVariants as act
use Rattle.grasp_session.specs.declared.answer.SessionRefused.{SessionRefused}
use Rattle.grasp_session.specs.declared.answer.SessionRefused.TheVariants.{SessionsFull, NoSession, NotYourTurn, LoopsSpent, WaitsSpent}
use Rattle.grasp_session.specs.Transcript.{Transcript, is_going, is_mine, last_offer, waits_of}
use Rattle.grasp_session.specs.Sessions.{SessionState, Sessions, session_at, session_owned, oldest, is_full, start_reply, check_reply}

-- a session is live at this place
abbrev pub IsAt : Sessions → ℕ → SessionState → Type 0
IsAt z place x = slice_index_or z.places place None ≡ Some x

-- start: there is room, the place is the least empty one, and the number is the next
pub record Starts (z : Sessions) (h : Handle) : Type 0 where
  pub not_full : is_full z ≡ false
  pub place : h.place < length z.places
  pub empty : slice_index_or z.places h.place None ≡ None
  pub least : (place : ℕ) → place < h.place → IsSome (slice_index_or z.places place None)
  pub number : h.number ≡ z.made + 1

abbrev pub StartSays : Sessions → Result Handle SessionRefused → Type 0
StartSays z (Ok h) = Starts z h
StartSays z (Err SessionsFull) = is_full z ≡ true
StartSays z (Err refused) = ⊥

abbrev pub StartsSay : Type 0
StartsSay = (z : Sessions) → length z.places ≡ 64 → StartSays z (start_reply z)

-- this end may act: there is no outcome, and the turn is its own. It may give up at any time before the outcome
abbrev pub has_turn : Transcript → Act → Bool
has_turn v act.Invalid = is_going v
has_turn v a = is_going v && is_mine v

-- a step wants a loop count above 1, and a wait fewer than 4 waits before it in this turn
abbrev pub HasLeft : Transcript → Act → Type 0
HasLeft v act.Step = 1 < (last_offer v).loops
HasLeft v act.Wait = waits_of v < 4
HasLeft v a = Unit {0}

abbrev pub Owned : Sessions → ℕ → Handle → SessionState → Type 0
Owned z owner h x = session_owned z owner h ≡ Some x

-- check: four refusals, each of which comes only where those before it don't
abbrev pub CheckSays : Sessions → ℕ → Handle → Act → Result (Unit {0}) SessionRefused → Type 0
CheckSays z owner h a (Ok done) = (x : SessionState) × Owned z owner h x × (has_turn x.view a ≡ true) × HasLeft x.view a
CheckSays z owner h a (Err NoSession) = session_owned z owner h ≡ None
CheckSays z owner h a (Err NotYourTurn) = (x : SessionState) × Owned z owner h x × (has_turn x.view a ≡ false)
CheckSays z owner h a (Err LoopsSpent) = (x : SessionState) × Owned z owner h x × (has_turn x.view a ≡ true) × (a ≡ act.Step) × ((last_offer x.view).loops ≤ 1)
CheckSays z owner h a (Err WaitsSpent) = (x : SessionState) × Owned z owner h x × (has_turn x.view a ≡ true) × (a ≡ act.Wait) × (4 ≤ waits_of x.view)
CheckSays z owner h a (Err refused) = ⊥

abbrev pub ChecksSay : Type 0
ChecksSay = (z : Sessions) (owner : ℕ) (h : Handle) (a : Act) → CheckSays z owner h a (check_reply z owner h a)

-- a look-up: the live session of the least number that passes, and `None` exactly where none passes
pub record IsLeast (z : Sessions) (test : SessionState → Bool) (h : Handle) : Type 0 where
  pub state : SessionState
  pub at : session_at z h ≡ Some state
  pub place : IsAt z h.place state
  pub passes : test state ≡ true
  pub least : (place : ℕ) (x : SessionState) → IsAt z place x → test x ≡ true → h.number ≤ x.number

abbrev pub LookUpSays : Sessions → (SessionState → Bool) → Option Handle → Type 0
LookUpSays z test None = (place : ℕ) (x : SessionState) → IsAt z place x → test x ≡ false
LookUpSays z test (Some h) = IsLeast z test h

abbrev pub OldestIsLeast : Type 0
OldestIsLeast = (z : Sessions) (test : SessionState → Bool) → LookUpSays z test (oldest test z)
