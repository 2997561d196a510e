-- What a session for synchronization hears and tells (RFC 8990, sections 2.5.6.1 and 2.8.10).
use Rattle.std.specs.Prelude.{◌≡◌, ◌↔◌, ℕ, true, false, List, ◌∷◌, Some}
use Rattle.grasp_types.specs.declared.message.Message.{Message}
use Rattle.grasp_types.specs.declared.message.Message.TheVariants.{Synch}
use Rattle.grasp_types.specs.declared.objective.Objective.{Objective}
use Rattle.grasp_types.specs.declared.session.Kind.TheVariants.{Synchronization}
use Rattle.grasp_types.specs.declared.session.Outcome.TheVariants.{Synchronized}
use Rattle.grasp_session.specs.declared.answer.Received.TheVariants.{Kept}
use Rattle.grasp_session.specs.Messages.{Near}
use Rattle.grasp_session.specs.Transcript.{Transcript, session_of, request_of, is_mine, is_going, kept_of, outcome_of, receive, Gets, after_deed}
use Rattle.grasp_session.specs.Made.{IsBuilt}

-- an end that is synchronized with an objective: its session is for synchronization, the newest message that it kept is the
-- M_SYNCH of its session with just this objective, and the objective has the name that was asked for
pub record IsSynchronized (v : Transcript) (o : Objective) : Type 0 where
  pub kind : v.kind ≡ Synchronization
  pub came : (before : List Message) × (kept_of v.entries ≡ Synch (session_of v) o ∷ before)
  pub name : o.name ≡ (request_of v).name

-- whatever befell an end, a synchronized outcome is of the M_SYNCH that came
abbrev pub OutcomesCame : Type 0
OutcomesCame = (v : Transcript) (o : Objective) → IsBuilt v → outcome_of v ≡ Some (Synchronized o) → IsSynchronized v o

-- an M_SYNCH that an end waits for: the session is for synchronization and goes on, it isn't this end's turn, the number is
-- the session's, and the objective has the name that was asked for
pub record IsAwaited (v : Transcript) (n : ℕ) (o : Objective) : Type 0 where
  pub going : is_going v ≡ true
  pub kind : v.kind ≡ Synchronization
  pub number : n ≡ session_of v
  pub turn : is_mine v ≡ false
  pub name : o.name ≡ (request_of v).name

-- just such an M_SYNCH is kept, and then the session ends with its objective
pub record HearsSynch (v : Transcript) (n : ℕ) (o : Objective) : Type 0 where
  pub kept : receive v (Synch n o) ≡ Kept ↔ IsAwaited v n o
  pub ends : (now : ℕ) → IsAwaited v n o → outcome_of (after_deed v (Gets now (Synch n o))) ≡ Some (Synchronized o)

-- each M_SYNCH that an end waits for, and no other, is kept, and ends the session with its objective
abbrev pub SynchsAreHeard : Type 0
SynchsAreHeard = (v : Transcript) (n : ℕ) (o : Objective) → HearsSynch v n o

-- in a session for synchronization it is never the requester's turn: it waits for the answer
abbrev pub RequestersWait : Type 0
RequestersWait = (v : Transcript) → IsBuilt v → v.kind ≡ Synchronization → v.role ≡ Near → is_mine v ≡ false
