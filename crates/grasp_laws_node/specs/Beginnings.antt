-- What the beginning of a step leaves: nothing that has ended by the reading, and everything else as it was.
use Rattle.std.specs.Prelude.{◌≡◌, ◌≤◌, ◌<◌, ◌⊎◌, max, ℕ, true, length, slice_index_or, All, Option, None, Some, IfSome, if◌then◌else◌}
use Rattle.grasp_session.specs.Says.{IsAt}
use Rattle.grasp_session.specs.Sessions.{SessionState, with_transcript, is_leaving, expire_reply}
use Rattle.grasp_session.specs.Transcript.{Expired, is_going, deadline_of, with_mark}
use Rattle.grasp_model_node.specs.Begin.{begin}
use Rattle.grasp_model_node.specs.Draining.{after_drain}
use Rattle.grasp_model_node.specs.Node.{NodeState}
use Rattle.grasp_model_node.specs.BoundedNodes.{IsBoundedNode}
use Rattle.grasp_model_node.specs.Streams.{past_of}

-- nothing registered or queued changes, nothing is dialled or drawn, and the reading is the larger one
pub record BeginsWith (n after : NodeState) (now : ℕ) : Type 0 where
  pub plan : after.plan ≡ n.plan
  pub reading : after.reading ≡ max n.reading now
  pub registrations : after.registrations ≡ n.registrations
  pub dialled : after.streams.dialled ≡ n.streams.dialled
  pub queue : after.queue ≡ n.queue
  pub drawn : after.drawn ≡ n.drawn

-- a search whose time has come is over, and what is cached, told or remembered ends later
pub record NothingEnded (n : NodeState) : Type 0 where
  pub searches : All (λ search. search.end ≤ n.reading → search.over ≡ true) n.discoveries.searches
  pub locators : All (λ entry. (1 ≤ length entry.1) × All (λ one. n.reading < one.end) entry.1) n.discoveries.entries
  pub discoveries : All (λ memory. n.reading < memory.1.end) n.discoveries.memories
  pub told : All (λ entry. IfSome entry.1.end (λ last. n.reading < last)) n.floods.entries
  pub floods : All (λ memory. n.reading < memory.1) n.floods.memories

-- every beginning of a step takes away what has ended by the clock reading, and leaves everything else as it was
abbrev pub BeginningsEndThings : Type 0
BeginningsEndThings = (n : NodeState) (now : ℕ) → BeginsWith n (begin n now) now × NothingEnded (begin n now)

-- the session has no outcome, and the reading has reached its deadline
abbrev pub IsDue : ℕ → SessionState → Type 0
IsDue reading x = (is_going x.view ≡ true) × (deadline_of x.view ≤ reading)

-- the session as it timed out at this reading; one that no agent has taken is gone
abbrev pub timed_out : ℕ → SessionState → Option SessionState
timed_out reading x =
    if is_leaving (with_transcript x (with_mark x.view (Expired reading))) then None
    else Some (with_transcript x (with_mark x.view (Expired reading)))

-- no session that is due is left, and each live one is as it was, or was due: then it has timed out, and its stream is
-- closing, where it still has a record. No session begins
pub record TimesOut (n after : NodeState) : Type 0 where
  pub none_due : expire_reply after.sessions after.reading ≡ None
  pub none_left : (place : ℕ) (x : SessionState) → IsAt after.sessions place x → is_going x.view ≡ true → after.reading < deadline_of x.view
  pub each : (place : ℕ) (x : SessionState) → IsAt n.sessions place x
      → IsAt after.sessions place x
      ⊎ (IsDue after.reading x × (slice_index_or after.sessions.places place None ≡ timed_out after.reading x) × (past_of after.streams x.stream ≡ None))
  pub empty : (place : ℕ) → slice_index_or n.sessions.places place None ≡ None → slice_index_or after.sessions.places place None ≡ None

abbrev pub SessionsTimeOut : Type 0
SessionsTimeOut = (n : NodeState) (now : ℕ) → IsBoundedNode n → TimesOut n (begin n now)

-- a second beginning at the same reading changes nothing
abbrev pub BeginTwiceIsOnce : Type 0
BeginTwiceIsOnce = (n : NodeState) (now : ℕ) → IsBoundedNode n → begin (begin n now) now ≡ begin n now

-- a drain of nothing does no more than a beginning
abbrev pub DrainOfNothing : Type 0
DrainOfNothing = (n : NodeState) (now : ℕ) → after_drain (begin n now) 0 ≡ begin n now
