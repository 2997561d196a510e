-- How the parts of a node to which only steps lead hold together: its sessions with the records of their streams, and the
-- sessions that no agent has taken with what is listened for.
use Rattle.std.specs.Prelude.{◌≡◌, ◌%◌, ℕ, true, false, None, Some, IsSome}
use Rattle.grasp_asa.specs.Answers.{listener_of}
use Rattle.grasp_session.specs.Made.{AreFresh}
use Rattle.grasp_session.specs.Says.{IsAt}
use Rattle.grasp_session.specs.Sessions.{SessionState}
use Rattle.grasp_session.specs.Transcript.{is_going, request_of}
use Rattle.grasp_types.specs.declared.reply.Reply.{Reply}
use Rattle.grasp_types.specs.declared.traffic.Input.{Input}
use Rattle.grasp_wire.specs.Cutter.{Past}
use Rattle.grasp_model_node.specs.Node.{NodeState, first_node}
use Rattle.grasp_model_node.specs.BoundedNodes.{IsBoundedNode}
use Rattle.grasp_model_node.specs.Step.{Coming, NodeStep}
use Rattle.grasp_model_node.specs.Streams.{past_of}
use Rattle.grasp_model_node.specs.declared.plan.NodePlan.{NodePlan}

-- a live session without an outcome lies on this stream
pub record GoesOn (n : NodeState) (stream : ℕ) : Type 0 where
  pub place : ℕ
  pub session : SessionState
  pub at : IsAt n.sessions place session
  pub on : session.stream ≡ stream
  pub going : is_going session.view ≡ true

pub record IsConsistent (n : NodeState) : Type 0 where
  -- the stream of a live session without an outcome is open
  pub sessions_open : (place : ℕ) (x : SessionState) → IsAt n.sessions place x → is_going x.view ≡ true → IsSome (past_of n.streams x.stream)
  -- a stream that this node dialled is open only while its session goes on
  pub dialled_go_on : (stream : ℕ) (past : Past) → stream % 2 ≡ 0 → past_of n.streams stream ≡ Some past → GoesOn n stream
  -- the stream of a live session with an outcome is closing, or has no record
  pub ended_close : (place : ℕ) (x : SessionState) → IsAt n.sessions place x → is_going x.view ≡ false → past_of n.streams x.stream ≡ None
  -- what no agent has taken is a peer's request for an objective that is listened for, and may be declined
  pub untaken : (place : ℕ) (x : SessionState) → IsAt n.sessions place x → x.owner ≡ 0 → IsSome (listener_of n.registrations (request_of x.view).name)
  pub fresh : AreFresh n.sessions

-- a node begins so, and each step leaves it so, whatever its agents and its peers do
abbrev pub TiesAreKept : Type 0
TiesAreKept = ((plan : NodePlan) → IsConsistent (first_node plan))
    × ((n after : NodeState) (now : ℕ) (i : Input) (x : Coming) (r : Reply) → IsBoundedNode n → IsConsistent n → NodeStep n now i x r after → IsConsistent after)
