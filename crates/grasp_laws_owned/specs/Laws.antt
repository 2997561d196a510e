-- What steps of a node do to the sessions of an agent that alone has the objective of a name.
use Rattle.std.specs.Prelude.{◌≡◌, ◌<◌, ◌⊎◌, ℕ, List, Some, Contains}
use Rattle.grasp_laws_owned.specs.Owned.{AreOwnedBy, GoOnBy}
use Rattle.grasp_laws_owned.specs.Serving.{IsNoCallOf, IsServing, Serves}
use Rattle.grasp_model_node.specs.Begin.{begin}
use Rattle.grasp_model_node.specs.BoundedNodes.{IsBoundedNode}
use Rattle.grasp_model_node.specs.Node.{NodeState}
use Rattle.grasp_model_node.specs.Step.{Coming, NodeStep}
use Rattle.grasp_session.specs.Sessions.{SessionState, session_at}
use Rattle.grasp_session.specs.Transcript.{outcome_of}
use Rattle.grasp_types.specs.declared.call.Call.{Call}
use Rattle.grasp_types.specs.declared.call.Call.TheVariants as call
use Rattle.grasp_types.specs.declared.reply.ApiAnswer.TheVariants as answer
use Rattle.grasp_types.specs.declared.reply.Reply.{Reply}
use Rattle.grasp_types.specs.declared.reply.Reply.TheVariants as reply
use Rattle.grasp_types.specs.declared.session.Handle.{Handle}
use Rattle.grasp_types.specs.declared.session.Outcome.{Outcome}
use Rattle.grasp_types.specs.declared.session.Progress.TheVariants as progress
use Rattle.grasp_types.specs.declared.traffic.Input.{Input}
use Rattle.grasp_types.specs.declared.traffic.Input.TheVariants as input

-- ---- whatever comes but a call of the agent

-- the agent still serves, each session is still whose it may be, and those of the agent go on
pub record OthersLeave (asa : ℕ) (name : List ℕ) (bits : ℕ) (n after : NodeState) : Type 0 where
  pub serves : Serves asa name bits after
  pub owned : AreOwnedBy asa name n.sessions → AreOwnedBy asa name after.sessions
  pub go_on : GoOnBy asa n.sessions after.sessions

abbrev pub OthersLeaveOwners : Type 0
OthersLeaveOwners = (asa : ℕ) (name : List ℕ) (bits : ℕ) (n after : NodeState) (now : ℕ) (i : Input) (x : Coming) (r : Reply) → 0 < asa → IsBoundedNode n → Serves asa name bits n → IsNoCallOf asa i
    → NodeStep n now i x r after → OthersLeave asa name bits n after

-- the beginning of a step does so too, whoever is registered
abbrev pub BeginningsLeaveOwners : Type 0
BeginningsLeaveOwners = (asa : ℕ) (name : List ℕ) (n : NodeState) (now : ℕ) → 0 < asa
    → GoOnBy asa n.sessions (begin n now).sessions × (AreOwnedBy asa name n.sessions → AreOwnedBy asa name (begin n now).sessions)

-- ---- a call that the agent makes for its objective

-- the session was live when the step had begun; the call was its poll, and told its outcome
pub record WasPolled (n : NodeState) (c : Call) (r : Reply) (x : SessionState) : Type 0 where
  pub handle : Handle
  pub outcome : Outcome
  pub at : session_at n.sessions handle ≡ Some x
  pub ended : outcome_of x.view ≡ Some outcome
  pub polls : c ≡ call.Poll handle
  pub tells : r ≡ reply.Api (answer.Polled (progress.Ended outcome))

-- the agent still serves, and each session is still whose it may be
pub record OwnersKeep (asa : ℕ) (name : List ℕ) (bits : ℕ) (n after : NodeState) : Type 0 where
  pub serves : Serves asa name bits after
  pub owned : AreOwnedBy asa name n.sessions → AreOwnedBy asa name after.sessions

abbrev pub OwnersKeepServing : Type 0
OwnersKeepServing = (asa : ℕ) (name : List ℕ) (bits : ℕ) (n after : NodeState) (now : ℕ) (c : Call) (x : Coming) (r : Reply) → 0 < asa → IsBoundedNode n → Serves asa name bits n → IsServing name c
    → NodeStep n now (input.Api asa c) x r after → OwnersKeep asa name bits n after

-- a session of the agent that is no longer live was so before, or is the one whose outcome the call told
abbrev pub OwnersLeaveByPolls : Type 0
OwnersLeaveByPolls = (asa : ℕ) (name : List ℕ) (n after : NodeState) (now : ℕ) (c : Call) (x : Coming) (r : Reply) → 0 < asa → IsBoundedNode n → IsServing name c → NodeStep n now (input.Api asa c) x r after
    → (y : SessionState) → y.owner ≡ asa → Contains after.sessions.gone y → Contains n.sessions.gone y ⊎ WasPolled (begin n now) c r y
