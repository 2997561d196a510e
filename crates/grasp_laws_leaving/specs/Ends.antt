-- What ends at a node where an agent leaves. That the requests for its objectives leave too is this project's own.
use Rattle.std.specs.Prelude.{◌≡◌, ◌≢◌, ◌⊎◌, ℕ, List, Contains, None, Some}
use Rattle.grasp_laws_leaving.specs.InTurn.{owned_names}
use Rattle.grasp_laws_node.specs.Consistent.{IsConsistent}
use Rattle.grasp_laws_node.specs.Means.{IsUntaken}
use Rattle.grasp_model_node.specs.Begin.{begin}
use Rattle.grasp_model_node.specs.BoundedNodes.{IsBoundedNode}
use Rattle.grasp_model_node.specs.Node.{NodeState}
use Rattle.grasp_model_node.specs.Step.{Coming, NodeStep}
use Rattle.grasp_model_node.specs.Streams.{StreamRecord, record_of}
use Rattle.grasp_session.specs.Says.{IsAt}
use Rattle.grasp_session.specs.Sessions.{SessionState}
use Rattle.grasp_types.specs.declared.call.Call.TheVariants.{DeregisterAsa}
use Rattle.grasp_types.specs.declared.reply.ApiAnswer.{ApiAnswer}
use Rattle.grasp_types.specs.declared.reply.Reply.TheVariants as reply
use Rattle.grasp_types.specs.declared.traffic.Input.TheVariants as input

-- it is the agent's, or no agent has taken it and it is for one of the agent's objectives
abbrev pub IsItsOwn : NodeState → ℕ → SessionState → Type 0
IsItsOwn n asa x = (x.owner ≡ asa) ⊎ ((name : List ℕ) × Contains (owned_names n asa) name × IsUntaken name x)

-- the stream begins closing, or is closing already
abbrev pub shut : StreamRecord → StreamRecord
shut r = record r { past = None }

-- These sessions leave, and their streams begin closing. Every other session is where and as it was, and so is every other stream's record
pub record EndsItsOwn (n : NodeState) (asa : ℕ) (after : NodeState) : Type 0 where
  pub none_left : (place : ℕ) (x : SessionState) → IsAt after.sessions place x → IsItsOwn n asa x → ⊥
  pub others_stay : (place : ℕ) (x : SessionState) → IsAt n.sessions place x → (IsItsOwn n asa x → ⊥) → IsAt after.sessions place x
  pub none_comes : (place : ℕ) (x : SessionState) → IsAt after.sessions place x → IsAt n.sessions place x
  pub closes : (place : ℕ) (x : SessionState) (r : StreamRecord) → IsAt n.sessions place x → IsItsOwn n asa x
      → record_of n.streams x.stream ≡ Some r → record_of after.streams x.stream ≡ Some (shut r)
  pub records : (stream : ℕ) → ((place : ℕ) (x : SessionState) → IsAt n.sessions place x → IsItsOwn n asa x → stream ≢ x.stream)
      → record_of after.streams stream ≡ record_of n.streams stream

-- each answered call by which an agent leaves, at each node to which steps lead, once the step has begun
abbrev pub LeavingEndsItsOwn : Type 0
LeavingEndsItsOwn = (n after : NodeState) (now asa : ℕ) (x : Coming) (a : ApiAnswer) → IsBoundedNode n → IsConsistent n
    → NodeStep n now (input.Api asa DeregisterAsa) x (reply.Api a) after
    → EndsItsOwn (begin n now) asa after
