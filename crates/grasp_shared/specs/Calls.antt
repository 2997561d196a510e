-- A call with its reply, and the histories that a registry may have.
use Rattle.std.specs.Prelude.{◌≡◌, ℕ, [], ◌∷◌, Option, Some}
use Rattle.grasp_types.specs.declared.reply.Reply.{Reply}
use Rattle.grasp_types.specs.declared.traffic.Input.{Input}
use Rattle.grasp_model_node.specs.Node.{NodeState}
use Rattle.grasp_core.specs.declared.node_core.NodeCore.{NodeCore}
use Rattle.grasp_shared.specs.Adding.{Adds}
use Rattle.grasp_shared.specs.History.{Entry, History, IsLegalHistory, Reaches}

-- the reading and the input of a call, and the node's reply
pub record Answered : Type 0 where
  pub now : ℕ
  pub input : Input
  pub reply : Reply

abbrev pub answered : ℕ → Input → Reply → Answered
answered now input reply = record { now = now; input = input; reply = reply }

-- the call of the pass with this number
abbrev pub entry : ℕ → Answered → Entry
entry number c = record { caller = number; now = c.now; input = c.input; reply = c.reply }

-- a pass that was joined: its number and its calls
pub record Kept : Type 0 where
  pub number : ℕ
  pub mine : History

-- the core that a registry was opened with; a pass that was joined knows none
abbrev pub Opened : Type 0
Opened = Option NodeCore

-- the history is legal from every node for which the registry's first core stood
pub record IsLegalFrom (opened : Opened) (history : History) : Type 0 where
  pub legal : (core : NodeCore) → opened ≡ Some core → (from : NodeState) → Reaches from [] core → (to : NodeState) × IsLegalHistory from history to

-- the calls of this history led from the registry's first core to this core
pub record LedTo (opened : Opened) (history : History) (core : NodeCore) : Type 0 where
  pub led : (first : NodeCore) → opened ≡ Some first → Adds first history core

-- the call, whoever makes it, leads from the one core to the other
pub record GoesOn (old : NodeCore) (c : Answered) (new : NodeCore) : Type 0 where
  pub goes : (caller : ℕ) → Adds old (entry caller c ∷ []) new
