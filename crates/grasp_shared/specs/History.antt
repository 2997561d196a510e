-- The history of a node: the calls of all its callers, each with the node's reply, in the order in which it answered them.
use Rattle.std.specs.Prelude.{◌≡◌, ◌==◌, ◌<◌, ◌^◌, ℕ, List, [], ◌∷◌, filter}
use Rattle.grasp_types.specs.declared.reply.Reply.{Reply}
use Rattle.grasp_types.specs.declared.traffic.Input.{Input}
use Rattle.grasp_model_node.specs.Divided.{IsDivided}
use Rattle.grasp_model_node.specs.Node.{NodeState}
use Rattle.grasp_model_node.specs.BoundedNodes.{IsBoundedNode}
use Rattle.grasp_core.specs.Stands.{NodeStands}
use Rattle.grasp_model_node.specs.Step.{Coming, NodeStep}
use Rattle.grasp_core.specs.declared.node_core.NodeCore.{NodeCore}

-- one call: the number of its caller, the reading that the caller passed, the input, and the reply
pub record Entry : Type 0 where
  pub caller : ℕ
  pub now : ℕ
  pub input : Input
  pub reply : Reply

abbrev pub History : Type 0
History = List Entry

-- a call is one step of the node
pub record IsStep (n : NodeState) (e : Entry) (after : NodeState) : Type 0 where
  pub coming : Coming
  pub step : NodeStep n e.now e.input coming e.reply after

-- the calls are steps of the node, one after the other, which lead from this node to that one
abbrev pub IsLegalHistory : NodeState → History → NodeState → Type 0
IsLegalHistory from [] to = to ≡ from
IsLegalHistory from (e ∷ es) to = (n : NodeState) × IsStep from e n × IsLegalHistory n es to

-- the calls of one caller, in their order
abbrev pub own_calls : ℕ → History → History
own_calls caller history = filter (λ e. e.caller == caller) history

-- the core stands for a node to which a legal history leads from this one; and that node is one to which only steps lead
pub record Reaches (from : NodeState) (history : History) (core : NodeCore) : Type 0 where
  pub to : NodeState
  pub legal : IsLegalHistory from history to
  pub stands : NodeStands core to
  pub node : IsBoundedNode to
  pub fed : IsDivided to
  pub limit : to.plan.limit < 2 ^ 64
