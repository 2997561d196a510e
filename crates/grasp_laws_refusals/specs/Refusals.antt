-- What refuses an agent's call at a node, and that nothing else does.
use Rattle.std.specs.Prelude.{◌≡◌, ◌≤◌, ℕ}
use Rattle.grasp_laws_refusals.specs.Causes.{HasCause, TakesMemory}
use Rattle.grasp_model_node.specs.Begin.{begin}
use Rattle.grasp_model_node.specs.BoundedNodes.{IsBoundedNode}
use Rattle.grasp_model_node.specs.Node.{NodeState}
use Rattle.grasp_model_node.specs.Step.{Coming, NodeStep}
use Rattle.grasp_types.specs.Refusal.{refusal_number}
use Rattle.grasp_types.specs.declared.call.Call.{Call}
use Rattle.grasp_types.specs.declared.refusal.ApiRefused.{ApiRefused}
use Rattle.grasp_types.specs.declared.refusal.ApiRefused.TheVariants.{OutOfMemory}
use Rattle.grasp_types.specs.declared.reply.Reply.{Reply}
use Rattle.grasp_types.specs.declared.reply.Reply.TheVariants as reply
use Rattle.grasp_types.specs.declared.traffic.Input.TheVariants as input

-- no refusal has its cause
abbrev pub HasNoCause : NodeState → ℕ → Call → Type 0
HasNoCause n asa it = (r : ApiRefused) → ¬ HasCause n asa it r

-- of those that have their cause, the refusal has the least number
pub record IsLeast (n : NodeState) (asa : ℕ) (it : Call) (r : ApiRefused) : Type 0 where
  pub cause : HasCause n asa it r
  pub least : (other : ApiRefused) → HasCause n asa it other → refusal_number r ≤ refusal_number other

-- A call without a cause is answered, or there was no memory for it; a call with one is refused for the least. A refused call changes nothing
abbrev pub IsAnsweredSo : NodeState → ℕ → Call → Reply → NodeState → Type 0
IsAnsweredSo n asa it (reply.Api answer) after = HasNoCause n asa it
IsAnsweredSo n asa it (reply.Refused OutOfMemory) after = HasNoCause n asa it × TakesMemory n asa it × (after ≡ n)
IsAnsweredSo n asa it (reply.Refused r) after = IsLeast n asa it r × (after ≡ n)
IsAnsweredSo n asa it _ after = ⊥

-- each call at each node to which steps lead, once the step has begun
abbrev pub RefusalsHaveCauses : Type 0
RefusalsHaveCauses = (n after : NodeState) (now asa : ℕ) (it : Call) (x : Coming) (r : Reply) → IsBoundedNode n → NodeStep n now (input.Api asa it) x r after
    → IsAnsweredSo (begin n now) asa it r after
