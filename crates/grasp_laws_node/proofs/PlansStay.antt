-- No step changes the plan of its node.
use Rattle.std.proofs.Common.{◌≡◌, ℕ, ◌∙◌}
use Rattle.grasp_types.specs.declared.reply.Reply.{Reply}
use Rattle.grasp_types.specs.declared.traffic.Input.{Input}
use Rattle.grasp_model_node.specs.Begin.{begin}
use Rattle.grasp_model_node.specs.Node.{NodeState}
use Rattle.grasp_model_node.specs.Step.{Coming, NodeStep}
use Rattle.grasp_laws_node.proofs.Walk.Moves.{anything, begins, stays}
use Rattle.grasp_laws_node.proofs.Walk.Parts.{plan_stays}
use Rattle.grasp_laws_node.proofs.Walk.Steps.{begin_moves, turn_of, tells_anything, acts_moves}

pub step_plan : (n after : NodeState) (now : ℕ) (i : Input) (x : Coming) (r : Reply) → NodeStep n now i x r after → after.plan ≡ n.plan
step_plan n after now i x r s =
    let b = begin n now in
    stays (λ m. m.plan) (plan_stays anything b (turn_of i)) (acts_moves anything b after i x r s.is_coming (tells_anything b i x r after) s.acts)
    ∙ stays (λ m. m.plan) (plan_stays anything n begins) (begin_moves anything n n now)
