use Rattle.std.proofs.Common.{◌≡◌, false, refl, sym, subst}
use Rattle.grasp_model_node.specs.Node.{first_node}
use Rattle.grasp_model_node.specs.Plan.{is_bad_plan}
use Rattle.grasp_core.specs.Stands.{NodeStands}
use Rattle.grasp_model_node.specs.declared.plan.NodePlan.{NodePlan}
use Rattle.grasp_laws_network.proofs.Opened.{script_nodes_open}
use Rattle.grasp_simulator.proofs.opening.fresh_seat.Goals as goal

pub open_core-requires : goal.open_core-requires
open_core-requires c =
    subst (λ (n : NodePlan). is_bad_plan n ≡ false) (sym c.in_ok-opened.ensures) (script_nodes_open c.args.plan.now c.args.node c.requires.good c.requires.node)

pub returns : goal.returns
returns c = (
  refl,
  λ h is. record {
    core = subst (λ (n : NodePlan). NodeStands c.in_ok-core.core (first_node n)) c.in_ok-opened.ensures c.in_ok-core.ensures;
    agent = is;
  },
)
