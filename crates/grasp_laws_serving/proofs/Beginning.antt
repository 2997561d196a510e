-- A member begins as a node of its plan and roots stands once its agent of prefixes is opened.
use Rattle.std.proofs.Common.{◌≡◌, sym, ap, ◌∙◌, List}
use Rattle.grasp_model_network.specs.Openings.{first_seat, opened_seat}
use Rattle.grasp_model_network.specs.Setting.{Member}
use Rattle.grasp_model_node.specs.Node.{NodeState, first_node}
use Rattle.grasp_model_node.specs.declared.plan.NodePlan.{NodePlan}
use Rattle.grasp_node_main.specs.Networks.{NodesOpenAsSeats}
use Rattle.grasp_node_main.specs.Openings.{opened_agent, openings}
use Rattle.grasp_pool.specs.Functions.{pool_of}
use Rattle.grasp_pool.specs.declared.roots.RootPrefix.{RootPrefix}
use Rattle.grasp_shared.specs.History.{IsLegalHistory}

pub opens : NodesOpenAsSeats → (m : Member) (plan : NodePlan) (roots : List RootPrefix) (opened : NodeState) → plan ≡ m.plan → roots ≡ m.roots → IsLegalHistory (first_node plan) openings opened
    → first_seat m ≡ record { core = opened; agent = opened_agent (pool_of roots) }
opens seats m plan roots opened same held legal =
    ap (λ (p : NodePlan). opened_seat p (pool_of m.roots)) (sym same)
    ∙ (ap (λ (rs : List RootPrefix). opened_seat plan (pool_of rs)) (sym held) ∙ seats plan (pool_of roots) opened legal)
