use Rattle.std.proofs.Common.{ap, subst, ◌∙◌}
use Rattle.grasp_types.specs.declared.message.Message.{Message}
use Rattle.grasp_model_node.specs.Answered.{if_answered}
use Rattle.grasp_model_node.specs.Node.{NodeState}
use Rattle.grasp_core.specs.Outgoing.{searched}
use Rattle.grasp_core.specs.Stands.{NodeStands}
use Rattle.grasp_core.proofs.Spreading.{begun_is}
use Rattle.grasp_core.proofs.node_core.NodeCore.search_for.Goals as goal

pub returns-in-Ok-clause-after : goal.returns-in-Ok-clause-after
returns-in-Ok-clause-after c = λ n h.
    subst (λ (after : NodeState). NodeStands c.start_search.new.self (if_answered n after c.start_search.result))
    (ap (λ (m : Message). searched n c.args.asa c.args.kind c.args.timeout m) (c.discovery_message-message.ensures.is n h) ∙ begun_is n c.args.asa c.args.name c.args.kind c.args.loops c.args.timeout)
    (c.start_search.ensures.after n h (c.in-Ok.ensures.outputs n h))
