use Rattle.std.proofs.Common.{subst}
use Rattle.grasp_model_node.specs.Node.{NodeState}
use Rattle.grasp_core.specs.Stands.{NodeStands}
use Rattle.grasp_core.proofs.Heard.{refused}
use Rattle.grasp_core.proofs.node_core.NodeCore.refuse.Goals as goal

pub returns-clause-ok : goal.returns-clause-ok
returns-clause-ok c = λ n h.
    subst (λ (m : NodeState). NodeStands c.mark_bad.new.self m) (refused n c.args.stream c.in-Some.session (rw c.if-ended.false at (c.in-Some.ensures.reply n.sessions h.sessions))) (c.mark_bad.ensures _ (c.in_ok-invalid.ensures.ok n h))
