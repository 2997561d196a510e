use Rattle.std.proofs.Common.{refl, length}
use Rattle.std.proofs.lemmas.Option.{slice_get_read}
use Rattle.grasp_node_main.proofs.Configured.{want_planned}
use Rattle.grasp_node_main.proofs.planning.want_plans.Goals as goal

pub loop-want-preserved : goal.loop-want-preserved
loop-want-preserved c =
    let wants = c.args.wants.now in
    let i = c.loop-want.want-index in
    want_planned wants i c.want-item.result c.loop-want.plans c.push.new.self c.in_ok-want_plan.field-0
    (slice_get_read wants (length wants) i c.want-item.result refl c.loop-want-test.true c.want-item.is) c.loop-want.invariant c.in_ok-want_plan.ensures c.in_ok-push.ensures.ok
