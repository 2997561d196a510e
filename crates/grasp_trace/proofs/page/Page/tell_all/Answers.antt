use Rattle.grasp_trace.proofs.Cutting.{none_told}
use Rattle.grasp_trace.proofs.page.Page.tell_all.Goals as goal

pub loop-waits-init : goal.loop-waits-init
loop-waits-init g c past h = none_told _ _ past c.args.cutter.now _ h
