use Rattle.std.proofs.Common.{arith, ◌≡◌}
use Rattle.grasp_runner_kept.proofs.Ends.{all_empty, none_empty, one_more_empty}
use Rattle.grasp_runner_kept.proofs.reports.empty_disks.Goals as goal

pub loop-made-init : goal.loop-made-init
loop-made-init c = none_empty c.new-disks.result c.new-disks.ensures

pub loop-made-preserved : goal.loop-made-preserved
loop-made-preserved c = one_more_empty c.loop-made.made c.loop-made.disks c.push.new.self c.in_ok-new.field-0 c.loop-made.invariant c.in_ok-new.ensures c.in_ok-push.ensures.ok

pub returns : goal.returns
returns c =
    let all : c.loop-made.made ≡ c.args.nodes = omega arith in
    all_empty c.loop-made.made c.args.nodes c.loop-made.disks c.loop-made.invariant all
