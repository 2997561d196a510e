use Rattle.std.proofs.Common.{sym, arith}
use Rattle.grasp_runner.proofs.Counted.{all_counted, begin_counting, can_count, count_next, count_stops}
use Rattle.grasp_runner.proofs.Passed.{can_run_next, line_there}
use Rattle.grasp_runner.proofs.counting.count_lines.Goals as goal

pub loop-i-init : goal.loop-i-init
loop-i-init c = begin_counting c.args.script.now c.args.world.now _ c.requires c.new-tally.ensures

pub unreachable-requires : goal.unreachable-requires
unreachable-requires c = line_there c.args.script.now.lines c.loop-i.i (omega arith) (sym (rw c.in_default.is at c.line.ensures))

pub count_line-requires-clause-run : goal.count_line-requires-clause-run
count_line-requires-clause-run c = can_run_next c.args.script.now _ c.loop-i.invariant.counted.run c.loop-i.i c.in-Some.line.now c.requires.read c.loop-i.invariant.counted.has_run (sym c.in-Some.ensures)

pub count_line-requires-clause-count : goal.count_line-requires-clause-count
count_line-requires-clause-count c = can_count _ _ _ _ c.loop-i.i c.loop-i.invariant (omega arith)

pub returns-in-Err : goal.returns-in-Err
returns-in-Err c = count_stops c.args.script.now _ c.count_line.new.world c.loop-i.i c.in-Some.line.now _ c.in-Err.fault c.requires.read c.loop-i.invariant (sym c.in-Some.ensures) c.in-Err.ensures

pub loop-i-preserved : goal.loop-i-preserved
loop-i-preserved c = count_next c.args.script.now _ c.count_line.new.world c.loop-i.i c.in-Some.line.now _ _ c.requires.read c.loop-i.invariant (sym c.in-Some.ensures) c.in-Ok.ensures

pub returns : goal.returns
returns c = all_counted c.args.script.now _ c.loop-i.i _ c.loop-i.invariant (omega arith)
