use Rattle.std.proofs.Common.{sym, arith}
use Rattle.grasp_runner_doubts.proofs.Passed.{all_written, begin_writing, can_run_next, faults_written, line_there, write_next}
use Rattle.grasp_runner_doubts.proofs.reports.write_lines.Goals as goal

pub loop-i-init : goal.loop-i-init
loop-i-init g c = (begin_writing c.args.script.now c.args.world.now _ _ c.requires.ready c.requires.empty, omega arith)

pub unreachable-requires : goal.unreachable-requires
unreachable-requires g c = line_there c.args.script.now.lines c.loop-i.i (omega arith) (sym (rw c.in_default.is at c.line.ensures))

pub write_line-requires : goal.write_line-requires
write_line-requires g c =
    can_run_next c.args.script.now _ c.loop-i.invariant.0.run c.loop-i.i c.in-Some.line.now c.requires.ready.read c.loop-i.invariant.0.has_run
    (sym c.in-Some.ensures)

pub returns-in-Err-clause-written : goal.returns-in-Err-clause-written
returns-in-Err-clause-written g c =
    faults_written c.args.script.now _ c.write_line.new.world c.loop-i.i c.in-Some.line.now _ _ _ _ _ c.requires.ready.read (sym c.in-Some.ensures)
    c.loop-i.invariant.0 c.in-Err.fault c.in-Err.ensures.written

pub loop-i-preserved : goal.loop-i-preserved
loop-i-preserved g c = (
  write_next c.args.script.now _ c.write_line.new.world c.loop-i.i c.in-Some.line.now _ _ _ _ _ c.requires.ready.read (sym c.in-Some.ensures)
      c.loop-i.invariant.0 tt c.in-Ok.ensures.written,
  omega (arith, c.loop-i.invariant.1, c.write_line.ensures.never_falls),
)

pub returns-clause-written : goal.returns-clause-written
returns-clause-written g c = all_written c.args.script.now _ c.loop-i.i _ _ _ c.loop-i.invariant.0 (omega arith)
