use Rattle.std.proofs.Common.{sym, arith}
use Rattle.grasp_runner.proofs.Passed.{line_there}
use Rattle.grasp_recorder.proofs.Passed.{all_written, begin_lines, can_record_next, faults_written, write_next}
use Rattle.grasp_recorder.proofs.writing.record_lines.Goals as goal

pub loop-i-init : goal.loop-i-init
loop-i-init g c = (begin_lines c.args.script.now c.requires.read c.args.buffer.now _ _ _ c.requires (c.new-recorder.ensures c.args.script.now.plan c.requires.read.1.is_header.good), omega arith)

pub unreachable-requires : goal.unreachable-requires
unreachable-requires g c = line_there c.args.script.now.lines c.loop-i.i (omega arith) (sym (rw c.in_default.is at c.line.ensures))

pub write_line-requires : goal.write_line-requires
write_line-requires g c = can_record_next c.args.script.now c.requires.read c.args.buffer.now _ _ c.loop-i.i c.in-Some.line.now _ _ _ c.loop-i.invariant.0 (sym c.in-Some.ensures)

pub returns-in-Err-clause-written : goal.returns-in-Err-clause-written
returns-in-Err-clause-written g c =
    faults_written c.args.script.now c.requires.read c.args.buffer.now _ c.write_line.new.recorder _ c.write_line.new.world c.loop-i.i c.in-Some.line.now _ _ _ _ _ c.loop-i.invariant.0 (sym c.in-Some.ensures)
    c.in-Err.fault c.in-Err.ensures.written

pub loop-i-preserved : goal.loop-i-preserved
loop-i-preserved g c = (
  write_next c.args.script.now c.requires.read c.args.buffer.now _ c.write_line.new.recorder _ c.write_line.new.world c.loop-i.i c.in-Some.line.now _ _ _ _ _ c.loop-i.invariant.0 (sym c.in-Some.ensures) tt c.in-Ok.ensures.written,
  omega (arith, c.loop-i.invariant.1, c.write_line.ensures.never_falls),
)

pub returns-clause-written : goal.returns-clause-written
returns-clause-written g c = all_written c.args.script.now c.requires.read c.args.buffer.now _ _ c.loop-i.i _ _ _ c.loop-i.invariant.0 (omega arith)
