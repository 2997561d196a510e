use Rattle.std.proofs.Common.{arith}
use Rattle.grasp_script.specs.Scripts.{text_lines}
use Rattle.grasp_recorder.proofs.Headers.{all_put, front_put, line_left, next_put, nothing_put}
use Rattle.grasp_recorder.proofs.header.put_lines.Goals as goal

pub loop-i-init : goal.loop-i-init
loop-i-init g c = (nothing_put c.args.text.now _ _ c.requires.empty, omega arith)

pub unreachable-requires : goal.unreachable-requires
unreachable-requires g c = line_left (text_lines c.args.text.now) c.loop-i.i c.args.count _ c.loop-i.invariant.0.left (omega arith) c.requires.many c.in_default.ensures.none

pub returns-in-Err-clause-front : goal.returns-in-Err-clause-front
returns-in-Err-clause-front g c = front_put (text_lines c.args.text.now) c.loop-i.i c.args.count _ _ _ _ _ _ _ c.loop-i.invariant.0 c.in-Some.ensures.line (omega arith) c.in-Err.ensures.front

pub loop-i-preserved : goal.loop-i-preserved
loop-i-preserved g c = (
  next_put (text_lines c.args.text.now) c.loop-i.i _ _ _ _ _ _ _ _ c.loop-i.invariant.0 c.in-Some.ensures.line c.in-Ok.ensures.passed,
  omega (arith, c.loop-i.invariant.1, c.put_line.ensures.never_falls),
)

pub returns-clause-passed : goal.returns-clause-passed
returns-clause-passed g c = all_put (text_lines c.args.text.now) c.loop-i.i c.args.count _ _ _ _ c.loop-i.invariant.0 (omega arith) (omega arith)
