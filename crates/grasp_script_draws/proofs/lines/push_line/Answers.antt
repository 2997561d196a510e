use Rattle.std.proofs.Common.{map, decimal}
use Rattle.grasp_script_draws.proofs.LinesWritten.{line_pushed, no_numbers, numbers_step, numbers_done}
use Rattle.grasp_script_draws.proofs.lines.push_line.Goals as goal

pub loop-number-init : goal.loop-number-init
loop-number-init c = no_numbers _ c.args.numbers.now

pub loop-number-preserved : goal.loop-number-preserved
loop-number-preserved c = numbers_step c.args.numbers.now c.loop-number.number-index _ _ _ c.loop-number-test.true c.loop-number.invariant c.in_ok-push_number.ensures.text

pub returns : goal.returns
returns c = line_pushed _ _ _ _ c.args.word.now (map decimal c.args.numbers.now) c.in_ok-push_str.ensures.bytes
    (numbers_done c.args.numbers.now c.loop-number.number-index _ _ c.loop-number-test.false c.loop-number.invariant)
    c.in_ok-push_str-2.ensures.bytes
