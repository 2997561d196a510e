use Rattle.std.specs.Prelude.{codes, decimal}
use Rattle.grasp_trace.proofs.Lining.{three_pushed}
use Rattle.grasp_trace.proofs.lines.push_count.Goals as goal

pub returns : goal.returns
returns c = three_pushed c.push_word-2.result _ _ _ _ (codes "no message in") (decimal c.args.count) (codes "bytes") c.in_ok-push_word.ensures.text c.in_ok-push_number.ensures.text c.push_word-2.ensures.text
