use Rattle.grasp_quick.proofs.MessageLines.{noop_line}
use Rattle.grasp_quick.proofs.kinds.spell_noop.Goals as goal

pub returns : goal.returns
returns c = noop_line c.args.count c.args.bytes.now c.args.line.now c.put.new.self c.if-count-ne1.false c.in_ok-put.ensures
