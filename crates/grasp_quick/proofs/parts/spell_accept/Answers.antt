use Rattle.grasp_quick.proofs.MessageLines.{accepted}
use Rattle.grasp_quick.proofs.parts.spell_accept.Goals as goal

pub returns : goal.returns
returns c = accepted c.args.count c.args.bytes.now c.args.line.now c.put.new.self c.if-count-ne1.false c.in_ok-put.ensures
