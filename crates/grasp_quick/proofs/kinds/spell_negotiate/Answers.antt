use Rattle.grasp_quick.proofs.Spelled.{found_is}
use Rattle.grasp_quick.proofs.MessageLines.{negotiate_line}
use Rattle.grasp_quick.proofs.kinds.spell_negotiate.Goals as goal

pub returns : goal.returns
returns c = found_is _ _ c.spell_told.result c.spell_told.ensures (λ rest h. negotiate_line c.args.count c.args.bytes.now rest.now c.args.line.now c.put.new.self c.spell_told.new.line c.in_ok-put.ensures h)
