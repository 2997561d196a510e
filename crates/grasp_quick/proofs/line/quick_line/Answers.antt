use Rattle.grasp_quick.proofs.Spelled.{found_is}
use Rattle.grasp_quick.proofs.MessageLines.{whole_line}
use Rattle.grasp_quick.proofs.line.quick_line.Goals as goal

pub returns : goal.returns
returns c = found_is _ _ c.spell_kind.result c.spell_kind.ensures (λ rest h.
    whole_line c.in_ok-count.count c.in_ok-kind.kind c.args.bytes.now c.in_ok-count.rest.now c.in_ok-kind.rest.now rest.now c.args.line.now c.spell_kind.new.line c.in_ok-count.ensures.some c.in_ok-kind.ensures.some h)
