use Rattle.std.proofs.Common.{◌-◌, arith}
use Rattle.grasp_quick.proofs.Spelled.{found_is}
use Rattle.grasp_quick.proofs.MessageLines.{flood_line}
use Rattle.grasp_quick.proofs.kinds.spell_flood.Goals as goal

pub returns : goal.returns
returns c = found_is _ _ c.spell_flood_parts.result c.spell_flood_parts.ensures (λ rest h.
    flood_line c.args.count (c.args.count - 4) c.args.bytes.now c.in_ok-rest.rest.now c.in_ok-rest-2.rest.now c.in_ok-rest-3.rest.now rest.now c.args.line.now c.put.new.self c.below.new.line c.spell_address.new.line c.below-2.new.line c.spell_flood_parts.new.line
    (omega (arith, c.if-count-lt5.false)) (omega (arith, c.if-count-lt5.false)) c.in_ok-put.ensures c.in_ok-rest.ensures c.in_ok-rest-2.ensures c.in_ok-rest-3.ensures h)
