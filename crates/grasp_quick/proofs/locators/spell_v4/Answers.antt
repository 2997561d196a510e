use Rattle.grasp_quick.proofs.Spelled.{found_is}
use Rattle.grasp_quick.proofs.Sequence.{v4_spelled}
use Rattle.grasp_quick.proofs.locators.spell_v4.Goals as goal

pub returns : goal.returns
returns c = found_is _ _ c.below.result c.below.ensures (λ rest h.
    v4_spelled c.args.bytes.now c.in_ok-rest.rest.now c.in_ok-rest-2.rest.now rest.now c.args.line.now c.put.new.self c.spell_ipv4.new.line c.spell_proto.new.line c.below.new.line
    c.in_ok-put.ensures c.in_ok-rest.ensures c.in_ok-rest-2.ensures h)
