use Rattle.grasp_quick.proofs.Sequence.{address_spelled}
use Rattle.grasp_quick.proofs.places.spell_address.Goals as goal

pub returns : goal.returns
returns c =
    address_spelled c.in_ok-address.address c.in_ok-content.content.now c.args.bytes.now c.in_ok-content.rest.now c.args.line.now c.put_octets.new.self
    c.in_ok-content.ensures.some c.in_ok-address.ensures.some c.in_ok-address.ensures.valid c.in_ok-put_octets.ensures
