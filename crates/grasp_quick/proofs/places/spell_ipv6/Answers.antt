use Rattle.std.proofs.Common.{rules, ◌<◌, ◌^◌}
use Rattle.grasp_quick.proofs.Sequence.{ipv6_spelled}
use Rattle.grasp_quick.proofs.places.spell_ipv6.Goals as goal

pub returns : goal.returns
returns c =
    let few : c.in_ok-address.address < 2 ^ 128 = search rules in
    ipv6_spelled c.in_ok-address.address c.in_ok-content.content.now c.args.bytes.now c.in_ok-content.rest.now c.args.line.now c.put_octets.new.self
    c.in_ok-content.ensures.some c.in_ok-address.ensures.some few c.in_ok-put_octets.ensures
