use Rattle.std.proofs.Common.{[], ◌∷◌, refl}
use Rattle.grasp_cbor.specs.DataItem.{unsigned, text_string}
use Rattle.grasp_types.specs.Address.{proto_item}
use Rattle.grasp_wire.proofs.Straight.{kind_ends}
use Rattle.grasp_wire.proofs.direct.locator.read_fqdn.Goals as goal

pub returns-clause-ends : goal.returns-clause-ends
returns-clause-ends c =
    kind_ends 105 (text_string c.in_ok-name.name ∷ proto_item c.in_ok-proto.proto ∷ unsigned c.in_ok-port.port ∷ []) 4 c.args.bytes.now c.in_ok-port.rest.now refl
    (c.in_ok-name.rest.now, c.in_ok-name.ensures.leads, (c.in_ok-proto.rest.now, c.in_ok-proto.ensures, (c.in_ok-port.rest.now, c.in_ok-port.ensures.leads, refl)))
