use Rattle.std.proofs.Common.{[], ◌∷◌, refl}
use Rattle.std.specs.Int.{to_be_bytes, w128}
use Rattle.grasp_cbor.specs.DataItem.{unsigned, byte_string}
use Rattle.grasp_types.specs.Address.{proto_item}
use Rattle.grasp_wire.proofs.Straight.{kind_ends}
use Rattle.grasp_wire.proofs.direct.locator.read_v6.Goals as goal

pub returns-clause-ends : goal.returns-clause-ends
returns-clause-ends c =
    kind_ends 103 (byte_string (to_be_bytes w128 c.in_ok-address.address) ∷ proto_item c.in_ok-proto.proto ∷ unsigned c.in_ok-port.port ∷ []) 4 c.args.bytes.now c.in_ok-port.rest.now refl
    (c.in_ok-address.rest.now, c.in_ok-address.ensures.leads, (c.in_ok-proto.rest.now, c.in_ok-proto.ensures, (c.in_ok-port.rest.now, c.in_ok-port.ensures.leads, refl)))
