use Rattle.std.proofs.Common.{[], ◌∷◌, refl}
use Rattle.grasp_cbor.specs.DataItem.{text_string}
use Rattle.grasp_types.specs.Address.{proto_or_null, port_or_null}
use Rattle.grasp_wire.proofs.Straight.{kind_ends}
use Rattle.grasp_wire.proofs.direct.locator.read_uri.Goals as goal

pub returns-clause-ends : goal.returns-clause-ends
returns-clause-ends c =
    kind_ends 106 (text_string c.in_ok-text.text ∷ proto_or_null c.in_ok-proto.proto ∷ port_or_null c.in_ok-port.port ∷ []) 4 c.args.bytes.now c.in_ok-port.rest.now refl
    (c.in_ok-text.rest.now, c.in_ok-text.ensures.leads, (c.in_ok-proto.rest.now, c.in_ok-proto.ensures, (c.in_ok-port.rest.now, c.in_ok-port.ensures.leads, refl)))
