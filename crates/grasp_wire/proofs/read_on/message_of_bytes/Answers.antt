use Rattle.std.proofs.Common.{◌<◌, ◌^◌, length, rules, arith}
use Rattle.grasp_cbor.specs.Encodes.{Encodes}
use Rattle.grasp_cbor.specs.Item.{data_item_of}
use Rattle.grasp_cbor.proofs.Encoded.{encoded}
use Rattle.grasp_cbor.proofs.HeadBytes.{AllBytes-from}
use Rattle.grasp_wire.proofs.read_on.message_of_bytes.Goals as goal

pub message_of_item-requires : goal.message_of_item-requires
message_of_item-requires c =
    let encodes : Encodes (data_item_of c.in_ok-item.item) c.args.bytes.now = search rules in
    let few : length c.args.bytes.now < 2 ^ 64 = search rules in
    encoded (data_item_of c.in_ok-item.item) c.args.bytes.now (AllBytes-from c.args.bytes.now (λ i. omega (arith, c.type_inv.bytes i))) few encodes
