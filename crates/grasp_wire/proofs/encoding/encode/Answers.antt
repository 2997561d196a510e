use Rattle.std.proofs.Common.{◌≡◌, ◌++◌, ◌≤◌, ◌+◌, length, ap, ◌∙◌, arith}
use Rattle.std.proofs.lemmas.List.{length-append}
use Rattle.grasp_cbor.specs.Shortest.{shortest}
use Rattle.grasp_types.specs.Message.{item_of}
use Rattle.grasp_wire.proofs.EncodableItems.{shortest_is_form}
use Rattle.grasp_wire.proofs.encoding.encode.Goals as goal

pub returns-then-len-from-clause-form : goal.returns-then-len-from-clause-form
returns-then-len-from-clause-form c =
    let put : c.put_message.new.out.items ≡ c.args.out.now.items ++ shortest (item_of c.args.message.now) = c.in-Ok.ensures.puts.0 tt in
    let long : length c.put_message.new.out.items ≡ length c.args.out.now.items + length (shortest (item_of c.args.message.now)) = ap length put ∙ length-append c.args.out.now.items (shortest (item_of c.args.message.now)) in
    let within : length (shortest (item_of c.args.message.now)) ≤ c.args.limit = omega (arith, long) in
    shortest_is_form c.args.message.now c.args.limit (omega (arith, c.ranges.limit.fits)) (c.in-Ok.ensures.range tt) within
