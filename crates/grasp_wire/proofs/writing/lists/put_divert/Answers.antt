use Rattle.std.proofs.Common.{◌+◌, [], ◌∷◌, map, Ok, arith}
use Rattle.std.proofs.lemmas.List.{length-map}
use Rattle.grasp_cbor.specs.DataItem.{unsigned}
use Rattle.grasp_cbor.specs.Head.{shortest_head}
use Rattle.grasp_cbor.specs.Shortest.{shortest}
use Rattle.grasp_types.specs.Address.{locator_item}
use Rattle.grasp_wire.specs.Parts.{shortest_parts}
use Rattle.grasp_wire.specs.declared.writing.put.Full.{Full}
use Rattle.grasp_wire.proofs.Putting.{puts_then, puts_last, array_put}
use Rattle.grasp_wire.proofs.writing.lists.put_divert.Goals as goal

pub returns-clause-puts : goal.returns-clause-puts
returns-clause-puts g c =
    let start = g.P.Put.place c.args.out.now in
    let first = g.P.Put.place c.array_head.new.self in
    let second = g.P.Put.place c.unsigned.new.self in
    array_put Full g.P.Put.Keeps g.P.Put.Counts start second (g.P.Put.place c.put_locators.new.out) (unsigned 100 ∷ []) (map locator_item c.args.locators.now) (c.len.result + 1) c.put_locators.result
    (omega (arith, c.len.ensures.value, length-map c.args.locators.now locator_item))
    (puts_then Full g.P.Put.Keeps g.P.Put.Counts start first second (shortest_head 4 (c.len.result + 1)) (shortest_parts (unsigned 100 ∷ [])) (Ok tt) c.in_ok-array_head.ensures.puts
    (puts_last Full g.P.Put.Keeps g.P.Put.Counts first second (shortest (unsigned 100)) (Ok tt) c.in_ok-unsigned.ensures.puts)) c.put_locators.ensures.puts
