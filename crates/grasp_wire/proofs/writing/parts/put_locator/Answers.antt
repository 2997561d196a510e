use Rattle.std.proofs.Common.{[], ◌++◌, append_assoc, sym, subst}
use Rattle.grasp_cbor.specs.DataItem.{unsigned, text_string}
use Rattle.grasp_cbor.specs.Head.{shortest_head}
use Rattle.grasp_cbor.specs.Shortest.{shortest}
use Rattle.grasp_types.specs.Address.{locator_item, proto_or_null, port_or_null}
use Rattle.grasp_types.specs.declared.address.Locator.{Locator}
use Rattle.grasp_wire.specs.Put.{Puts}
use Rattle.grasp_wire.specs.declared.writing.put.Full.{Full}
use Rattle.grasp_wire.proofs.Putting.{puts_then, puts_last}
use Rattle.grasp_wire.proofs.writing.parts.put_locator.Goals as goal

pub returns-in_ok-put_proto_or_null-in-Uri-clause-puts : goal.returns-in_ok-put_proto_or_null-in-Uri-clause-puts
returns-in_ok-put_proto_or_null-in-Uri-clause-puts g c =
    let head = shortest_head 4 4 in
    let number = shortest (unsigned 106) in
    let text = shortest (text_string c.in-Uri.text) in
    let proto = shortest (proto_or_null c.in-Uri.proto) in
    let port = shortest (port_or_null c.in-Uri.port) in
    let start = g.P.Put.place c.args.out.now in
    let first = g.P.Put.place c.put_locator_start-in-Uri.new.out in
    let second = g.P.Put.place c.text_string-in-Uri.new.self in
    let third = g.P.Put.place c.put_proto_or_null.new.out in
    let end = g.P.Put.place c.put_port_or_null.new.out in
    let r = c.put_port_or_null.result in
    subst (λ (l : Locator). Puts {E = Full} g.P.Put.Keeps g.P.Put.Counts start end (shortest (locator_item l)) r) (sym c.in-Uri.is)
    (subst (λ s. Puts {E = Full} g.P.Put.Keeps g.P.Put.Counts start end s r) (append_assoc head number (text ++ (proto ++ (port ++ []))))
    (puts_then Full g.P.Put.Keeps g.P.Put.Counts start first end (head ++ number) (text ++ (proto ++ (port ++ []))) r c.in_ok-put_locator_start-in-Uri.ensures.puts
    (puts_then Full g.P.Put.Keeps g.P.Put.Counts first second end text (proto ++ (port ++ [])) r c.in_ok-text_string-in-Uri.ensures.puts
    (puts_then Full g.P.Put.Keeps g.P.Put.Counts second third end proto (port ++ []) r c.in_ok-put_proto_or_null-in-Uri.ensures.puts
    (puts_last Full g.P.Put.Keeps g.P.Put.Counts third end port r c.put_port_or_null.ensures.puts)))))
