use Rattle.std.proofs.Common.{◌≡◌, ℕ, [], ◌++◌, subst, ◌∙◌}
use Rattle.grasp_cbor.specs.DataItem.{unsigned, text_string}
use Rattle.grasp_cbor.specs.Head.{shortest_head}
use Rattle.grasp_cbor.specs.Shortest.{shortest}
use Rattle.grasp_wire.specs.Put.{Puts}
use Rattle.grasp_wire.specs.declared.writing.put.Full.{Full}
use Rattle.grasp_wire.proofs.Putting.{puts_then, puts_last}
use Rattle.grasp_wire.proofs.writing.parts.put_objective_start.Goals as goal

pub returns-clause-puts : goal.returns-clause-puts
returns-clause-puts g c =
    let name = shortest (text_string c.args.name.now) in
    let flags = shortest (unsigned c.from.result) in
    let loops = shortest (unsigned c.from-2.result) in
    let bits : c.from.result ≡ c.args.flags = c.from.ensures ∙ c.bits.ensures.value in
    let start = g.P.Put.place c.args.out.now in
    let first = g.P.Put.place c.array_head.new.self in
    let second = g.P.Put.place c.text_string.new.self in
    let third = g.P.Put.place c.unsigned.new.self in
    let end = g.P.Put.place c.unsigned-2.new.self in
    let place = λ (f l : ℕ). Puts {E = Full} g.P.Put.Keeps g.P.Put.Counts start end (shortest_head 4 c.args.count ++ (name ++ (shortest (unsigned f) ++ (shortest (unsigned l) ++ [])))) c.unsigned-2.result in
    subst (λ f. place f c.args.loops) bits (subst (λ l. place c.from.result l) c.from-2.ensures
    (puts_then Full g.P.Put.Keeps g.P.Put.Counts start first end (shortest_head 4 c.args.count) (name ++ (flags ++ (loops ++ []))) c.unsigned-2.result c.in_ok-array_head.ensures.puts
    (puts_then Full g.P.Put.Keeps g.P.Put.Counts first second end name (flags ++ (loops ++ [])) c.unsigned-2.result c.in_ok-text_string.ensures.puts
    (puts_then Full g.P.Put.Keeps g.P.Put.Counts second third end flags (loops ++ []) c.unsigned-2.result c.in_ok-unsigned.ensures.puts
    (puts_last Full g.P.Put.Keeps g.P.Put.Counts third end loops c.unsigned-2.result c.unsigned-2.ensures.puts)))))
