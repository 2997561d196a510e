use Rattle.std.proofs.Common.{ℕ, List, [], ◌∷◌, ◌++◌, Option, option_map, sym, subst}
use Rattle.grasp_cbor.specs.DataItem.{unsigned, text_string, array_of}
use Rattle.grasp_cbor.specs.Head.{shortest_head}
use Rattle.grasp_cbor.specs.Shortest.{shortest}
use Rattle.grasp_types.specs.Objective.{optional}
use Rattle.grasp_wire.specs.Put.{Puts}
use Rattle.grasp_wire.specs.declared.writing.put.Full.{Full}
use Rattle.grasp_wire.proofs.Putting.{puts_then, puts_last}
use Rattle.grasp_wire.proofs.writing.parts.put_decline.Goals as goal

pub returns-in_ok-unsigned-in-Some-clause-puts : goal.returns-in_ok-unsigned-in-Some-clause-puts
returns-in_ok-unsigned-in-Some-clause-puts g c =
    let reason = shortest (text_string c.in-Some.reason) in
    let start = g.P.Put.place c.args.out.now in
    let first = g.P.Put.place c.array_head.new.self in
    let second = g.P.Put.place c.unsigned.new.self in
    let end = g.P.Put.place c.text_string.new.self in
    subst (λ (o : Option (List ℕ)). Puts {E = Full} g.P.Put.Keeps g.P.Put.Counts start end (shortest (array_of (unsigned 102 ∷ optional (option_map text_string o)))) c.text_string.result) (sym c.in-Some.is)
    (puts_then Full g.P.Put.Keeps g.P.Put.Counts start first end (shortest_head 4 2) (shortest (unsigned 102) ++ (reason ++ [])) c.text_string.result c.in_ok-array_head-in-Some.ensures.puts
    (puts_then Full g.P.Put.Keeps g.P.Put.Counts first second end (shortest (unsigned 102)) (reason ++ []) c.text_string.result c.in_ok-unsigned-in-Some.ensures.puts
    (puts_last Full g.P.Put.Keeps g.P.Put.Counts second end reason c.text_string.result c.text_string.ensures.puts)))
