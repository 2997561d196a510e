use Rattle.std.proofs.Common.{rules, ◌≡◌, Some}
use Rattle.grasp_text.specs.Reading.{unescaped}
use Rattle.grasp_text.proofs.TextWords.{text_by}
use Rattle.grasp_text.proofs.texts.text_of_escaped.Goals as goal

pub returns-in-Some : goal.returns-in-Some
returns-in-Some c =
    let read : unescaped c.args.escaped.now ≡ Some c.in-Some.bytes.items = search rules in
    text_by c.from_vec.result c.in-Some.bytes.items (unescaped c.args.escaped.now) c.from_vec.ensures.text c.from_vec.ensures.some c.from_vec.ensures.none read
