use Rattle.std.proofs.Common.{rules, ◌≡◌, ◌++◌, ◌∷◌, [], string_bytes, subst}
use Rattle.grasp_text.specs.Reading.{ArePlain}
use Rattle.grasp_text.proofs.TextWords.{text_pushed_plain}
use Rattle.grasp_text.proofs.texts.push_text.Goals as goal

pub returns-in_ok-push_str-2-clause-text : goal.returns-in_ok-push_str-2-clause-text
returns-in_ok-push_str-2-clause-text c =
    let middle : string_bytes c.push_str.new.self ≡ string_bytes c.args.out.now ++ 32 ∷ 39 ∷ [] = search rules in
    let new : string_bytes c.push_str-then-stand_for_themselves.new.self ≡ string_bytes c.push_str.new.self ++ c.text.result.now = search rules in
    let plain : ArePlain c.args.text.now = subst ArePlain c.bytes.ensures.bytes (c.stand_for_themselves.ensures c.if-stand_for_themselves.true) in
    text_pushed_plain (string_bytes c.args.out.now) (string_bytes c.push_str.new.self) (string_bytes c.push_str-then-stand_for_themselves.new.self) c.text.result.now c.args.text.now middle new c.text.ensures.text plain
