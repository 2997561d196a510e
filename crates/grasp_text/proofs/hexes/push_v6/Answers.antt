use Rattle.std.proofs.Common.{rules, ◌≡◌, ◌++◌, ◌∷◌, [], string_bytes, ap, ◌∙◌}
use Rattle.hex.specs.Hex.{encode_lower}
use Rattle.grasp_text.specs.Line.{v6_word}
use Rattle.grasp_text.proofs.HexWords.{word_pushed}
use Rattle.grasp_text.proofs.hexes.push_v6.Goals as goal

pub returns-clause-text : goal.returns-clause-text
returns-clause-text c =
    let middle : string_bytes c.push.new.self ≡ string_bytes c.args.out.now ++ 32 ∷ [] = search rules in
    let new : string_bytes c.push_str.new.self ≡ string_bytes c.push.new.self ++ string_bytes c.in_ok-digits.digits = search rules in
    let digits : string_bytes c.in_ok-digits.digits ≡ v6_word c.args.n = c.in_ok-digits.ensures ∙ ap encode_lower c.to_be_bytes.ensures in
    word_pushed (string_bytes c.args.out.now) (string_bytes c.push.new.self) (string_bytes c.push_str.new.self) (string_bytes c.in_ok-digits.digits) (v6_word c.args.n) middle new digits
