-- A line of blanks and visible characters of ASCII alone is a text.
use Rattle.std.proofs.Common.{◌≡◌, ℕ, ◌<◌, ◌≤◌, true, leb, List, [], ◌∷◌, All, arith}
use Rattle.std.specs.Str.{IsAscii, IsUtf8}
use Rattle.std.proofs.lemmas.Bool.{leb-true, and_parts}
use Rattle.std.proofs.lemmas.List.Elements.{All-nil, All-cons}
use Rattle.std.proofs.lemmas.Str.{IsUtf8-from_ascii}
use Rattle.std.proofs.lemmas.Str.Ascii.{IsAscii-from_all}
use Rattle.grasp_control.specs.Answers.{is_printable, are_printable}

all_small : (line : List ℕ) → are_printable line ≡ true → All (λ b. b < 128) line
all_small [] e = All-nil (λ b. b < 128)
all_small (b ∷ line) e =
    let both = and_parts (is_printable b) (are_printable line) e
    in let most : b ≤ 126 = leb-true b 126 ((and_parts (leb 32 b) (leb b 126) both.0).1)
    in All-cons (λ x. x < 128) b line (omega arith) (all_small line both.1)

pub printable_ascii : (line : List ℕ) → are_printable line ≡ true → IsAscii line
printable_ascii line e = IsAscii-from_all line (all_small line e)

pub printable_text : (line : List ℕ) → are_printable line ≡ true → IsUtf8 line
printable_text line e = IsUtf8-from_ascii line (printable_ascii line e)
