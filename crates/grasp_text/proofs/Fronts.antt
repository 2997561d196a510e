-- A word at the front of a line, whose end is known by what it is made of.
use Rattle.std.proofs.Common.{◌≡◌, ℕ, zero, suc, ◌+◌, ◌-◌, ◌<◌, ◌≤◌, ◌^◌, Bool, true, false, not, ◌&&◌, eqb, leb, List, [], ◌∷◌, length, get_or, take, drop, Some, refl, sym, ap, subst, ◌∙◌, add-one, eq-eqb, arith}
use Rattle.std.specs.Prelude.{decimal}
use Rattle.std.specs.Str.{IsAscii, IsUtf8}
use Rattle.std.specs.Str.Parse.{AllDigits, digits_value}
use Rattle.std.proofs.Math.Seq.{split_at}
use Rattle.std.proofs.lemmas.Bool.{ne_eqb, and_parts, leb-true}
use Rattle.std.proofs.lemmas.List.{take_all, length-drop, length-take-le, get_or-take}
use Rattle.std.proofs.lemmas.List.Elements.{All-from_recursion}
use Rattle.std.proofs.lemmas.List.Splits.{slice_split_none, slice_split_at}
use Rattle.std.proofs.lemmas.Str.{IsUtf8-from_ascii}
use Rattle.std.proofs.lemmas.Str.Parse.{digit_from_value}
use Rattle.hex.specs.Hex.{IsBytes, encode_lower}
use Rattle.grasp_cbor.proofs.HeadBytes.{AllBytes-from}
use Rattle.grasp_text.specs.Line.{v4_word, v6_word, text_word}
use Rattle.grasp_text.specs.Reading.{ArePlain, is_plain, v4_of, v6_of, behind_byte}
use Rattle.grasp_text.specs.Words.{words_of, HasNoBlank}
use Rattle.grasp_text.proofs.Blanks.{v4_visible, v6_visible, hex_visible, each_other}
use Rattle.grasp_text.proofs.HexWords.{v4_exact, v6_exact}
use Rattle.grasp_text.proofs.Leaves.{behind_only}
use Rattle.grasp_text.proofs.NumberWords.{digits_spelled, some}
use Rattle.grasp_text.proofs.TextWords.{plain_escaped}

-- ---- where a word ends

abbrev is_blank : ℕ → Bool
is_blank b = eqb b 32

-- the line ends with the word
pub last_word : (s : List ℕ) (k : ℕ) → k ≡ length s → HasNoBlank (take k s) → words_of s ≡ take k s ∷ []
last_word s k e h =
    let whole : take k s ≡ s = take_all k s (omega arith) in
    slice_split_none is_blank s (All-from_recursion (λ b. is_blank b ≡ false) s (subst HasNoBlank whole h)) ∙ ap (λ (w : List ℕ). w ∷ []) (sym whole)

-- a blank is behind it
pub word_front : (s : List ℕ) (k : ℕ) → k < length s → get_or s k 0 ≡ 32 → HasNoBlank (take k s) → words_of s ≡ take k s ∷ words_of (take (length s - (k + 1)) (drop (k + 1) s))
word_front s k lt blank h =
    let after : drop (suc k) s ≡ take (length s - (k + 1)) (drop (k + 1) s) = ap (λ (i : ℕ). drop i s) (sym (add-one k)) ∙ sym (take_all (length s - (k + 1)) (drop (k + 1) s) (omega (arith, length-drop (k + 1) s))) in
    ap words_of (split_at s k 0 lt)
    ∙ slice_split_at is_blank (take k s) (get_or s k 0) (drop (suc k) s) (All-from_recursion (λ b. is_blank b ≡ false) (take k s) h) (eq-eqb (get_or s k 0) 32 blank)
    ∙ ap (λ (t : List ℕ). take k s ∷ words_of t) after

-- ---- words with no blank

pub digits_no_blank : (ds : List ℕ) → AllDigits 10 ds → HasNoBlank ds
digits_no_blank [] h = tt
digits_no_blank (d ∷ ds) h = let r = digit_from_value d h.0 in (ne_eqb d 32 (λ x. omega arith), digits_no_blank ds h.1)

pub v4_digits : (word : List ℕ) (n : ℕ) → Some n ≡ v4_of word → (n < 2 ^ 32) × (word ≡ v4_word n)
v4_digits word n e = let is = v4_exact.only word n (sym e) in (is.within, is.digits)

pub v6_digits : (word : List ℕ) (n : ℕ) → Some n ≡ v6_of word → (n < 2 ^ 128) × (word ≡ v6_word n)
v6_digits word n e = let is = v6_exact.only word n (sym e) in (is.within, is.digits)

pub v4_no_blank : (word : List ℕ) (n : ℕ) → Some n ≡ v4_of word → HasNoBlank word
v4_no_blank word n e = subst HasNoBlank (sym (v4_digits word n e).1) (each_other (v4_word n) (v4_visible n).all)

pub v6_no_blank : (word : List ℕ) (n : ℕ) → Some n ≡ v6_of word → HasNoBlank word
v6_no_blank word n e = subst HasNoBlank (sym (v6_digits word n e).1) (each_other (v6_word n) (v6_visible n).all)

pub value_no_blank : (bytes : List ℕ) → IsBytes bytes → HasNoBlank (120 ∷ encode_lower bytes)
value_no_blank bytes fits = (refl, each_other (encode_lower bytes) (hex_visible bytes (AllBytes-from bytes fits)).all)

plain_range : (b : ℕ) → is_plain b ≡ true → (33 ≤ b) × (b ≤ 126)
plain_range b e =
    let visible = and_parts (leb 33 b && leb b 126) (not (eqb b 37)) e in
    let range = and_parts (leb 33 b) (leb b 126) visible.0 in
    (leb-true 33 b range.0, leb-true b 126 range.1)

pub plain_no_blank : (t : List ℕ) → ArePlain t → HasNoBlank t
plain_no_blank [] h = tt
plain_no_blank (b ∷ t) h = let r = plain_range b h.0 in (ne_eqb b 32 (λ x. omega arith), plain_no_blank t h.1)

-- ---- the words themselves

-- decimal digits of which the first is no zero, unless it is alone
pub number_front : (s : List ℕ) (k n : ℕ) → k ≤ length s → 0 < k → AllDigits 10 (take k s) → n ≡ digits_value 10 (take k s) → n < 2 ^ 64 → (get_or s 0 0 ≡ 48 → k ≡ 1) → take k s ≡ decimal n
number_front s k n inside long digits e small one =
    let count : length (take k s) ≡ k = length-take-le k s inside in
    digits_spelled (take k s) n digits e small (omega arith) (λ zero. count ∙ one (sym (get_or-take k s 0 0 long) ∙ zero))

-- an apostrophe and bytes behind it
pub text_front : (s t : List ℕ) (k : ℕ) → some t ≡ behind_byte 39 s → take (k + 1) s ≡ 39 ∷ take k t
text_front s t k e = ap (take (k + 1)) (behind_only 39 s t (sym e)) ∙ ap (λ (i : ℕ). take i (39 ∷ t)) (add-one k)

-- `x` and digits behind it
pub value_front : (s t bytes : List ℕ) (k : ℕ) → some t ≡ behind_byte 120 s → take k t ≡ encode_lower bytes → take (k + 1) s ≡ 120 ∷ encode_lower bytes
value_front s t bytes k e d = ap (take (k + 1)) (behind_only 120 s t (sym e)) ∙ ap (λ (i : ℕ). take i (120 ∷ t)) (add-one k) ∙ ap (λ (x : List ℕ). 120 ∷ x) d

-- ---- texts of bytes that stand for themselves

plain_ascii : (t : List ℕ) → ArePlain t → IsAscii t
plain_ascii [] h i = omega arith
plain_ascii (b ∷ t) h zero = let r = plain_range b h.0 in omega arith
plain_ascii (b ∷ t) h (suc i) = plain_ascii t h.1 i

pub plain_utf8 : (t : List ℕ) → ArePlain t → IsUtf8 t
plain_utf8 t h = IsUtf8-from_ascii t (plain_ascii t h)

-- the word of such a text
pub plain_word : (t : List ℕ) → ArePlain t → 39 ∷ t ≡ text_word t
plain_word t h = ap (λ (x : List ℕ). 39 ∷ x) (sym (plain_escaped t h))
