-- The first word of a line, and a line as its words.
use Rattle.std.proofs.Common.{◌≡◌, ℕ, ◌+◌, ◌-◌, Bool, true, false, eqb, List, [], ◌∷◌, length, take, drop, Option, Some, None, is_some, cond, not, refl, sym, ap, ◌∙◌, arith}
use Rattle.std.specs.List.{onto_first, position_or_len}
use Rattle.std.proofs.lemmas.List.{get_or_default, take_all, length-drop}
use Rattle.std.proofs.lemmas.List.Sums.{position_or_len_is}
use Rattle.std.proofs.lemmas.List.Splits.{slice_split_none, slice_split_first, join_with_byte-slice_split}
use Rattle.grasp_cbor.proofs.Facts.Bools.{not_true}
use Rattle.memchr.specs.Find.{IsFirstByte, is_byte}
use Rattle.grasp_text.specs.Words.{words_of, words_left, joined, is_over}

word_at : (s : List ℕ) (k : ℕ) → IsFirstByte (is_byte 32) s (Some k) → words_of s ≡ take k s ∷ words_of (drop (k + 1) s)
word_at s k h =
    let at : position_or_len (is_byte 32) s ≡ k = position_or_len_is (is_byte 32) s k 0 (omega (arith, h.0.high)) (λ j lt. not_true _ (h.0.before j (omega arith) lt)) (λ lt. h.1) in
    let e = slice_split_first (is_byte 32) s 0 (omega (arith, at, h.0.high)) in
    rw at at e

-- where a blank was found, the first word ends there, and the other words stand behind it
pub word_before : (s : List ℕ) (k : ℕ) → IsFirstByte (is_byte 32) s (Some k) → words_of s ≡ take k s ∷ words_of (take (length s - (k + 1)) (drop (k + 1) s))
word_before s k h = word_at s k h ∙ ap (λ (t : List ℕ). take k s ∷ words_of t) (sym (take_all (length s - (k + 1)) (drop (k + 1) s) (omega (arith, length-drop (k + 1) s))))

-- where there is none, the line is one word
pub one_word : (s : List ℕ) → IsFirstByte (is_byte 32) s None → words_of s ≡ s ∷ []
one_word s h = slice_split_none (is_byte 32) s (λ k d lt. rw (get_or_default s k d 0 lt) (not_true _ (h k (omega arith) lt)))

-- a line is its words with one blank between two
pub joined_again : (s : List ℕ) → joined (words_of s) ≡ s
joined_again s = join_with_byte-slice_split 32 s

not_over : (b : Bool) (x : ℕ) (words : List (List ℕ)) → is_over words ≡ false → is_over (cond b ([] ∷ words) (onto_first x words)) ≡ false
not_over true x words h = refl
not_over false x [] h = refl
not_over false x (word ∷ words) h = refl

-- a line has a word
pub has_word : (s : List ℕ) → is_over (words_of s) ≡ false
has_word [] = refl
has_word (x ∷ s) = not_over (eqb x 32) x (words_of s) (has_word s)

-- where no word is left
pub over_left : (o : Option (List ℕ)) → is_over (words_left o) ≡ not (is_some o)
over_left None = refl
over_left (Some s) = has_word s

pub ruleset splitting = (word_before, one_word)
