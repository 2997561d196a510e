-- The first line of a text.
use Rattle.std.proofs.Common.{◌≡◌, ℕ, ◌+◌, ◌-◌, ◌≤◌, eqb, List, [], ◌∷◌, ◌++◌, length, take, drop, Some, None, refl, sym, ap, ◌∙◌, append_assoc, length-append, arith}
use Rattle.std.specs.List.{slice_split, position_or_len}
use Rattle.std.proofs.lemmas.List.{get_or_default, take_all, length-drop, take-append-drop, append-nil}
use Rattle.std.proofs.Math.Seq.{drop-append_seam}
use Rattle.std.proofs.lemmas.List.Sums.{position_or_len_is}
use Rattle.std.proofs.lemmas.List.Splits.{slice_split_none, slice_split_first, length-slice_split}
use Rattle.grasp_cbor.proofs.Facts.Bools.{not_true}
use Rattle.memchr.specs.Find.{IsFirstByte, is_byte}
use Rattle.grasp_script.specs.Reads.{IsBehind}
use Rattle.grasp_script.specs.Scripts.{without_empty_end, text_lines}

abbrev parts_of : List ℕ → List (List ℕ)
parts_of s = slice_split (λ b. eqb b 10) s

first_part : (s : List ℕ) (k : ℕ) → IsFirstByte (is_byte 10) s (Some k) → parts_of s ≡ take k s ∷ parts_of (drop (k + 1) s)
first_part s k h =
    let at : position_or_len (is_byte 10) s ≡ k = position_or_len_is (is_byte 10) s k 0 (omega (arith, h.0.high)) (λ j lt. not_true _ (h.0.before j (omega arith) lt)) (λ lt. h.1) in
    let e = slice_split_first (is_byte 10) s 0 (omega (arith, at, h.0.high)) in
    rw at at e

pub kept : (line : List ℕ) (parts : List (List ℕ)) → 1 ≤ length parts → without_empty_end (line ∷ parts) ≡ line ∷ without_empty_end parts
kept line [] some = absurd (omega arith)
kept line (next ∷ parts) some = refl

some_part : (s : List ℕ) → 1 ≤ length (parts_of s)
some_part s = omega (arith, length-slice_split (λ b. eqb b 10) s)

lines_first : (s : List ℕ) (k : ℕ) → IsFirstByte (is_byte 10) s (Some k) → text_lines s ≡ take k s ∷ text_lines (drop (k + 1) s)
unfolding text_lines
lines_first s k h = ap without_empty_end (first_part s k h) ∙ kept (take k s) (parts_of (drop (k + 1) s)) (some_part (drop (k + 1) s))

-- where an LF was found, the first line ends there, and the other lines stand behind it
pub line_before : (s : List ℕ) (k : ℕ) → IsFirstByte (is_byte 10) s (Some k) → text_lines s ≡ take k s ∷ text_lines (take (length s - (k + 1)) (drop (k + 1) s))
line_before s k h = lines_first s k h ∙ ap (λ (t : List ℕ). take k s ∷ text_lines t) (sym (take_all (length s - (k + 1)) (drop (k + 1) s) (omega (arith, length-drop (k + 1) s))))

-- where there is none, the text is one line
pub one_line : (s : List ℕ) → IsFirstByte (is_byte 10) s None → 1 ≤ length s → text_lines s ≡ s ∷ text_lines []
unfolding text_lines
one_line [] h some = absurd (omega arith)
one_line (b ∷ s) h some = ap without_empty_end (slice_split_none (is_byte 10) (b ∷ s) (λ k d lt. rw (get_or_default (b ∷ s) k d 0 lt) (not_true _ (h k (omega arith) lt))))

-- an empty text has no line
pub no_line : (s : List ℕ) → length s ≡ 0 → text_lines s ≡ []
unfolding text_lines
no_line [] e = refl
no_line (b ∷ s) e = absurd (omega arith)

-- ---- what stands behind the first line

pub behind_line : (s : List ℕ) (k : ℕ) → IsBehind s (take (length s - k) (drop k s))
behind_line s k = record {
  front = take k s;
  parts = sym (ap (λ t. take k s ++ t) (take_all (length s - k) (drop k s) (omega (arith, length-drop k s))) ∙ take-append-drop k s);
}

pub behind_all : (s : List ℕ) → IsBehind s []
behind_all s = record { front = s; parts = sym (append-nil s) }

-- what stands behind what stands behind a text stands behind the text
pub behind_both : (a b c : List ℕ) → IsBehind a b → IsBehind b c → IsBehind a c
behind_both a b c x y = record { front = x.front ++ y.front; parts = x.parts ∙ ap (λ t. x.front ++ t) y.parts ∙ sym (append_assoc x.front y.front c) }

-- so many bytes were read
pub used_is : (a b : List ℕ) → IsBehind a b → drop (length a - length b) a ≡ b
used_is a b x =
    let whole : length a ≡ length x.front + length b = ap length x.parts ∙ length-append x.front b
    in let used : length a - length b ≡ length x.front = omega arith
    in ap (λ k. drop k a) used ∙ ap (drop (length x.front)) x.parts ∙ drop-append_seam x.front b

pub ruleset splitting = (line_before, one_line, no_line, behind_all)
