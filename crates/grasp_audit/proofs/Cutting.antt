-- The first line of a text.
use Rattle.std.proofs.Common.{◌≡◌, ◌≢◌, ◌↔◌, Bool, ℕ, ◌+◌, ◌-◌, ◌<◌, ◌≤◌, suc, inl, eqb, false, List, [], ◌∷◌, ◌++◌, length, get_or, take, drop, Some, None, refl, sym, ap, ◌∙◌, subst, add-one, arith, All}
use Rattle.std.specs.List.{slice_split}
use Rattle.std.specs.Prelude.{IsTrue, codes}
use Rattle.std.specs.Str.{bytes_eq}
use Rattle.std.proofs.Math.Seq.{split_at}
use Rattle.std.proofs.lemmas.Bool.{eqb-true}
use Rattle.std.proofs.lemmas.List.{get_or_default, get_or-take, take_all, length-drop, length-take-le}
use Rattle.std.proofs.lemmas.List.Splits.{slice_split_at, length-slice_split}
use Rattle.std.proofs.lemmas.Slice.Eq.{bytes_eq-Decides}
use Rattle.grasp_cbor.proofs.Facts.Bools.{not_true}
use Rattle.memchr.specs.Find.{IsFirstByte, is_byte}
use Rattle.grasp_script.specs.Scripts.{without_empty_end, text_lines}
use Rattle.grasp_script.specs.Headers.{start_words}
use Rattle.grasp_script.proofs.Splitting.{kept, one_line}
use Rattle.grasp_text.specs.Words.{joined, words_of}
use Rattle.grasp_text.proofs.Splitting.{joined_again}
use Rattle.grasp_audit.specs.Splits.{IsCut}

module _ (s : List ℕ) (k : ℕ) (h : IsFirstByte (is_byte 10) s (Some k)) where
  -- no LF stands before the first one
  none_before : All (λ b. is_byte 10 b ≡ false) (take k s)
  none_before = λ j d lt.
      let inside : j < k = omega (arith, lt, length-take-le k s (omega (arith, h.0.high))) in
      let same : get_or (take k s) j d ≡ get_or s j 0 = get_or-take k s j d inside ∙ get_or_default s j d 0 (omega (arith, inside, h.0.high)) in
      subst (λ b. is_byte 10 b ≡ false) (sym same) (not_true _ (h.0.before j (omega arith) inside))

  some_part : (r : List ℕ) → 1 ≤ length (slice_split (λ b. eqb b 10) r)
  some_part r = omega (arith, length-slice_split (λ b. eqb b 10) r)

  -- any text may stand behind it
  any_behind : (r : List ℕ) → text_lines (take k s ++ 10 ∷ r) ≡ take k s ∷ text_lines r
  unfolding text_lines
  any_behind r =
      ap without_empty_end (slice_split_at (is_byte 10) (take k s) 10 r none_before refl)
      ∙ kept (take k s) (slice_split (λ b. eqb b 10) r) (some_part r)

  here : get_or s k 0 ≡ 10
  here = eqb-true (get_or s k 0) 10 h.1

  whole : s ≡ take k s ++ 10 ∷ take (length s - (k + 1)) (drop (k + 1) s)
  whole =
      split_at s k 0 (omega (arith, h.0.high))
      ∙ ap (λ (b : ℕ). take k s ++ b ∷ drop (suc k) s) here
      ∙ ap (λ (n : ℕ). take k s ++ 10 ∷ drop n s) (sym (add-one k))
      ∙ ap (λ (t : List ℕ). take k s ++ 10 ∷ t) (sym (take_all (length s - (k + 1)) (drop (k + 1) s) (omega (arith, length-drop (k + 1) s))))

  -- the text is cut at its first LF
  pub cut_here : IsCut s (take k s) (take (length s - (k + 1)) (drop (k + 1) s))
  cut_here = inl (whole, any_behind)

some_byte : (s : List ℕ) → s ≢ [] → 1 ≤ length s
some_byte [] h = absurd (h refl)
some_byte (b ∷ s) h = omega arith

-- or it has none, and is one line
pub no_cut : (s : List ℕ) → s ≢ [] → IsFirstByte (is_byte 10) s None → text_lines s ≡ s ∷ text_lines []
no_cut s some h = one_line s h (some_byte s some)

-- a line ends a header where it is this text
pub starts : (line start : List ℕ) (is_so : Bool) → start ≡ codes "start" → is_so ≡ bytes_eq line start → IsTrue is_so ↔ (words_of line ≡ start_words)
starts line start is_so text is = (
  λ equal. ap words_of ((bytes_eq-Decides line start).0 (sym is ∙ equal) ∙ text),
  λ same. is ∙ (bytes_eq-Decides line start).1 (sym (joined_again line) ∙ ap joined same ∙ sym text),
)
