-- Pieces of contents that differ elsewhere.
use Rattle.std.proofs.Common.{◌≡◌, ◌⊎◌, inl, inr, ⊎_elim, ℕ, ◌+◌, ◌-◌, ◌<◌, ◌≤◌, min, List, ◌++◌, length, get_or, drop, refl, sym, ◌∙◌, ap, arith, length-append, length-drop}
use Rattle.std.proofs.lemmas.List.{get_or-drop, get_or_past, get_or_append_left, get_or-append_right, same_lists}
use Rattle.std.proofs.lemmas.Bool.{cases_lt}
use Rattle.grasp_disk.specs.Calls.{overlaid, piece}
use Rattle.grasp_disk.specs.Crashes.{DifferIn}
use Rattle.grasp_disk.proofs.Bytes.{length-piece, at_piece, length-overlaid, overlaid_within, overlaid_behind}

min_left : (m n : ℕ) → m ≤ n → min m n ≡ m
min_left m n le = omega (arith, le)

past_piece : (bytes : List ℕ) (at count i d : ℕ) → count ≤ i → get_or (piece bytes at count) i d ≡ d
past_piece bytes at count i d past = get_or_past (piece bytes at count) i d (omega (arith, past, length-piece bytes at count))

-- a piece beside the range is the same
pub piece_same : (at count : ℕ) (b c : List ℕ) → DifferIn at count b c → (from n : ℕ) → (from + n ≤ at) ⊎ (at + count ≤ from) → piece c from n ≡ piece b from n
piece_same at count b c differ from n beside =
    same_lists (piece c from n) (piece b from n) (length-piece c from n ∙ ap (λ (k : ℕ). min n (k - from)) differ.size ∙ sym (length-piece b from n)) (λ i d lt. each i d)
  where
    each : (i d : ℕ) → get_or (piece c from n) i d ≡ get_or (piece b from n) i d
    each i d = elim (cases_lt i n) [
      | inl within ↦ at_piece c from n i d within ∙ differ.rest (from + i) d (⊎_elim (λ before. inl (omega (arith, before, within))) (λ behind. inr (omega (arith, behind))) beside) ∙ sym (at_piece b from n i d within)
      | inr past ↦ past_piece c from n i d past ∙ sym (past_piece b from n i d past)
    ]

module _ (bytes : List ℕ) (at : ℕ) (new : List ℕ) (n : ℕ) (short : length new ≤ n) (fits : at + n ≤ length bytes) where
  inside : at + length new ≤ length bytes
  inside = omega (arith, short, fits)

  long : length (piece bytes at n) ≡ n
  long = length-piece bytes at n ∙ min_left n (length bytes - at) (omega (arith, fits))

  long_laid : length (piece (overlaid bytes at new) at n) ≡ n
  long_laid = length-piece (overlaid bytes at new) at n ∙ min_left n (length (overlaid bytes at new) - at) (omega (arith, fits, length-overlaid bytes at new inside))

  all_long : length (new ++ drop (length new) (piece bytes at n)) ≡ n
  all_long = omega (arith, short, long, length-append new (drop (length new) (piece bytes at n)), length-drop (length new) (piece bytes at n))

  behind_new : (i d : ℕ) → i < n → length new ≤ i → get_or (new ++ drop (length new) (piece bytes at n)) i d ≡ get_or bytes (at + i) d
  behind_new i d within from =
      get_or-append_right new (drop (length new) (piece bytes at n)) (length new) i d refl from
      ∙ get_or-drop (length new) (piece bytes at n) (i - length new) d
      ∙ ap (λ (k : ℕ). get_or (piece bytes at n) k d) (back from)
      ∙ at_piece bytes at n i d within
    where
      back : length new ≤ i → length new + (i - length new) ≡ i
      back le = omega (arith, le)

  each : (i d : ℕ) → get_or (piece (overlaid bytes at new) at n) i d ≡ get_or (new ++ drop (length new) (piece bytes at n)) i d
  each i d = elim (cases_lt i n) [
    | inl within ↦ at_piece (overlaid bytes at new) at n i d within ∙ elim (cases_lt i (length new)) [
      | inl in_new ↦ overlaid_within bytes at new inside (at + i) d (omega arith) (omega (arith, in_new)) ∙ ap (λ (k : ℕ). get_or new k d) (sub in_new) ∙ sym (get_or_append_left new (drop (length new) (piece bytes at n)) d i in_new)
      | inr from ↦ overlaid_behind bytes at new inside (at + i) d (omega (arith, from)) ∙ sym (behind_new i d within from)
    ]
    | inr past ↦ past_piece (overlaid bytes at new) at n i d past ∙ sym (get_or_past (new ++ drop (length new) (piece bytes at n)) i d (omega (arith, past, all_long)))
  ]
    where
      sub : i < length new → (at + i) - at ≡ i
      sub lt = omega arith

  -- what was laid over the front of a piece stands there, and then the rest of what was there
  pub piece_overlaid : piece (overlaid bytes at new) at n ≡ new ++ drop (length new) (piece bytes at n)
  piece_overlaid = same_lists _ _ (long_laid ∙ sym all_long) (λ i d lt. each i d)
