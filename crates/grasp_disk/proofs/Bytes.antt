-- Bytes that are written over others.
use Rattle.std.proofs.Common.{◌≡◌, ⊎_elim, inl, inr, ℕ, ◌+◌, ◌-◌, ◌<◌, ◌≤◌, min, List, ◌++◌, length, get_or, take, drop, refl, ◌∙◌, ap, arith, length-append, length-drop}
use Rattle.std.proofs.lemmas.Bool.{cases_lt}
use Rattle.std.proofs.lemmas.List.{get_or-take, get_or-drop, get_or_append_left, get_or-append_right, length-take, length-take-le, same_lists}
use Rattle.grasp_disk.specs.Calls.{overlaid, piece}
use Rattle.grasp_disk.specs.Crashes.{DifferIn}

pub length-piece : (bytes : List ℕ) (at count : ℕ) → length (piece bytes at count) ≡ min count (length bytes - at)
length-piece bytes at count = length-take count (drop at bytes) ∙ ap (λ (n : ℕ). min count n) (length-drop at bytes)

pub at_piece : (bytes : List ℕ) (at count i d : ℕ) → i < count → get_or (piece bytes at count) i d ≡ get_or bytes (at + i) d
at_piece bytes at count i d within = get_or-take count (drop at bytes) i d within ∙ get_or-drop at bytes i d

module _ (bytes : List ℕ) (at : ℕ) (new : List ℕ) (fits : at + length new ≤ length bytes) where
  before_long : length (take at bytes) ≡ at
  before_long = length-take-le at bytes (omega (arith, fits))

  pub length-overlaid : length (overlaid bytes at new) ≡ length bytes
  unfolding overlaid
  length-overlaid =
      omega (arith, fits, before_long, length-append (take at bytes) (new ++ drop (at + length new) bytes), length-append new (drop (at + length new) bytes), length-drop (at + length new) bytes)

  pub overlaid_before : (i d : ℕ) → i < at → get_or (overlaid bytes at new) i d ≡ get_or bytes i d
  unfolding overlaid
  overlaid_before i d before =
      get_or_append_left (take at bytes) (new ++ drop (at + length new) bytes) d i (omega (arith, before, before_long)) ∙ get_or-take at bytes i d before

  -- behind what lies before the place
  from_place : (i d : ℕ) → at ≤ i → get_or (overlaid bytes at new) i d ≡ get_or (new ++ drop (at + length new) bytes) (i - at) d
  unfolding overlaid
  from_place i d from = get_or-append_right (take at bytes) (new ++ drop (at + length new) bytes) at i d before_long from

  pub overlaid_within : (i d : ℕ) → at ≤ i → i < at + length new → get_or (overlaid bytes at new) i d ≡ get_or new (i - at) d
  overlaid_within i d from within = from_place i d from ∙ get_or_append_left new (drop (at + length new) bytes) d (i - at) (omega (arith, from, within))

  pub overlaid_behind : (i d : ℕ) → at + length new ≤ i → get_or (overlaid bytes at new) i d ≡ get_or bytes i d
  overlaid_behind i d behind =
      from_place i d (omega (arith, behind))
      ∙ get_or-append_right new (drop (at + length new) bytes) (length new) (i - at) d refl (omega (arith, behind))
      ∙ get_or-drop (at + length new) bytes (i - at - length new) d
      ∙ ap (λ (k : ℕ). get_or bytes k d) (back behind)
    where
      back : at + length new ≤ i → (at + length new) + (i - at - length new) ≡ i
      back le = omega (arith, le)

  -- but at the place nothing changes
  pub overlaid_differ : DifferIn at (length new) bytes (overlaid bytes at new)
  overlaid_differ = record { size = length-overlaid; rest = λ i d outside. ⊎_elim (overlaid_before i d) (overlaid_behind i d) outside }

  length-laid : length (piece (overlaid bytes at new) at (length new)) ≡ length new
  length-laid = omega (arith, fits, length-overlaid, length-piece (overlaid bytes at new) at (length new))

  -- what was written is read there
  pub overlaid_read : piece (overlaid bytes at new) at (length new) ≡ new
  overlaid_read = same_lists _ _ length-laid each
    where
      each : (i d : ℕ) → i < length (piece (overlaid bytes at new) at (length new)) → get_or (piece (overlaid bytes at new) at (length new)) i d ≡ get_or new i d
      each i d lt = at_piece (overlaid bytes at new) at (length new) i d within ∙ overlaid_within (at + i) d (omega arith) (omega (arith, within)) ∙ ap (λ (k : ℕ). get_or new k d) (back at i)
        where
          within : i < length new
          within = omega (arith, lt, length-laid)

          back : (n k : ℕ) → (n + k) - n ≡ k
          back n k = omega arith

-- what stands there, written over itself
pub overlaid_same : (bytes : List ℕ) (at count : ℕ) → at + count ≤ length bytes → overlaid bytes at (piece bytes at count) ≡ bytes
overlaid_same bytes at count fits = same_lists _ _ (length-overlaid bytes at (piece bytes at count) inside) (λ i d lt. each i d)
  where
    long : length (piece bytes at count) ≡ count
    long = omega (arith, length-piece bytes at count, fits)

    inside : at + length (piece bytes at count) ≤ length bytes
    inside = omega (arith, long, fits)

    each : (i d : ℕ) → get_or (overlaid bytes at (piece bytes at count)) i d ≡ get_or bytes i d
    each i d = elim (cases_lt i at) [
      | inl before ↦ overlaid_before bytes at (piece bytes at count) inside i d before
      | inr from ↦ elim (cases_lt i (at + length (piece bytes at count))) [
        | inl within ↦
            overlaid_within bytes at (piece bytes at count) inside i d from within
            ∙ at_piece bytes at count (i - at) d (omega (arith, from, within, long))
            ∙ ap (λ (k : ℕ). get_or bytes k d) (back from)
        | inr behind ↦ overlaid_behind bytes at (piece bytes at count) inside i d behind
      ]
    ]
      where
        back : at ≤ i → at + (i - at) ≡ i
        back le = omega (arith, le)
