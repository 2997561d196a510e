-- What a crash leaves of a disk after a call.
use Rattle.std.proofs.Common.{◌≡◌, ◌⊎◌, ⊎_elim, ℕ, ◌+◌, ◌<◌, ◌≤◌, Bool, true, List, [], ◌∷◌, length, refl, sym, ◌∙◌, subst, arith, rules, Contains}
use Rattle.std.proofs.lemmas.List.{same_lists}
use Rattle.std.proofs.lemmas.List.Elements.{Contains-append_right}
use Rattle.grasp_disk.specs.Calls.{DiskState, Range, wrote, synced, after_call, overlaid}
use Rattle.grasp_disk.specs.Crashes.{MayBecome, Leaves, IsOutside, IsSettled, DifferIn}
use Rattle.grasp_disk.proofs.Bytes.{length-overlaid, overlaid_before, overlaid_behind, overlaid_differ}

none_in : (r : Range) → Contains {X = Range} [] r → ⊥
none_in r has = search rules

only_in : (x r : Range) → Contains (x ∷ []) r → r ≡ x
only_in x r has = search rules

pub first_in : (r : Range) (rs : List Range) → Contains (r ∷ rs) r
first_in r rs = search rules

-- where all is synced a crash leaves what a read gives
pub settled_leaves : (s : DiskState) → IsSettled s → Leaves s (λ content. content ≡ s.bytes)
settled_leaves s settled content may =
    same_lists content s.bytes may.size (λ i d lt. may.rest i d (λ r has. absurd (none_in r (subst (λ (rs : List Range). Contains rs r) settled has))))

pub synced_leaves : (s : DiskState) → Leaves (after_call (synced true) s) (λ content. content ≡ s.bytes)
synced_leaves s = settled_leaves (after_call (synced true) s) refl

-- and it may leave that always
pub same_may : (s : DiskState) → MayBecome s s.bytes
same_may s = record { size = refl; rest = λ i d outside. refl }

module _ (s : DiskState) (at : ℕ) (new : List ℕ) (ok : Bool) (fits : at + length new ≤ length s.bytes) where
  abbrev place : Range
  place = record { at = at; count = length new }

  pub write_leaves : IsSettled s → Leaves (after_call (wrote at new ok) s) (DifferIn at (length new) s.bytes)
  write_leaves settled content may = record {
    size = may.size ∙ length-overlaid s.bytes at new fits;
    rest = λ i d outside. may.rest i d (beside i outside) ∙ (overlaid_differ s.bytes at new fits).rest i d outside;
  }
    where
      beside : (i : ℕ) → (i < at) ⊎ (at + length new ≤ i) → (r : Range) → Contains (place ∷ s.loose) r → IsOutside i r
      beside i outside r has =
          subst (λ (x : Range). IsOutside i x) (sym (only_in place r (subst (λ (rs : List Range). Contains (place ∷ rs) r) settled has))) outside

  -- what might be left before the write may be left behind it
  pub may_stay : (content : List ℕ) → MayBecome s content → MayBecome (after_call (wrote at new ok) s) content
  may_stay content may = record {
    size = may.size ∙ sym (length-overlaid s.bytes at new fits);
    rest = λ i d outside.
        may.rest i d (λ r has. outside r (Contains-append_right (place ∷ []) s.loose r has))
        ∙ sym (⊎_elim (overlaid_before s.bytes at new fits i d) (overlaid_behind s.bytes at new fits i d) (outside place (first_in place s.loose)));
  }

  -- so may any bytes at its place, and a front of them with what stood behind that
  pub any_may : (any : List ℕ) → length any ≤ length new → MayBecome (after_call (wrote at new ok) s) (overlaid s.bytes at any)
  any_may any short = record {
    size = length-overlaid s.bytes at any inside ∙ sym (length-overlaid s.bytes at new fits);
    rest = λ i d outside.
        ⊎_elim
        (λ before. overlaid_before s.bytes at any inside i d before ∙ sym (overlaid_before s.bytes at new fits i d before))
        (λ behind. overlaid_behind s.bytes at any inside i d (omega (arith, behind, short)) ∙ sym (overlaid_behind s.bytes at new fits i d behind))
        (outside place (first_in place s.loose));
  }
    where
      inside : at + length any ≤ length s.bytes
      inside = omega (arith, fits, short)
