-- The least prefix of a length.
use Rattle.std.proofs.Common.{◌≡◌, ℕ, ◌+◌, ◌<◌, ◌≤◌, ◌⊎◌, ◌↔◌, inl, inr, List, length, Contains, slice_index_or, ◌∙◌, ap, arith}
use Rattle.std.proofs.lemmas.Bool.{cases_lt, cases_eq}
use Rattle.std.proofs.lemmas.List.{get_or_default}
use Rattle.grasp_types.specs.Prefix.{AddressBlock as Prefix, span_of}
use Rattle.grasp_pool.specs.Spans.{size, IsValid, Covers}
use Rattle.grasp_pool.specs.Canonical.{IsInside, IsClean, IsFreeIn, IsTidy, HasNoFree}
use Rattle.grasp_pool.proofs.Dyadic.{bounds_inside, inside_length}
use Rattle.grasp_pool.proofs.Maximal.{in_one_of}
use Rattle.grasp_pool.specs.Parts.{ApartFrom, IsNarrow}
use Rattle.grasp_pool.proofs.Words.{IsRemoved, IsSame, IsCarved}
use Rattle.grasp_pool.proofs.Cleaning.{removed_covers, apart_covers}

-- the prefix around a covered one is as long at most
around_length : (ps : List Prefix) → IsClean ps → (q r : Prefix) → IsValid q → IsInside q r → Contains ps r
    → (r.length ≤ q.length) × (r.address ≤ q.address)
around_length ps clean q r v inside h =
    let b : (r.address ≤ q.address) × (q.address + size q ≤ r.address + size r) = bounds_inside q r inside
    in let most : r.length ≤ 128 = (clean.valid r h).most
    in (inside_length q r most b.0 b.1, b.0)

pub none_wide : (ps : List Prefix) (n : ℕ) → IsClean ps → IsNarrow ps n (length ps) → HasNoFree ps n
none_wide ps n clean narrow q f e =
    let o : (r : Prefix) × Contains ps r × IsInside q r = in_one_of ps clean q f
    in let b : (o.0.length ≤ q.length) × (o.0.address ≤ q.address) = around_length ps clean q o.0 f.valid o.2 o.1
    in let l : n < (slice_index_or ps o.1.0 o.0).length = narrow o.1.0 o.0 o.1.1 o.1.1
    in let s : (slice_index_or ps o.1.0 o.0).length ≡ o.0.length = ap (λ v. v.length) o.1.2
    in omega arith

pub first_least : (ps : List Prefix) (n i : ℕ) (w : Prefix) → IsTidy ps → i < length ps → w ≡ slice_index_or ps i w → IsNarrow ps n i
    → (q : Prefix) → IsFreeIn ps q → q.length ≡ n → w.address ≤ q.address
first_least ps n i w tidy within e narrow q f l =
    let o : (r : Prefix) × Contains ps r × IsInside q r = in_one_of ps tidy.clean q f
    in let r : Prefix = o.0
    in let k : ℕ = o.1.0
    in let b : (r.length ≤ q.length) × (r.address ≤ q.address) = around_length ps tidy.clean q r f.valid o.2 o.1
    in let same : slice_index_or ps k r ≡ r = o.1.2
    in elim (cases_lt k i) [
      | inl lt ↦
          let long : n < (slice_index_or ps k r).length = narrow k r lt o.1.1
          in let s : (slice_index_or ps k r).length ≡ r.length = ap (λ v. v.length) same
          in absurd (omega arith)
      | inr le ↦ elim (cases_eq i k) [
        | inl at ↦
            let d : slice_index_or ps i w ≡ slice_index_or ps i r = get_or_default ps i w r within
            in let s : w.address ≡ r.address = ap (λ v. v.address) (e ∙ d ∙ ap (λ j. slice_index_or ps j r) at ∙ same)
            in omega arith
        | inr ne ↦
            let d : slice_index_or ps i w ≡ slice_index_or ps i r = get_or_default ps i w r within
            in let lt : i < k = grind arith
            in let up : (slice_index_or ps i r).address < (slice_index_or ps k r).address = tidy.rising i k r lt o.1.1
            in let s : w.address ≡ (slice_index_or ps i r).address = ap (λ v. v.address) (e ∙ d)
            in let t : (slice_index_or ps k r).address ≡ r.address = ap (λ v. v.address) same
            in omega arith
      ]
    ]

pub carved : (old mid new : List Prefix) (n i : ℕ) (w p : Prefix) → IsTidy old → i < length old → w ≡ slice_index_or old i w → IsNarrow old n i
    → Contains old w → IsRemoved old mid w → IsTidy new → IsValid p → p.address ≡ w.address → p.length ≡ n → ApartFrom new p → IsSame mid w new p
    → length new ≤ length old + 126 → IsCarved old new n p
carved old mid new n i w p tidy within e narrow has removed tidy' valid start len apart same few =
    let both : (a : ℕ) → Covers old a ↔ (Covers mid a ⊎ span_of w a) = removed_covers old mid w removed has
    in record {
      tidy = tidy';
      least = record {
        free = record { valid = valid; all = λ a i. (both a).1 ((same a).0 (inr i)) };
        length = len;
        least = λ q f l. let b : w.address ≤ q.address = first_least old n i w tidy within e narrow q f l in omega arith;
      };
      covers = λ a. (
        λ c. ((both a).1 ((same a).0 (inl c)), λ i. apart_covers new p apart a i c),
        λ s. elim ((same a).1 ((both a).0 s.0)) [ inl c ↦ c | inr i ↦ absurd (s.1 i) ],
      );
      few = few;
    }
