-- What a list of prefixes has, as a test and as a fact.
use Rattle.std.proofs.Common.{◌≡◌, ◌↔◌, ◌⊎◌, inl, inr, refl, sym, ap, ◌∙◌, subst, ℕ, ◌==◌, ◌+◌, ◌<◌, ◌≤◌, Bool, true, false, List, [], ◌∷◌, length, Contains, IsTrue, drop, slice_index_or, suc, if◌then◌else◌, arith}
use Rattle.std.proofs.lemmas.Bool.{and_parts, and_from, eq-eqb, eqb-true}
use Rattle.std.proofs.lemmas.List.Folds.{Any-from_list_any, list_any_at}
use Rattle.std.specs.List.{list_any}
use Rattle.std.proofs.Math.Seq.{drop-cons}
use Rattle.std.proofs.Math.ListN.{drop_of_length-le}
use Rattle.grasp_types.specs.Prefix.{AddressBlock as Prefix, Overlap}
use Rattle.grasp_pool.specs.Functions.{any_overlaps, overlap_test}
use Rattle.grasp_pool.proofs.Gaining.{overlap_tells}
use Rattle.grasp_pool.proofs.Meeting.{false_misses}
use Rattle.grasp_doubter.specs.States.{is_prefix}

same_prefix : (p q : Prefix) → is_prefix p q ≡ true → p ≡ q
same_prefix p q e =
    let a = and_parts (p.address == q.address) (p.length == q.length) e in
    ap (λ n. prefix_with n p.length) (eqb-true p.address q.address a.0) ∙ ap (λ n. prefix_with q.address n) (eqb-true p.length q.length a.1)
  where
    prefix_with : ℕ → ℕ → Prefix
    prefix_with address length = record { address = address; length = length }

prefix_itself : (p : Prefix) → is_prefix p p ≡ true
prefix_itself p = and_from (p.address == p.address) (p.length == p.length) (eq-eqb p.address p.address refl) (eq-eqb p.length p.length refl)

in_list : (ps : List Prefix) (p : Prefix) → list_any (is_prefix p) ps ≡ true → Contains ps p
in_list ps p e =
    let f = Any-from_list_any (is_prefix p) ps e in
    subst (λ q. Contains ps q) (sym (same_prefix p f.1 f.4)) (f.0, f.2, f.3)

list_has : (ps : List Prefix) (p : Prefix) → Contains ps p → list_any (is_prefix p) ps ≡ true
list_has ps p h = list_any_at (is_prefix p) ps h.0 p h.1 (ap (is_prefix p) h.2 ∙ prefix_itself p)

-- a test that tells whether the list has the prefix is the list's own test
pub listed_test : (b : Bool) (ps : List Prefix) (p : Prefix) → IsTrue b ↔ Contains ps p → b ≡ list_any (is_prefix p) ps
listed_test b ps p tells = by_both b (list_any (is_prefix p) ps) refl tells where
  by_both : (b c : Bool) → list_any (is_prefix p) ps ≡ c → IsTrue b ↔ Contains ps p → b ≡ c
  by_both true true e t = refl
  by_both false false e t = refl
  by_both true false e t = sym (list_has ps p (t.0 refl)) ∙ e
  by_both false true e t = absurd (false_misses false refl (t.1 (in_list ps p e)))

-- a test that tells whether the two overlap is the pool's own test
pub overlap_so : (b : Bool) (q p : Prefix) → IsTrue b ↔ Overlap q p → b ≡ overlap_test q p
overlap_so b q p tells = by_both b (overlap_tells q p) tells where
  by_both : (b : Bool) → ((overlap_test q p ≡ true) × Overlap q p) ⊎ ((overlap_test q p ≡ false) × (¬ Overlap q p)) → IsTrue b ↔ Overlap q p → b ≡ overlap_test q p
  by_both true (inl h) t = sym h.0
  by_both false (inr h) t = sym h.0
  by_both true (inr h) t = absurd (h.1 (t.0 refl))
  by_both false (inl h) t = absurd (false_misses false refl (t.1 h.1))

-- from this place on it is as from the next one, where the prefix here doesn't overlap
pub overlaps_on : (ps : List Prefix) (i : ℕ) (p q : Prefix) → i < length ps → q ≡ slice_index_or ps i q → overlap_test q p ≡ false → any_overlaps (drop i ps) p ≡ any_overlaps (drop (i + 1) ps) p
unfolding any_overlaps
overlaps_on ps i p q lt is apart =
    ap (λ (x : List Prefix). any_overlaps x p) (drop-cons ps i q lt) ∙ ap (λ (x : Prefix). any_overlaps (x ∷ drop (suc i) ps) p) (sym is)
    ∙ ap (λ (b : Bool). if b then true else any_overlaps (drop (suc i) ps) p) apart ∙ ap (λ (j : ℕ). any_overlaps (drop j ps) p) {x = suc i} {y = i + 1} (omega arith)

-- from this place on there is one, where the prefix here overlaps
pub overlaps_here : (ps : List Prefix) (i : ℕ) (p q : Prefix) → i < length ps → q ≡ slice_index_or ps i q → overlap_test q p ≡ true → any_overlaps (drop i ps) p ≡ true
unfolding any_overlaps
overlaps_here ps i p q lt is meets =
    ap (λ (x : List Prefix). any_overlaps x p) (drop-cons ps i q lt) ∙ ap (λ (x : Prefix). any_overlaps (x ∷ drop (suc i) ps) p) (sym is)
    ∙ ap (λ (b : Bool). if b then true else any_overlaps (drop (suc i) ps) p) meets

-- behind the end there is none
pub overlaps_none : (ps : List Prefix) (i : ℕ) (p : Prefix) → length ps ≤ i → any_overlaps (drop i ps) p ≡ false
unfolding any_overlaps
overlaps_none ps i p past = ap (λ (x : List Prefix). any_overlaps x p) (drop_of_length-le ps past)
