-- When a prefix can be gained.
use Rattle.std.proofs.Common.{◌≡◌, ◌+◌, ◌<◌, ◌≤◌, ◌⊎◌, ◌↔◌, inl, inr, List, [], ◌∷◌, Contains, refl, sym, subst, arith, Bool, true, false, cond, nat_lt, ◌&&◌, IsTrue, Option, Some, None, is_some, not}
use Rattle.std.proofs.lemmas.Bool.{cases_lt}
use Rattle.grasp_types.specs.Prefix.{AddressBlock as Prefix, span_of, Overlap}
use Rattle.grasp_pool.specs.Spans.{size}
use Rattle.grasp_pool.specs.Holdings.{Holding, IsNew}
use Rattle.grasp_pool.specs.Parts.{ApartFrom, IsAnswer}
use Rattle.grasp_pool.specs.Pools.{room_of, entries}
use Rattle.grasp_pool.specs.Functions.{overlap_test, any_overlaps, can_gain}
use Rattle.grasp_pool.proofs.Dyadic.{size_pos}
use Rattle.grasp_pool.proofs.Unique.{none_in, cons_cases, cons_more, cons_first}
use Rattle.grasp_pool.proofs.Lists.{lt_tells}
use Rattle.grasp_pool.proofs.Meeting.{new_of, entry_cases, first_meets}

-- a test and what it says
pub overlap_tells : (q p : Prefix) → ((overlap_test q p ≡ true) × Overlap q p) ⊎ ((overlap_test q p ≡ false) × (¬ Overlap q p))
overlap_tells q p = choose (nat_lt q.address (p.address + size p)) (nat_lt p.address (q.address + size q)) (lt_tells q.address (p.address + size p)) (lt_tells p.address (q.address + size q))
  where
    both : q.address < p.address + size p → p.address < q.address + size q → Overlap q p
    both h k =
        let a : 0 < size p = size_pos p
        in let b : 0 < size q = size_pos q
        in elim (cases_lt q.address p.address) [
          | inl lt ↦ (p.address, ((omega arith, k), (omega arith, omega arith)))
          | inr le ↦ (q.address, ((omega arith, omega arith), (le, h)))
        ]

    first : p.address + size p ≤ q.address → ¬ Overlap q p
    first le m = let a : q.address ≤ m.0 = m.1.0.0 in let b : m.0 < p.address + size p = m.1.1.1 in omega arith

    second : q.address + size q ≤ p.address → ¬ Overlap q p
    second le m = let a : m.0 < q.address + size q = m.1.0.1 in let b : p.address ≤ m.0 = m.1.1.0 in omega arith

    choose : (a b : Bool) → ((a ≡ true) × (q.address < p.address + size p)) ⊎ ((a ≡ false) × (p.address + size p ≤ q.address))
        → ((b ≡ true) × (p.address < q.address + size q)) ⊎ ((b ≡ false) × (q.address + size q ≤ p.address))
        → (((a && b) ≡ true) × Overlap q p) ⊎ (((a && b) ≡ false) × (¬ Overlap q p))
    choose true true (inl h) (inl k) = inl (refl, both h.1 k.1)
    choose true true (inl h) (inr k) = absurd (cc)
    choose true true (inr h) k = absurd (cc)
    choose true false (inl h) (inl k) = absurd (cc)
    choose true false (inl h) (inr k) = inr (refl, second k.1)
    choose true false (inr h) k = absurd (cc)
    choose false b (inl h) k = absurd (cc)
    choose false b (inr h) k = inr (refl, first h.1)

-- an entry of the list overlaps p, or none does
any_tells : (ps : List Prefix) (p : Prefix) → ((any_overlaps ps p ≡ true) × ((q : Prefix) × Contains ps q × Overlap q p)) ⊎ ((any_overlaps ps p ≡ false) × ApartFrom ps p)
unfolding any_overlaps
any_tells [] p = inr (refl, λ q h. absurd (none_in q h))
any_tells (x ∷ xs) p = choose (overlap_test x p) (any_overlaps xs p) (overlap_tells x p) (any_tells xs p)
  where
    choose : (a b : Bool) → ((a ≡ true) × Overlap x p) ⊎ ((a ≡ false) × (¬ Overlap x p))
        → ((b ≡ true) × ((q : Prefix) × Contains xs q × Overlap q p)) ⊎ ((b ≡ false) × ApartFrom xs p)
        → ((cond a true b ≡ true) × ((q : Prefix) × Contains (x ∷ xs) q × Overlap q p)) ⊎ ((cond a true b ≡ false) × ApartFrom (x ∷ xs) p)
    choose true b (inl h) k = inl (refl, (x, cons_first x xs, h.1))
    choose true b (inr h) k = absurd (cc)
    choose false b (inl h) k = absurd (cc)
    choose false b (inr h) (inl k) = inl (k.0, (k.1.0, cons_more x k.1.0 xs k.1.1, k.1.2))
    choose false b (inr h) (inr k) = inr (
      k.0,
      λ q m a i j. elim (cons_cases x q xs m) [
        | inl m' ↦ k.1 q m' a i j
        | inr e ↦ h.1 (a, (subst (λ v. span_of v a) (sym e) i, j))
      ],
    )

new_apart : (h : Holding) (p : Prefix) → IsNew h p → ApartFrom (entries h) p
new_apart h p new q m a i j = elim (entry_cases h q m) [
  | inl f ↦ new.free a j (q, f, i)
  | inr l ↦ new.listed q l a j i
]

yes : (b : Bool) → b ≡ true → IsTrue b
yes true e = refl
yes false e = absurd (cc)

no : (b : Bool) → b ≡ false → ¬ IsTrue b
no true e t = absurd (cc)
no false e t = absurd (cc)

pub can_gain_tells : (h : Holding) (p : Prefix) → IsTrue (can_gain h p) ↔ (IsNew h p × (0 < room_of h))
can_gain_tells h p = choose (any_overlaps (entries h) p) (nat_lt 0 (room_of h)) (any_tells (entries h) p) (lt_tells 0 (room_of h))
  where
    choose : (a b : Bool) → ((a ≡ true) × ((q : Prefix) × Contains (entries h) q × Overlap q p)) ⊎ ((a ≡ false) × ApartFrom (entries h) p)
        → ((b ≡ true) × (0 < room_of h)) ⊎ ((b ≡ false) × (room_of h ≤ 0)) → IsTrue (cond a false b) ↔ (IsNew h p × (0 < room_of h))
    choose true b (inl x) y = (λ t. absurd (no false refl t), λ n. absurd (new_apart h p n.0 x.1.0 x.1.1 x.1.2.0 x.1.2.1.0 x.1.2.1.1))
    choose true b (inr x) y = absurd (cc)
    choose false b (inl x) y = absurd (cc)
    choose false b (inr x) (inl y) = (λ t. (new_of h p x.1, y.1), λ n. yes b y.0)
    choose false b (inr x) (inr y) = (λ t. absurd (no b y.0 t), λ n. let lt : 0 < room_of h = n.1 in let le : room_of h ≤ 0 = y.1 in absurd (omega arith))

-- two tests of one fact are the same
pub same_truth : (P : Type 0) (a b : Bool) → (IsTrue a ↔ P) → (IsTrue b ↔ P) → a ≡ b
same_truth P true true h k = refl
same_truth P true false h k = absurd (no false refl (k.1 (h.0 refl)))
same_truth P false true h k = absurd (no false refl (h.1 (k.0 refl)))
same_truth P false false h k = refl

pub can_gain_so : (h : Holding) (p : Prefix) → IsNew h p → 0 < room_of h → true ≡ can_gain h p
can_gain_so h p new room = same_truth (IsNew h p × (0 < room_of h)) true (can_gain h p) (λ t. (new, room), λ n. refl) (can_gain_tells h p)

pub can_gain_not : (h : Holding) (p : Prefix) → ¬ (IsNew h p × (0 < room_of h)) → false ≡ can_gain h p
can_gain_not h p none = same_truth (IsNew h p × (0 < room_of h)) false (can_gain h p) (λ t. absurd (no false refl t), λ n. absurd (none n)) (can_gain_tells h p)

-- without room nothing can be gained
pub none_full : (h : Holding) (p : Prefix) → 0 ≡ room_of h → ¬ (IsNew h p × (0 < room_of h))
none_full h p e n = let lt : 0 < room_of h = n.1 in omega arith

-- what the first entry that overlaps p tells, where there is room
pub can_gain_is : (h : Holding) (p : Prefix) (o : Option Prefix) (b : Bool) → IsAnswer (entries h) p o → 0 < room_of h → is_some o ≡ not b → b ≡ can_gain h p
can_gain_is h p None true apart room e = can_gain_so h p (new_of h p apart) room
can_gain_is h p None false apart room e = absurd (cc)
can_gain_is h p (Some k) true first room e = absurd (cc)
can_gain_is h p (Some k) false first room e = can_gain_not h p (λ n. first_meets h p k first n.0)
