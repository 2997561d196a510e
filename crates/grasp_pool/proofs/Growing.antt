-- What the functions on lists do to the addresses.
use Rattle.std.proofs.Common.{◌≡◌, ℕ, zero, suc, ◌+◌, ◌≤◌, ◌⊎◌, ◌↔◌, inl, inr, List, [], ◌∷◌, length, Contains, refl, sym, ap, subst, arith, Bool, true, false, cond, nat_lt, ◌==◌}
use Rattle.std.proofs.lemmas.Bool.{cases_lt}
use Rattle.grasp_types.specs.Prefix.{AddressBlock as Prefix, span_of}
use Rattle.grasp_pool.specs.Spans.{IsValid, Covers}
use Rattle.grasp_pool.specs.Canonical.{IsTidy}
use Rattle.grasp_pool.specs.Parts.{ApartFrom}
use Rattle.grasp_pool.proofs.Words.{IsAlone, IsJoined}
use Rattle.grasp_pool.specs.Functions.{add, without, joins, merge, parent_of, buddy_of}
use Rattle.grasp_pool.proofs.Maximal.{cases_prefix}
use Rattle.grasp_pool.proofs.Unique.{none_in, cons_cases, cons_more, cons_first}
use Rattle.grasp_pool.proofs.Buddies.{are_halves}
use Rattle.grasp_pool.proofs.Cleaning.{new_address, added_clean, added_covers, buddy_alone, short_alone, joined}
use Rattle.grasp_pool.proofs.Equal.{add_members, add_rising, without_members, without_rising, eq_tells, joins_short, joins_not, joins_so, merge_none, merge_step}

-- in the list or not
pub contains_or_not : (ps : List Prefix) (p : Prefix) → Contains ps p ⊎ (¬ Contains ps p)
contains_or_not [] p = inr (none_in p)
contains_or_not (x ∷ xs) p = elim (cases_prefix x p) [
  | inl e ↦ inl (subst (Contains (x ∷ xs)) e (cons_first x xs))
  | inr ne ↦ elim (contains_or_not xs p) [
    | inl h ↦ inl (cons_more x p xs h)
    | inr none ↦ inr (λ h. elim (cons_cases x p xs h) [ inl k ↦ none k | inr e ↦ ne e ])
  ]
]

pub add_length : (p : Prefix) (ps : List Prefix) → length (add p ps) ≡ length ps + 1
unfolding add
add_length p [] = refl
add_length p (x ∷ xs) = choose (nat_lt p.address x.address) (add_length p xs)
  where
    choose : (b : Bool) → length (add p xs) ≡ length xs + 1 → length (cond b (p ∷ x ∷ xs) (x ∷ add p xs)) ≡ length (x ∷ xs) + 1
    choose true e = omega arith
    choose false e = omega (arith, e)

pub without_length : (p : Prefix) (ps : List Prefix) → Contains ps p → length (without p.address ps) + 1 ≡ length ps
unfolding without
without_length p [] h = absurd (none_in p h)
without_length p (x ∷ xs) h = choose (x.address == p.address) (eq_tells x.address p.address) (without_length p xs)
  where
    choose : (b : Bool) → ((b ≡ true) × (x.address ≡ p.address)) ⊎ ((b ≡ false) × (¬ (x.address ≡ p.address))) → (Contains xs p → length (without p.address xs) + 1 ≡ length xs)
        → length (cond b xs (x ∷ without p.address xs)) + 1 ≡ length (x ∷ xs)
    choose true k again = omega arith
    choose false (inl k) again = absurd (cc)
    choose false (inr k) again =
        let rest : Contains xs p = elim (cons_cases x p xs h) [ inl h' ↦ h' | inr e ↦ absurd (k.1 (ap (λ v. v.address) e)) ]
        in omega (arith, again rest)

-- the list with p joined in
pub record IsMerged (old : List Prefix) (p : Prefix) (new : List Prefix) : Type 0 where
  pub tidy : IsTidy new
  pub covers : (a : ℕ) → Covers new a ↔ (Covers old a ⊎ span_of p a)
  pub few : length new ≤ length old + 1

merged_alone : (p : Prefix) (ps : List Prefix) → IsTidy ps → IsValid p → ApartFrom ps p → IsAlone ps p → IsMerged ps p (add p ps)
merged_alone p ps tidy v apart alone = record {
  tidy = record {
    clean = added_clean ps (add p ps) p tidy.clean (add_members p ps) v apart alone;
    rising = add_rising p ps tidy.rising (new_address ps p apart);
  };
  covers = added_covers ps (add p ps) p (add_members p ps);
  few = omega (arith, add_length p ps);
}

merged_joined : (p r : Prefix) (ps mid new : List Prefix) → IsJoined ps p mid r → IsMerged mid r new → IsMerged ps p new
merged_joined p r ps mid new j m = record {
  tidy = m.tidy;
  covers = λ a. (λ c. (j.same a).0 ((m.covers a).0 c), λ s. (m.covers a).1 ((j.same a).1 s));
  few = let e : length mid + 1 ≡ length ps = j.fewer in let f : length new ≤ length mid + 1 = m.few in omega arith;
}

-- p joins with its buddy, or has none in the list
pub joins_cases : (p : Prefix) (ps : List Prefix) → IsValid p → ((joins ps p ≡ true) × (2 ≤ p.length) × Contains ps (buddy_of p)) ⊎ ((joins ps p ≡ false) × IsAlone ps p)
joins_cases p ps v = elim (cases_lt p.length 2) [
  | inl short ↦ inr (joins_short ps p short, short_alone ps p short)
  | inr long ↦ elim (contains_or_not ps (buddy_of p)) [
    | inl has ↦ inl (joins_so ps p long has, long, has)
    | inr none ↦ inr (joins_not ps p none, buddy_alone ps p (record { parent = parent_of p; buddy = buddy_of p }) (are_halves p v long) v.most none)
  ]
]

pub joined_on : (p : Prefix) (ps : List Prefix) → IsTidy ps → IsValid p → ApartFrom ps p → 2 ≤ p.length → Contains ps (buddy_of p) → IsJoined ps p (without (buddy_of p).address ps) (parent_of p)
joined_on p ps tidy v apart long has = joined ps (without (buddy_of p).address ps) p (record { parent = parent_of p; buddy = buddy_of p }) tidy.clean
    (without_rising (buddy_of p) ps tidy.rising has) v apart (are_halves p v long) has (without_members (buddy_of p) ps tidy.rising has) (without_length (buddy_of p) ps has)

-- where it joins
pub joins_on : (p : Prefix) (ps : List Prefix) → IsTidy ps → IsValid p → ApartFrom ps p → joins ps p ≡ true → IsJoined ps p (without (buddy_of p).address ps) (parent_of p)
joins_on p ps tidy v apart e = elim (joins_cases p ps v) [ inl h ↦ joined_on p ps tidy v apart h.1 h.2 | inr h ↦ absurd (cc) ]

pub merged : (n : ℕ) (p : Prefix) (ps : List Prefix) → p.length ≤ n → IsTidy ps → IsValid p → ApartFrom ps p → IsMerged ps p (merge n p ps)
merged zero p ps le tidy v apart = let one : 1 ≤ p.length = v.least in absurd (omega arith)
merged (suc n) p ps le tidy v apart = elim (joins_cases p ps v) [
  | inr h ↦ subst (IsMerged ps p) (sym (merge_none (suc n) p ps h.0)) (merged_alone p ps tidy v apart h.1)
  | inl h ↦
      let mid : List Prefix = without (buddy_of p).address ps
      in let j : IsJoined ps p mid (parent_of p) = joined_on p ps tidy v apart h.1 h.2
      in let shorter : (parent_of p).length + 1 ≡ p.length = j.shorter
      in subst (IsMerged ps p) (sym (merge_step (suc n) n p ps refl h.0))
      (merged_joined p (parent_of p) ps mid (merge n (parent_of p) mid) j (merged n (parent_of p) mid (omega arith) j.tidy j.valid j.apart))
]
