-- What giving sessions offer, as one of them changes or leaves.
use Rattle.std.proofs.Common.{◌≡◌, ℕ, zero, suc, ◌+◌, ◌<◌, ◌⊎◌, ◌↔◌, inl, inr, List, [], ◌∷◌, ◌++◌, length, take, drop, slice_set, slice_get, Contains, Option, Some, None, refl, sym, ◌∙◌, ap, subst, arith}
use Rattle.std.specs.Prelude.{AllPairs}
use Rattle.std.proofs.lemmas.List.Elements.{Contains-append_cases, Contains-append_right, Contains-append_left, Contains-get_or}
use Rattle.grasp_types.specs.Prefix.{AddressBlock as Prefix}
use Rattle.grasp_pool.proofs.Unique.{cons_cases, cons_more, cons_first}
use Rattle.grasp_agent.specs.Kept.{offer_and, offers}
use Rattle.grasp_agent.specs.Replies.{removed}
use Rattle.grasp_agent.specs.declared.giving.Giving.{Giving}

-- no two are the same
abbrev pub Distinct : List Prefix → Type 0
Distinct ps = AllPairs (λ p q. ¬ (p ≡ q)) ps

-- ---- a list with one more between two parts

-- what it contains stands around the one, or is it
pub middle_cases : (front back : List Prefix) (p q : Prefix) → Contains (front ++ p ∷ back) q → Contains (front ++ back) q ⊎ (q ≡ p)
middle_cases front back p q h = elim (Contains-append_cases front (p ∷ back) q h) [
  | inl k ↦ inl (Contains-append_left front back q k)
  | inr k ↦ elim (cons_cases p q back k) [ inl j ↦ inl (Contains-append_right front back q j) | inr e ↦ inr (sym e) ]
]

-- what stands around the one is in it
pub middle_rest : (front back : List Prefix) (p q : Prefix) → Contains (front ++ back) q → Contains (front ++ p ∷ back) q
middle_rest front back p q h = elim (Contains-append_cases front back q h) [
  | inl k ↦ Contains-append_left front (p ∷ back) q k
  | inr k ↦ Contains-append_right front (p ∷ back) q (cons_more p q back k)
]

-- the one is in it
pub middle_has : (front back : List Prefix) (p : Prefix) → Contains (front ++ p ∷ back) p
middle_has front back p = Contains-append_right front (p ∷ back) p (cons_first p back)

-- the first isn't among the others
distinct_head : (x : Prefix) (xs : List Prefix) → Distinct (x ∷ xs) → ¬ Contains xs x
distinct_head x xs h c = let b : c.0 < length xs = c.1 in h zero (suc c.0) x (omega arith) (omega arith) (sym c.2)

-- without the first
distinct_tail : (x : Prefix) (xs : List Prefix) → Distinct (x ∷ xs) → Distinct xs
distinct_tail x xs h i j d lt within = h (suc i) (suc j) d (omega arith) (omega arith)

-- with one more in front, which is new
distinct_cons : (x : Prefix) (xs : List Prefix) → ¬ Contains xs x → Distinct xs → Distinct (x ∷ xs)
distinct_cons x xs none h zero zero d lt within = absurd (omega arith)
distinct_cons x xs none h zero (suc j) d lt within = λ e. none (subst (Contains xs) (sym e) (Contains-get_or xs j d (omega arith)))
distinct_cons x xs none h (suc i) zero d lt within = absurd (omega arith)
distinct_cons x xs none h (suc i) (suc j) d lt within = h i j d (omega arith) (omega arith)

-- one that is new goes in
pub middle_distinct : (front back : List Prefix) (p : Prefix) → ¬ Contains (front ++ back) p → Distinct (front ++ back) → Distinct (front ++ p ∷ back)
middle_distinct [] back p none h = distinct_cons p back none h
middle_distinct (x ∷ front) back p none h = distinct_cons x (front ++ p ∷ back)
    (λ c. elim (middle_cases front back p x c) [
      | inl k ↦ distinct_head x (front ++ back) h k
      | inr e ↦ none (subst (Contains (x ∷ (front ++ back))) e (cons_first x (front ++ back)))
    ])
    (middle_distinct front back p (λ c. none (cons_more x p (front ++ back) c)) (distinct_tail x (front ++ back) h))

-- one goes out
pub rest_distinct : (front back : List Prefix) (p : Prefix) → Distinct (front ++ p ∷ back) → Distinct (front ++ back)
rest_distinct [] back p h = distinct_tail p back h
rest_distinct (x ∷ front) back p h = distinct_cons x (front ++ back)
    (λ c. distinct_head x (front ++ p ∷ back) h (middle_rest front back p x c))
    (rest_distinct front back p (distinct_tail x (front ++ p ∷ back) h))

-- one of some distinct prefixes isn't among the others
pub rest_without : (front back : List Prefix) (p : Prefix) → Distinct (front ++ p ∷ back) → ¬ Contains (front ++ back) p
rest_without [] back p h = distinct_head p back h
rest_without (x ∷ front) back p h = λ c. elim (cons_cases x p (front ++ back) c) [
  | inl k ↦ rest_without front back p (distinct_tail x (front ++ p ∷ back) h) k
  | inr e ↦ distinct_head x (front ++ p ∷ back) h (subst (Contains (front ++ p ∷ back)) (sym e) (middle_has front back p))
]

-- ---- offers that are those which are reserved

-- the two lists have the same prefixes, and what is offered is offered once
pub record AreReserved (reserved offered : List Prefix) : Type 0 where
  pub same : (p : Prefix) → Contains reserved p ↔ Contains offered p
  pub once : Distinct offered

-- an offer leaves with its reservation
pub offer_out : (old new front back : List Prefix) (p : Prefix) → ((q : Prefix) → Contains new q ↔ (Contains old q × (¬ (q ≡ p))))
    → AreReserved old (front ++ p ∷ back) → AreReserved new (front ++ back)
offer_out old new front back p out are = record {
  same = λ q. (
    λ h. elim (middle_cases front back p q ((are.same q).0 ((out q).0 h).0)) [ inl k ↦ k | inr e ↦ absurd (((out q).0 h).1 e) ],
    λ h. (out q).1 ((are.same q).1 (middle_rest front back p q h), λ e. rest_without front back p are.once (subst (Contains (front ++ back)) e h)),
  );
  once = rest_distinct front back p are.once;
}

-- an offer comes with its reservation, which is new
pub offer_in : (old new front back : List Prefix) (p : Prefix) → ((q : Prefix) → Contains new q ↔ (Contains old q ⊎ (q ≡ p))) → ¬ Contains old p
    → AreReserved old (front ++ back) → AreReserved new (front ++ p ∷ back)
offer_in old new front back p into none are = record {
  same = λ q. (
    λ h. elim ((into q).0 h) [
      | inl k ↦ middle_rest front back p q ((are.same q).0 k)
      | inr e ↦ subst (Contains (front ++ p ∷ back)) (sym e) (middle_has front back p)
    ],
    λ h. elim (middle_cases front back p q h) [ inl k ↦ (into q).1 (inl ((are.same q).1 k)) | inr e ↦ (into q).1 (inr e) ],
  );
  once = middle_distinct front back p (λ c. none ((are.same p).1 c)) are.once;
}

-- ---- the sessions before and after a place

-- an offer before two lists
pub and_append : (o : Option Prefix) (ps qs : List Prefix) → offer_and o (ps ++ qs) ≡ offer_and o ps ++ qs
and_append None ps qs = refl
and_append (Some p) ps qs = refl

-- what is offered is so behind one more offer
pub and_more : (o : Option Prefix) (ps : List Prefix) (p : Prefix) → Contains ps p → Contains (offer_and o ps) p
and_more None ps p has = has
and_more (Some q) ps p has = cons_more q p ps has

-- the offers of two lists of sessions
pub offers_append : (xs ys : List Giving) → offers (xs ++ ys) ≡ offers xs ++ offers ys
offers_append [] ys = refl
offers_append (x ∷ xs) ys = ap (offer_and x.offer) (offers_append xs ys) ∙ and_append x.offer (offers xs) (offers ys)

-- a list around a place
place_parts : (xs : List Giving) (i : ℕ) (g : Giving) → slice_get xs i ≡ Some g → take i xs ++ (g ∷ drop (suc i) xs) ≡ xs
place_parts [] i g e = absurd (cc)
place_parts (x ∷ xs) zero g e = let same : g ≡ x = cc in ap (λ v. v ∷ xs) same
place_parts (x ∷ xs) (suc i) g e = ap (λ l. x ∷ l) (place_parts xs i g e)

-- the list around a place that was set
place_set : (xs : List Giving) (i : ℕ) (g v : Giving) → slice_get xs i ≡ Some g → slice_set xs i v ≡ take i xs ++ (v ∷ drop (suc i) xs)
place_set [] i g v e = absurd (cc)
place_set (x ∷ xs) zero g v e = refl
place_set (x ∷ xs) (suc i) g v e = ap (λ l. x ∷ l) (place_set xs i g v e)

-- what stands at a place that was set
pub set_get : (xs : List Giving) (i : ℕ) (g v : Giving) → slice_get xs i ≡ Some g → slice_get (slice_set xs i v) i ≡ Some v
set_get [] i g v e = absurd (cc)
set_get (x ∷ xs) zero g v e = refl
set_get (x ∷ xs) (suc i) g v e = set_get xs i g v e

-- a place stays as it is where more follow
pub get_append : (xs ys : List Giving) (i : ℕ) (g : Giving) → slice_get xs i ≡ Some g → slice_get (xs ++ ys) i ≡ Some g
get_append [] ys i g e = absurd (cc)
get_append (x ∷ xs) ys zero g e = e
get_append (x ∷ xs) ys (suc i) g e = get_append xs ys i g e

-- the offers before a place, and those after it
abbrev pub before : List Giving → ℕ → List Prefix
before xs i = offers (take i xs)

abbrev pub behind : List Giving → ℕ → List Prefix
behind xs i = offers (drop (suc i) xs)

-- the offers around a place
pub offers_at : (xs : List Giving) (i : ℕ) (g : Giving) → slice_get xs i ≡ Some g → offers xs ≡ before xs i ++ offer_and g.offer (behind xs i)
offers_at xs i g e = ap offers (sym (place_parts xs i g e)) ∙ offers_append (take i xs) (g ∷ drop (suc i) xs)

-- the offers around a place that was set
pub offers_set : (xs : List Giving) (i : ℕ) (g v : Giving) → slice_get xs i ≡ Some g → offers (slice_set xs i v) ≡ before xs i ++ offer_and v.offer (behind xs i)
offers_set xs i g v e = ap offers (place_set xs i g v e) ∙ offers_append (take i xs) (v ∷ drop (suc i) xs)

-- the offers without those of a place
pub offers_removed : (xs : List Giving) (i : ℕ) → offers (removed xs i) ≡ before xs i ++ behind xs i
offers_removed xs i =
    let e : i + 1 ≡ suc i = omega arith
    in ap (λ n. offers (take i xs ++ drop n xs)) e ∙ offers_append (take i xs) (drop (suc i) xs)

-- what is offered at a place
pub offer_there : (xs : List Giving) (i : ℕ) (g : Giving) (p : Prefix) → slice_get xs i ≡ Some g → g.offer ≡ Some p → Contains (offers xs) p
offer_there xs i g p e o =
    subst (λ l. Contains l p) (sym (offers_at xs i g e)) (subst (λ v. Contains (before xs i ++ offer_and v (behind xs i)) p) (sym o) (middle_has (before xs i) (behind xs i) p))
