-- The lists after each change are those that the functions give.
use Rattle.std.proofs.Common.{◌≡◌, ℕ, zero, suc, ◌+◌, ◌<◌, ◌≤◌, ◌⊎◌, ◌↔◌, inl, inr, List, [], ◌∷◌, length, Contains, slice_index_or, refl, sym, ◌∙◌, ap, subst, arith, Some, None, Bool, true, false, cond, not, nat_eq, nat_lt, nat_le, ◌==◌, ◌&&◌, insert, remove, Option, MatchOption, IsTrue, is_some, lt-ltb}
use Rattle.std.proofs.lemmas.Bool.{le-ltb}
use Rattle.std.proofs.lemmas.Bool.Decides.{leb_tells}
use Rattle.grasp_types.specs.Prefix.{AddressBlock as Prefix}
use Rattle.grasp_pool.specs.Canonical.{IsRising}
use Rattle.grasp_pool.proofs.Unique.{none_in, cons_cases, cons_more, cons_first, rising_head, rising_tail}
use Rattle.grasp_pool.specs.Parts.{BeginBelow, BeginFrom, IsNarrow}
use Rattle.grasp_pool.proofs.Words.{IsAdded, IsRemoved}
use Rattle.grasp_pool.specs.Functions.{add, without, wide, has, joins, merge, parent_of, buddy_of}
use Rattle.grasp_pool.proofs.Dyadic.{same_prefix}
use Rattle.grasp_pool.proofs.Lists.{rising_cons, lt_tells}

pub add_members : (p : Prefix) (ps : List Prefix) → IsAdded ps (add p ps) p
unfolding add
add_members p [] q = (
  λ h. elim (cons_cases p q [] h) [ inl k ↦ inl k | inr e ↦ inr (sym e) ],
  λ s. elim s [ inl k ↦ absurd (none_in q k) | inr e ↦ subst (Contains (p ∷ [])) (sym e) (cons_first p []) ],
)
add_members p (x ∷ xs) q = choose (nat_lt p.address x.address) (add_members p xs q)
  where
    choose : (b : Bool) → (Contains (add p xs) q ↔ (Contains xs q ⊎ (q ≡ p))) → Contains (cond b (p ∷ x ∷ xs) (x ∷ add p xs)) q ↔ (Contains (x ∷ xs) q ⊎ (q ≡ p))
    choose true again = (
      λ h. elim (cons_cases p q (x ∷ xs) h) [ inl k ↦ inl k | inr e ↦ inr (sym e) ],
      λ s. elim s [ inl k ↦ cons_more p q (x ∷ xs) k | inr e ↦ subst (Contains (p ∷ x ∷ xs)) (sym e) (cons_first p (x ∷ xs)) ],
    )
    choose false again = (
      λ h. elim (cons_cases x q (add p xs) h) [
        | inl k ↦ elim (again.0 k) [ inl k' ↦ inl (cons_more x q xs k') | inr e ↦ inr e ]
        | inr e ↦ inl (subst (Contains (x ∷ xs)) e (cons_first x xs))
      ],
      λ s. elim s [
        | inl k ↦ elim (cons_cases x q xs k) [
          | inl k' ↦ cons_more x q (add p xs) (again.1 (inl k'))
          | inr e ↦ subst (Contains (x ∷ add p xs)) e (cons_first x (add p xs))
        ]
        | inr e ↦ cons_more x q (add p xs) (again.1 (inr e))
      ],
    )

pub add_rising : (p : Prefix) (ps : List Prefix) → IsRising ps → ((q : Prefix) → Contains ps q → ¬ (q.address ≡ p.address)) → IsRising (add p ps)
unfolding add
add_rising p [] r other = rising_cons p [] (λ q h. absurd (none_in q h)) r
add_rising p (x ∷ xs) r other = choose (nat_lt p.address x.address) (lt_tells p.address x.address) (add_rising p xs (rising_tail x xs r) (λ q k. other q (cons_more x q xs k)))
  where
    choose : (b : Bool) → ((b ≡ true) × (p.address < x.address)) ⊎ ((b ≡ false) × (x.address ≤ p.address)) → IsRising (add p xs) → IsRising (cond b (p ∷ x ∷ xs) (x ∷ add p xs))
    choose true (inl h) again = rising_cons p (x ∷ xs)
        (λ q k. let lt : p.address < x.address = h.1 in elim (cons_cases x q xs k) [
          | inl k' ↦ let up : x.address < q.address = rising_head x xs r q k' in omega arith
          | inr e ↦ subst (λ v. p.address < v.address) e lt
        ]) r
    choose true (inr h) again = absurd (cc)
    choose false (inl h) again = absurd (cc)
    choose false (inr h) again = rising_cons x (add p xs)
        (λ q k. elim ((add_members p xs q).0 k) [
          | inl k' ↦ rising_head x xs r q k'
          | inr e ↦ let le : x.address ≤ p.address = h.1 in let ne : ¬ (x.address ≡ p.address) = other x (cons_first x xs) in let s : q.address ≡ p.address = ap (λ v. v.address) e in grind arith
        ])
        again

-- put in at its place
pub insert_is : (xs : List Prefix) (i : ℕ) (p : Prefix) → i ≤ length xs → BeginBelow xs i p.address → BeginFrom xs i p.address
    → ((q : Prefix) → Contains xs q → ¬ (q.address ≡ p.address)) → insert xs i p ≡ add p xs
unfolding add
insert_is [] zero p le below above other = refl
insert_is [] (suc i) p le below above other = absurd (omega arith)
insert_is (x ∷ xs) zero p le below above other =
    let up : p.address ≤ x.address = above 0 x (omega arith) (omega arith)
    in let ne : ¬ (x.address ≡ p.address) = other x (cons_first x xs)
    in sym (ap (λ b. cond b (p ∷ x ∷ xs) (x ∷ add p xs)) (lt-ltb p.address x.address (grind arith)))
insert_is (x ∷ xs) (suc i) p le below above other =
    let lt : x.address < p.address = below 0 x (omega arith)
    in let again : insert xs i p ≡ add p xs
    = insert_is xs i p (omega arith) (λ k d h. below (suc k) d (omega arith)) (λ k d h within. above (suc k) d (omega arith) (omega arith)) (λ q h. other q (cons_more x q xs h))
    in ap (λ l. x ∷ l) again ∙ sym (ap (λ b. cond b (p ∷ x ∷ xs) (x ∷ add p xs)) (le-ltb p.address x.address (omega arith)))

-- two of a rising list with one address are the same
pub one_address : (ps : List Prefix) → IsRising ps → (p q : Prefix) → Contains ps p → Contains ps q → p.address ≡ q.address → p ≡ q
one_address [] r p q h k e = absurd (none_in p h)
one_address (x ∷ xs) r p q h k e = elim (cons_cases x p xs h) [
  | inl h' ↦ elim (cons_cases x q xs k) [
    | inl k' ↦ one_address xs (rising_tail x xs r) p q h' k' e
    | inr f ↦ let lt : x.address < p.address = rising_head x xs r p h' in let s : x.address ≡ q.address = ap (λ v. v.address) f in absurd (omega arith)
  ]
  | inr f ↦ elim (cons_cases x q xs k) [
    | inl k' ↦ let lt : x.address < q.address = rising_head x xs r q k' in let s : x.address ≡ p.address = ap (λ v. v.address) f in absurd (omega arith)
    | inr g ↦ sym f ∙ g
  ]
]

pub eq_tells : (a b : ℕ) → (((a == b) ≡ true) × (a ≡ b)) ⊎ (((a == b) ≡ false) × (¬ (a ≡ b)))
eq_tells a b = grind (arith, Rattle.std.proofs.lemmas.Bool.Decides.nat_tests)

pub without_members : (p : Prefix) (ps : List Prefix) → IsRising ps → Contains ps p → IsRemoved ps (without p.address ps) p
unfolding without
without_members p [] r has = absurd (none_in p has)
without_members p (x ∷ xs) r has = choose (x.address == p.address) (eq_tells x.address p.address) (λ has'. without_members p xs (rising_tail x xs r) has')
  where
    tail : ¬ (x.address ≡ p.address) → Contains xs p
    tail ne = elim (cons_cases x p xs has) [ inl h ↦ h | inr e ↦ absurd (ne (ap (λ v. v.address) e)) ]

    choose : (b : Bool) → ((b ≡ true) × (x.address ≡ p.address)) ⊎ ((b ≡ false) × (¬ (x.address ≡ p.address))) → (Contains xs p → IsRemoved xs (without p.address xs) p) → IsRemoved (x ∷ xs) (cond b xs (x ∷ without p.address xs)) p
    choose true (inl h) again q = (
      λ k. (cons_more x q xs k, λ e. let lt : x.address < q.address = rising_head x xs r q k in let s : q.address ≡ p.address = ap (λ v. v.address) e in let t : x.address ≡ p.address = h.1 in omega arith),
      λ s. elim (cons_cases x q xs s.0) [
        | inl k ↦ k
        | inr e ↦ absurd (s.1 (sym e ∙ one_address (x ∷ xs) r x p (cons_first x xs) has h.1))
      ],
    )
    choose true (inr h) again q = absurd (cc)
    choose false (inl h) again q = absurd (cc)
    choose false (inr h) again q = (
      λ k. elim (cons_cases x q (without p.address xs) k) [
        | inl k' ↦ let m : Contains xs q × (¬ (q ≡ p)) = (again (tail h.1) q).0 k' in (cons_more x q xs m.0, m.1)
        | inr e ↦ (subst (Contains (x ∷ xs)) e (cons_first x xs), λ f. h.1 (ap (λ v. v.address) (e ∙ f)))
      ],
      λ s. elim (cons_cases x q xs s.0) [
        | inl k ↦ cons_more x q (without p.address xs) ((again (tail h.1) q).1 (k, s.1))
        | inr e ↦ subst (Contains (x ∷ without p.address xs)) e (cons_first x (without p.address xs))
      ],
    )

pub without_rising : (p : Prefix) (ps : List Prefix) → IsRising ps → Contains ps p → IsRising (without p.address ps)
unfolding without
without_rising p [] r has = absurd (none_in p has)
without_rising p (x ∷ xs) r has = choose (x.address == p.address) (eq_tells x.address p.address) (λ has'. without_rising p xs (rising_tail x xs r) has')
  where
    tail : ¬ (x.address ≡ p.address) → Contains xs p
    tail ne = elim (cons_cases x p xs has) [ inl h ↦ h | inr e ↦ absurd (ne (ap (λ v. v.address) e)) ]

    choose : (b : Bool) → ((b ≡ true) × (x.address ≡ p.address)) ⊎ ((b ≡ false) × (¬ (x.address ≡ p.address))) → (Contains xs p → IsRising (without p.address xs)) → IsRising (cond b xs (x ∷ without p.address xs))
    choose true h again = rising_tail x xs r
    choose false (inl h) again = absurd (cc)
    choose false (inr h) again = rising_cons x (without p.address xs)
        (λ q k. rising_head x xs r q ((without_members p xs (rising_tail x xs r) (tail h.1) q).0 k).0)
        (again (tail h.1))

-- taken out at its place
pub remove_is : (xs : List Prefix) (i : ℕ) (p : Prefix) → IsRising xs → i < length xs → p ≡ slice_index_or xs i p → remove xs i ≡ without p.address xs
unfolding without
remove_is [] i p r within e = absurd (omega arith)
remove_is (x ∷ xs) zero p r within e = choose (x.address == p.address) (eq_tells x.address p.address)
  where
    choose : (b : Bool) → ((b ≡ true) × (x.address ≡ p.address)) ⊎ ((b ≡ false) × (¬ (x.address ≡ p.address))) → xs ≡ cond b xs (x ∷ without p.address xs)
    choose true h = refl
    choose false (inl h) = absurd (cc)
    choose false (inr h) = absurd (h.1 (ap (λ v. v.address) (sym e)))
remove_is (x ∷ xs) (suc i) p r within e = choose (x.address == p.address) (eq_tells x.address p.address) (remove_is xs i p (rising_tail x xs r) (omega arith) e)
  where
    choose : (b : Bool) → ((b ≡ true) × (x.address ≡ p.address)) ⊎ ((b ≡ false) × (¬ (x.address ≡ p.address))) → remove xs i ≡ without p.address xs
        → x ∷ remove xs i ≡ cond b xs (x ∷ without p.address xs)
    choose true (inl h) again =
        let lt : x.address < p.address = rising_head x xs r p (i, let w : i < length xs = omega arith in w, sym e)
        in let s : x.address ≡ p.address = h.1 in absurd (omega arith)
    choose true (inr h) again = absurd (cc)
    choose false h again = ap (λ l. x ∷ l) again

-- the first wide prefix
pub wide_none : (ps : List Prefix) (n : ℕ) → IsNarrow ps n (length ps) → wide ps n ≡ None
unfolding wide
wide_none [] n narrow = refl
wide_none (x ∷ xs) n narrow = choose (nat_le x.length n) (leb_tells x.length n) (wide_none xs n (λ k d lt within. narrow (suc k) d (omega arith) (omega arith)))
  where
    choose : (b : Bool) → ((b ≡ true) × (x.length ≤ n)) ⊎ ((b ≡ false) × (n < x.length)) → wide xs n ≡ None → cond b (Some x) (wide xs n) ≡ None
    choose true (inl h) again = let long : n < x.length = narrow zero x (omega arith) (omega arith) in let le : x.length ≤ n = h.1 in absurd (omega arith)
    choose true (inr h) again = absurd (cc)
    choose false h again = again

pub wide_some : (ps : List Prefix) (n i : ℕ) (d : Prefix) → i < length ps → IsNarrow ps n i → (slice_index_or ps i d).length ≤ n → wide ps n ≡ Some (slice_index_or ps i d)
unfolding wide
wide_some [] n i d h narrow le = absurd (omega arith)
wide_some (x ∷ xs) n zero d h narrow le = choose (nat_le x.length n) (leb_tells x.length n)
  where
    choose : (b : Bool) → ((b ≡ true) × (x.length ≤ n)) ⊎ ((b ≡ false) × (n < x.length)) → cond b (Some x) (wide xs n) ≡ Some x
    choose true h' = refl
    choose false (inl h') = absurd (cc)
    choose false (inr h') = let lt : n < x.length = h'.1 in absurd (omega arith)
wide_some (x ∷ xs) n (suc i) d h narrow le = choose (nat_le x.length n) (leb_tells x.length n) (wide_some xs n i d (omega arith) (λ k e lt within. narrow (suc k) e (omega arith) (omega arith)) le)
  where
    choose : (b : Bool) → ((b ≡ true) × (x.length ≤ n)) ⊎ ((b ≡ false) × (n < x.length)) → wide xs n ≡ Some (slice_index_or xs i d) → cond b (Some x) (wide xs n) ≡ Some (slice_index_or xs i d)
    choose true (inl h') again = let long : n < x.length = narrow zero x (omega arith) (omega arith) in let le' : x.length ≤ n = h'.1 in absurd (omega arith)
    choose true (inr h') again = absurd (cc)
    choose false h' again = again

both : Prefix → Prefix → Bool
both x p = (x.address == p.address) && (x.length == p.length)

same_both : (x p : Prefix) → x ≡ p → both x p ≡ true
unfolding both
same_both x p e = subst (λ q. ((x.address == q.address) && (x.length == q.length)) ≡ true) e (grind (arith, Rattle.std.proofs.lemmas.Bool.Decides.nat_tests))

both_same : (x p : Prefix) → both x p ≡ true → x ≡ p
unfolding both
both_same x p h = choose (x.address == p.address) (x.length == p.length) (eq_tells x.address p.address) (eq_tells x.length p.length) h
  where
    choose : (a b : Bool) → ((a ≡ true) × (x.address ≡ p.address)) ⊎ ((a ≡ false) × (¬ (x.address ≡ p.address)))
        → ((b ≡ true) × (x.length ≡ p.length)) ⊎ ((b ≡ false) × (¬ (x.length ≡ p.length))) → (a && b) ≡ true → x ≡ p
    choose true true (inl e) (inl f) h = same_prefix x p e.1 f.1
    choose true true (inl e) (inr f) h = absurd (cc)
    choose true true (inr e) f h = absurd (cc)
    choose _ _ e f h = absurd (cc)

pub has_true : (ps : List Prefix) (p : Prefix) → Contains ps p → has ps p ≡ true
unfolding has both
has_true [] p h = absurd (none_in p h)
has_true (x ∷ xs) p h = elim (cons_cases x p xs h) [
  | inl k ↦ choose (both x p) (has_true xs p k)
  | inr e ↦ at_once (both x p) (same_both x p e)
]
  where
    choose : (b : Bool) → has xs p ≡ true → cond b true (has xs p) ≡ true
    choose true e = refl
    choose false e = e

    at_once : (b : Bool) → b ≡ true → cond b true (has xs p) ≡ true
    at_once true e = refl
    at_once false e = absurd (cc)

pub has_false : (ps : List Prefix) (p : Prefix) → ¬ Contains ps p → has ps p ≡ false
unfolding has both
has_false [] p h = refl
has_false (x ∷ xs) p h = choose (both x p) (both_same x p) (has_false xs p (λ k. h (cons_more x p xs k)))
  where
    choose : (b : Bool) → (b ≡ true → x ≡ p) → has xs p ≡ false → cond b true (has xs p) ≡ false
    choose true e f = absurd (h (subst (Contains (x ∷ xs)) (e refl) (cons_first x xs)))
    choose false e f = f

-- the place of a prefix tells whether the list has it
pub found_tells : (ps : List Prefix) (p : Prefix) (o : Option ℕ) → MatchOption o (¬ Contains ps p) (λ i. (i < length ps) × (slice_index_or ps i p ≡ p)) → IsTrue (is_some o) ↔ Contains ps p
found_tells ps p None none = (λ t. absurd (cc), λ h. absurd (none h))
found_tells ps p (Some i) at = (λ t. (i, at.0, at.1), λ h. refl)

pub joins_short : (ps : List Prefix) (p : Prefix) → p.length < 2 → joins ps p ≡ false
joins_short ps p h = choose (nat_le 2 p.length) (leb_tells 2 p.length)
  where
    choose : (b : Bool) → ((b ≡ true) × (2 ≤ p.length)) ⊎ ((b ≡ false) × (p.length < 2)) → cond b (has ps (buddy_of p)) false ≡ false
    choose true (inl k) = let le : 2 ≤ p.length = k.1 in absurd (omega arith)
    choose true (inr k) = absurd (cc)
    choose false k = refl

pub joins_not : (ps : List Prefix) (p : Prefix) → ¬ Contains ps (buddy_of p) → joins ps p ≡ false
joins_not ps p h = choose (nat_le 2 p.length) (has_false ps (buddy_of p) h)
  where
    choose : (b : Bool) → has ps (buddy_of p) ≡ false → cond b (has ps (buddy_of p)) false ≡ false
    choose true e = e
    choose false e = refl

pub joins_so : (ps : List Prefix) (p : Prefix) → 2 ≤ p.length → Contains ps (buddy_of p) → joins ps p ≡ true
joins_so ps p le h = choose (nat_le 2 p.length) (leb_tells 2 p.length) (has_true ps (buddy_of p) h)
  where
    choose : (b : Bool) → ((b ≡ true) × (2 ≤ p.length)) ⊎ ((b ≡ false) × (p.length < 2)) → has ps (buddy_of p) ≡ true → cond b (has ps (buddy_of p)) false ≡ true
    choose true k e = e
    choose false (inl k) e = absurd (cc)
    choose false (inr k) e = let lt : p.length < 2 = k.1 in absurd (omega arith)

pub merge_none : (n : ℕ) (p : Prefix) (ps : List Prefix) → joins ps p ≡ false → merge n p ps ≡ add p ps
unfolding merge
merge_none zero p ps e = refl
merge_none (suc n) p ps e = ap (λ b. cond b (merge n (parent_of p) (without (buddy_of p).address ps)) (add p ps)) e

pub merge_step : (n m : ℕ) (p : Prefix) (ps : List Prefix) → n ≡ suc m → joins ps p ≡ true → merge n p ps ≡ merge m (parent_of p) (without (buddy_of p).address ps)
unfolding merge
merge_step n m p ps e j = ap (λ k. merge k p ps) e ∙ ap (λ b. cond b (merge m (parent_of p) (without (buddy_of p).address ps)) (add p ps)) j

pub merge_on : (n m : ℕ) (p r : Prefix) (ps ps' new : List Prefix) → m + 1 ≡ n → joins ps p ≡ true → r ≡ parent_of p → ps' ≡ without (buddy_of p).address ps
    → new ≡ merge m r ps' → new ≡ merge n p ps
merge_on n m p r ps ps' new e j a b h = h ∙ ap (λ x. merge m x ps') a ∙ ap (λ l. merge m (parent_of p) l) b ∙ sym (merge_step n m p ps (let f : n ≡ suc m = omega arith in f) j)

-- two that differ by a test aren't the same
pub differs : (x p : Prefix) (b : Bool) → b ≡ not (nat_eq x.address p.address && nat_eq x.length p.length) → b ≡ true → ¬ (x ≡ p)
differs x p b e t same =
    let f : x.address ≡ p.address = ap (λ v. v.address) same
    in let g : x.length ≡ p.length = ap (λ v. v.length) same
    in grind (arith, Rattle.std.proofs.lemmas.Bool.Decides.nat_tests)
