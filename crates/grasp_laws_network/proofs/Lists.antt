-- Facts of lists: a part that is put, and what is mapped, filtered or found.
use Rattle.std.proofs.Common.{◌≡◌, ◌≢◌, ◌⊎◌, inl, inr, refl, sym, ap, ◌∙◌, subst, arith, ℕ, zero, suc, ◌-◌, ◌≤◌, ◌<◌, Bool, true, false, cond, List, [], ◌∷◌, length, map, filter, find, get_or, slice_get, slice_set, Contains, Some, None, option_map}
use Rattle.std.proofs.lemmas.List.Elements.{All-contains, All-filter, All-contains_itself, Contains-append_left, Contains-append_right, Contains-push, filter_passes}
use Rattle.std.proofs.lemmas.Option.{none-some, same_Some, slice_get-map, slice_get_cases}
use Rattle.grasp_cbor.proofs.Facts.Lists as facts
use Rattle.grasp_laws_network.proofs.Appended.{numbered_get, get_numbered}
use Rattle.grasp_laws_network.proofs.Here.{numbered_within}
use Rattle.grasp_model_network.specs.Plans.{IsNode}
use Rattle.grasp_model_network.specs.Setting.{numbered}

-- ---- by their places, from 0

no_suc : (n : ℕ) → suc n ≡ 0 → ⊥
no_suc n e = omega arith

same_suc : (m n : ℕ) → suc m ≡ suc n → m ≡ n
same_suc m n e = omega arith

-- where one part is put, a part is that one, or stood there
slice_put : {A : Type 0} (xs : List A) (i j : ℕ) (x y : A) → slice_get (slice_set xs i x) j ≡ Some y → ((j ≡ i) × (x ≡ y)) ⊎ ((j ≢ i) × (slice_get xs j ≡ Some y))
slice_put [] i j x y e = absurd (none-some y e)
slice_put (z ∷ zs) zero zero x y e = inl (refl, same_Some x y e)
slice_put (z ∷ zs) zero (suc j) x y e = inr (λ d. no_suc j d, e)
slice_put (z ∷ zs) (suc i) zero x y e = inr (λ d. no_suc i (sym d), e)
slice_put (z ∷ zs) (suc i) (suc j) x y e = behind (slice_put zs i j x y e) where
  behind : ((j ≡ i) × (x ≡ y)) ⊎ ((j ≢ i) × (slice_get zs j ≡ Some y)) → ((suc j ≡ suc i) × (x ≡ y)) ⊎ ((suc j ≢ suc i) × (slice_get zs j ≡ Some y))
  behind (inl h) = inl (ap suc h.0, h.1)
  behind (inr h) = inr (λ d. h.0 (same_suc j i d), h.1)

-- ---- by their numbers, from 1

-- each number within the list has a part
pub numbered_there : {A : Type 0} (xs : List A) (n : ℕ) → IsNode (length xs) n → (x : A) × (numbered xs n ≡ Some x)
numbered_there {A} xs n h = by_case (slice_get_cases xs (n - 1)).1 where
  by_case : ((x : A) × (n - 1 < length xs) × (slice_get xs (n - 1) ≡ Some x) × (get_or xs (n - 1) x ≡ x)) ⊎ ((length xs ≤ n - 1) × (slice_get xs (n - 1) ≡ None)) → (x : A) × (numbered xs n ≡ Some x)
  by_case (inl f) = (f.0, get_numbered xs n (Some f.0) h.least f.2)
  by_case (inr past) = absurd (let l : length xs ≤ n - 1 = past.0 in let m : n ≤ length xs = h.most in let k : 1 ≤ n = h.least in omega arith)

-- where one part is put, a part is that one, or had its number
pub numbered_put : {A : Type 0} (xs : List A) (place n : ℕ) (x y : A) → 1 ≤ place → numbered (slice_set xs (place - 1) x) n ≡ Some y
    → ((n ≡ place) × (x ≡ y)) ⊎ ((n ≢ place) × (numbered xs n ≡ Some y))
numbered_put xs place n x y least e = at_place (numbered_within (slice_set xs (place - 1) x) n y e).least where
  by_case : 1 ≤ n → ((n - 1 ≡ place - 1) × (x ≡ y)) ⊎ ((n - 1 ≢ place - 1) × (slice_get xs (n - 1) ≡ Some y)) → ((n ≡ place) × (x ≡ y)) ⊎ ((n ≢ place) × (numbered xs n ≡ Some y))
  by_case h (inl f) = inl (let a : n - 1 ≡ place - 1 = f.0 in let b : 1 ≤ n = h in let c : 1 ≤ place = least in omega arith, f.1)
  by_case h (inr f) = inr (λ d. f.0 (ap (λ k. k - 1) d), get_numbered xs n (Some y) h f.1)

  at_place : 1 ≤ n → ((n ≡ place) × (x ≡ y)) ⊎ ((n ≢ place) × (numbered xs n ≡ Some y))
  at_place h = by_case h (slice_put xs (place - 1) (n - 1) x y (numbered_get (slice_set xs (place - 1) x) n y e))

-- ---- lists that are made of others

pub slice_map : {A B : Type 0} (f : A → B) (xs : List A) (i : ℕ) (x : A) → slice_get xs i ≡ Some x → slice_get (map f xs) i ≡ Some (f x)
slice_map f xs i x e = slice_get-map f xs i ∙ ap (option_map f) e

-- what is filtered was there and passes the test
pub filtered : {A : Type 0} (p : A → Bool) (xs : List A) (x : A) → Contains (filter p xs) x → Contains xs x × (p x ≡ true)
filtered p xs x h = (
  All-contains (λ y. Contains xs y) (filter p xs) x (All-filter p (λ y. Contains xs y) xs (All-contains_itself xs)) h,
  All-contains (λ y. p y ≡ true) (filter p xs) x (filter_passes p xs) h,
)

pub filter_has : {A : Type 0} (p : A → Bool) (xs : List A) (x : A) → Contains xs x → p x ≡ true → Contains (filter p xs) x
filter_has p xs x h is = facts.filter_keeps p xs h.0 x h.1 h.2 is

-- what is found is there and passes the test
pub found_is : {A : Type 0} (p : A → Bool) (xs : List A) (x : A) → find p xs ≡ Some x → Contains xs x × (p x ≡ true)
found_is p [] x e = absurd (none-some x e)
found_is {A} p (y ∷ ys) x e = by_test (p y) refl e (found_is p ys x) where
  by_test : (b : Bool) → p y ≡ b → cond b (Some y) (find p ys) ≡ Some x → (find p ys ≡ Some x → Contains ys x × (p x ≡ true)) → Contains (y ∷ ys) x × (p x ≡ true)
  by_test true is f again =
      let same : y ≡ x = same_Some y x f in
      (subst (λ z. Contains (y ∷ ys) z) same (Contains-append_left (y ∷ []) ys y (Contains-push [] y)), ap p (sym same) ∙ is)
  by_test false is f again = let rest = again f in (Contains-append_right (y ∷ []) ys x rest.0, rest.1)
