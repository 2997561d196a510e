-- How many of a list are so, and what is so of each of a list.
use Rattle.std.proofs.Common.{◌≡◌, ◌≤◌, ℕ, ◌+◌, Bool, true, false, cond, List, [], ◌∷◌, ◌++◌, map, ◌⊎◌, inl, inr, refl, sym, ap, ◌∙◌, arith}
use Rattle.std.specs.List.{count_by}
use Rattle.std.proofs.lemmas.List.Sums.{sum_by-cons}
use Rattle.grasp_laws_delivery.specs.Ready.{Every}

-- ---- each

pub every_map : {A B : Type 0} (P : A → Type 0) (Q : B → Type 0) (g : A → B) → ((a : A) → P a → Q (g a)) → (xs : List A) → Every P xs → Every Q (map g xs)
every_map P Q g each [] h = tt
every_map P Q g each (x ∷ xs) h = (each x h.0, every_map P Q g each xs h.1)

pub every_weaker : {A : Type 0} (P Q : A → Type 0) → ((a : A) → P a → Q a) → (xs : List A) → Every P xs → Every Q xs
every_weaker P Q each [] h = tt
every_weaker P Q each (x ∷ xs) h = (each x h.0, every_weaker P Q each xs h.1)

pub every_append : {A : Type 0} (P : A → Type 0) (xs ys : List A) → Every P xs → Every P ys → Every P (xs ++ ys)
every_append P [] ys h k = k
every_append P (x ∷ xs) ys h k = (h.0, every_append P xs ys h.1 k)

pub every_both : {A : Type 0} (P Q : A → Type 0) (xs : List A) → Every P xs → Every Q xs → Every (λ x. P x × Q x) xs
every_both P Q [] h k = tt
every_both P Q (x ∷ xs) h k = ((h.0, k.0), every_both P Q xs h.1 k.1)

-- what is so of what each was made of
pub every_of : {A B : Type 0} (Q : B → Type 0) (g : A → B) (xs : List A) → Every Q (map g xs) → Every (λ x. Q (g x)) xs
every_of Q g [] h = tt
every_of Q g (x ∷ xs) h = (h.0, every_of Q g xs h.1)

-- ---- how many

-- one of them, of which what is so of each is so
pub record Found {A : Type 0} (P : A → Type 0) (p : A → Bool) : Type 0 where
  pub it : A
  pub passes : p it ≡ true
  pub holds : P it

abbrev one_if : Bool → ℕ
one_if b = cond b 1 0

one_at_most : (b c : Bool) → (b ≡ true → c ≡ true) → one_if b ≤ one_if c
one_at_most true c h = let e : one_if c ≡ one_if true = ap one_if (h refl) in omega (arith, e)
one_at_most false true h = omega arith
one_at_most false false h = omega arith

module _ {A : Type 0} where
  pub count_first : (p : A → Bool) (x : A) (xs : List A) → count_by p (x ∷ xs) ≡ cond (p x) 1 0 + count_by p xs
  count_first p x xs = sum_by-cons (λ y. cond (p y) 1 0) x xs

  pub count_yes : (p : A → Bool) (x : A) (xs : List A) → p x ≡ true → count_by p (x ∷ xs) ≡ 1 + count_by p xs
  count_yes p x xs is = count_first p x xs ∙ ap (λ b. cond b 1 0 + count_by p xs) is

  pub count_no : (p : A → Bool) (x : A) (xs : List A) → p x ≡ false → count_by p (x ∷ xs) ≡ count_by p xs
  count_no p x xs is =
      let e : count_by p (x ∷ xs) ≡ 0 + count_by p xs = count_first p x xs ∙ ap (λ b. cond b 1 0 + count_by p xs) is in
      omega (arith, e)

  pub count_same : (p q : A → Bool) (xs : List A) → Every (λ x. p x ≡ q x) xs → count_by p xs ≡ count_by q xs
  count_same p q [] h = refl
  count_same p q (x ∷ xs) h =
      count_first p x xs ∙ (ap (λ b. cond b 1 0 + count_by p xs) h.0 ∙ (ap (λ n. cond (q x) 1 0 + n) (count_same p q xs h.1) ∙ sym (count_first q x xs)))

  pub count_none : (p : A → Bool) (xs : List A) → Every (λ x. p x ≡ false) xs → count_by p xs ≡ 0
  count_none p [] h = refl
  count_none p (x ∷ xs) h = count_no p x xs h.0 ∙ count_none p xs h.1

  pub count_append : (p : A → Bool) (xs ys : List A) → count_by p (xs ++ ys) ≡ count_by p xs + count_by p ys
  count_append p [] ys = omega arith
  count_append p (x ∷ xs) ys =
      let a : count_by p (x ∷ xs ++ ys) ≡ cond (p x) 1 0 + count_by p (xs ++ ys) = count_first p x (xs ++ ys) in
      let b : count_by p (x ∷ xs) ≡ cond (p x) 1 0 + count_by p xs = count_first p x xs in
      let c : count_by p (xs ++ ys) ≡ count_by p xs + count_by p ys = count_append p xs ys in
      omega (arith, a, b, c)

  pub count_at_most : (p q : A → Bool) (xs : List A) → Every (λ x. p x ≡ true → q x ≡ true) xs → count_by p xs ≤ count_by q xs
  count_at_most p q [] h = omega arith
  count_at_most p q (x ∷ xs) h =
      let a : count_by p (x ∷ xs) ≡ cond (p x) 1 0 + count_by p xs = count_first p x xs in
      let b : count_by q (x ∷ xs) ≡ cond (q x) 1 0 + count_by q xs = count_first q x xs in
      let c : count_by p xs ≤ count_by q xs = count_at_most p q xs h.1 in
      let d : cond (p x) 1 0 ≤ cond (q x) 1 0 = one_at_most (p x) (q x) h.0 in
      omega (arith, a, b, c, d)

  pub none_or_one : (P : A → Type 0) (p : A → Bool) (xs : List A) → Every P xs → (count_by p xs ≡ 0) ⊎ Found P p
  none_or_one P p [] h = inl refl
  none_or_one P p (x ∷ xs) h = by_test (p x) refl (none_or_one P p xs h.1) where
    by_test : (b : Bool) → p x ≡ b → (count_by p xs ≡ 0) ⊎ Found P p → (count_by p (x ∷ xs) ≡ 0) ⊎ Found P p
    by_test true is rest = inr (record { it = x; passes = is; holds = h.0 })
    by_test false is (inl none) = inl (count_no p x xs is ∙ none)
    by_test false is (inr found) = inr found

pub count_map : {A B : Type 0} (p : B → Bool) (g : A → B) (xs : List A) → count_by p (map g xs) ≡ count_by (λ x. p (g x)) xs
count_map p g [] = refl
count_map p g (x ∷ xs) =
    count_first p (g x) (map g xs) ∙ (ap (λ n. cond (p (g x)) 1 0 + n) (count_map p g xs) ∙ sym (count_first (λ y. p (g y)) x xs))
