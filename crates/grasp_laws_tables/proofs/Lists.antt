-- Which elements pass a test, and what a filter leaves.
use Rattle.std.proofs.Common.{zero, suc, ◌≡◌, Bool, true, false, cond, not, ◌||◌, Some, None, List, [], ◌∷◌, ◌++◌, map, filter, get_or, All, ◌⊎◌, inl, inr, refl, sym, ap, ◌∙◌, subst, true≢false, arith}
use Rattle.std.proofs.lemmas.Bool.{or_parts}
use Rattle.std.specs.Prelude.{Any, Contains, find}
use Rattle.std.specs.List.{list_any}
use Rattle.std.proofs.lemmas.List.Elements.{All-nil, All-cons, All-weaker, All-push, All-contains_itself, Contains-get_or, filter_passes}
use Rattle.grasp_cbor.proofs.Facts.Lists.{all_stay}
use Rattle.grasp_flood.proofs.Facts.{part_filter}
use Rattle.grasp_laws_tables.specs.Dropping.{HasDropped}

pub any_here : {X : Type 0} (P : X → Type 0) (x : X) (xs : List X) → P x → Any P (x ∷ xs)
any_here P x xs p = (0, x, omega arith, refl, p)

pub any_later : {X : Type 0} (P : X → Type 0) (x : X) (xs : List X) → Any P xs → Any P (x ∷ xs)
any_later P x xs (i, y, h, e, p) = (suc i, y, omega (arith, h), e, p)

-- one that passes, where one does
pub one_passes : {X : Type 0} (p : X → Bool) (P : X → Type 0) → ((x : X) → p x ≡ true → P x) → (xs : List X) → list_any p xs ≡ true → Any P xs
one_passes p P means [] e = absurd (true≢false (sym e))
one_passes p P means (x ∷ xs) e = by (p x) refl (one_passes p P means xs) e
  where
    by : (b : Bool) → p x ≡ b → (list_any p xs ≡ true → Any P xs) → (b || list_any p xs) ≡ true → Any P (x ∷ xs)
    by true t rest h = any_here P x xs (means x t)
    by false t rest h = any_later P x xs (rest h)

-- none passes, where none does
pub none_passes : {X : Type 0} (p : X → Bool) (P : X → Type 0) → ((x : X) → p x ≡ false → P x) → (xs : List X) → list_any p xs ≡ false → All P xs
none_passes p P means [] e = All-nil P
none_passes p P means (x ∷ xs) e =
    let h = or_parts (p x) (list_any p xs) e in
    All-cons P x xs (means x h.0) (none_passes p P means xs h.1)

-- a filter keeps what passes
pub filter_keeps : {X : Type 0} (p : X → Bool) (xs : List X) (x : X) → Contains xs x → p x ≡ true → Contains (filter p xs) x
filter_keeps p [] x (k, h, e) t = absurd (omega arith)
filter_keeps p (y ∷ ys) x (zero, h, e) t =
    let there : p y ≡ true = ap p e ∙ t in
    subst (λ b. Contains (cond b (y ∷ filter p ys) (filter p ys)) x) (sym there) (0, omega arith, e)
filter_keeps p (y ∷ ys) x (suc k, h, e) t =
    let rest = filter_keeps p ys x (k, omega (arith, h), e) t in
    elim (p y) as (λ b. Contains (cond b (y ∷ filter p ys) (filter p ys)) x) [ true ↦ (suc rest.0, omega (arith, rest.1), rest.2) | false ↦ rest ]

-- Where one of a list is

pub any_cases : {X : Type 0} (P : X → Type 0) (x : X) (xs : List X) → Any P (x ∷ xs) → P x ⊎ Any P xs
any_cases P x xs (zero, y, h, e, p) = inl (subst P (sym e) p)
any_cases P x xs (suc i, y, h, e, p) = inr (i, y, omega (arith, h), e, p)

pub any_none : {X : Type 0} (P : X → Type 0) → Any P [] → ⊥
any_none P (i, x, h, e, p) = omega (arith, h)

pub any_weaker : {X : Type 0} (P Q : X → Type 0) → ((x : X) → P x → Q x) → (xs : List X) → Any P xs → Any Q xs
any_weaker P Q weaker xs (i, x, h, e, p) = (i, x, h, e, weaker x p)

-- each is one of the list
pub all_any : {X : Type 0} (R : X → X → Type 0) → ((x : X) → R x x) → (xs : List X) → All (λ x. Any (R x) xs) xs
all_any R same xs = λ k d h. let there = Contains-get_or xs k d h in (there.0, get_or xs k d, there.1, there.2, same (get_or xs k d))

-- what a filter leaves is one of the list, and passes
pub any_filter : {X : Type 0} (p : X → Bool) (P : X → Type 0) (xs : List X) → Any P (filter p xs) → Any (λ x. (p x ≡ true) × P x) xs
any_filter p P [] a = absurd (any_none P a)
any_filter p P (x ∷ xs) a = by (p x) refl (any_filter p P xs) a
  where
    by : (b : Bool) → p x ≡ b → (Any P (filter p xs) → Any (λ y. (p y ≡ true) × P y) xs) → Any P (cond b (x ∷ filter p xs) (filter p xs)) → Any (λ y. (p y ≡ true) × P y) (x ∷ xs)
    by true t rest here = elim (any_cases P x (filter p xs) here) as (λ _. Any (λ y. (p y ≡ true) × P y) (x ∷ xs)) [
      | inl q ↦ any_here (λ y. (p y ≡ true) × P y) x xs (t, q)
      | inr q ↦ any_later (λ y. (p y ≡ true) × P y) x xs (rest q)
    ]
    by false t rest later = any_later (λ y. (p y ≡ true) × P y) x xs (rest later)

pub contains_map : {X Y : Type 0} (f : X → Y) (xs : List X) (x : X) → Contains xs x → Contains (map f xs) (f x)
contains_map f [] x (k, h, e) = absurd (omega arith)
contains_map f (y ∷ ys) x (zero, h, e) = (0, omega arith, ap f e)
contains_map f (y ∷ ys) x (suc k, h, e) = let rest = contains_map f ys x (k, omega (arith, h), e) in (suc rest.0, omega (arith, rest.1), rest.2)

-- What is found

-- what `find` finds is one of the list, and passes
pub found_one : {X : Type 0} (p : X → Bool) (xs : List X) (x : X) → find p xs ≡ Some x → Any (λ y. (y ≡ x) × (p y ≡ true)) xs
found_one p [] x e = absurd (cc)
found_one p (y ∷ ys) x e = by (p y) refl e (found_one p ys x)
  where
    by : (b : Bool) → p y ≡ b → cond b (Some y) (find p ys) ≡ Some x → (find p ys ≡ Some x → Any (λ z. (z ≡ x) × (p z ≡ true)) ys) → Any (λ z. (z ≡ x) × (p z ≡ true)) (y ∷ ys)
    by true t s rest = let same : y ≡ x = cc in any_here (λ z. (z ≡ x) × (p z ≡ true)) y ys (same, t)
    by false t s rest = any_later (λ z. (z ≡ x) × (p z ≡ true)) y ys (rest s)

-- where `find` finds none, none passes
pub found_none : {X : Type 0} (p : X → Bool) (xs : List X) → find p xs ≡ None → All (λ x. p x ≡ false) xs
found_none p [] e = All-nil (λ x. p x ≡ false)
found_none p (x ∷ xs) e = by (p x) refl e (found_none p xs)
  where
    by : (b : Bool) → p x ≡ b → cond b (Some x) (find p xs) ≡ None → (find p xs ≡ None → All (λ y. p y ≡ false) xs) → All (λ y. p y ≡ false) (x ∷ xs)
    by true t s rest = absurd (cc)
    by false t s rest = All-cons (λ y. p y ≡ false) x xs t (rest s)

-- What has gone

-- where a test that means something fails, that doesn't hold
pub not_where : (b : Bool) (P : Type 0) → (P → b ≡ true) → b ≡ false → ¬ P
not_where b P is e p = true≢false (sym (is p) ∙ e)

passes_not : (b : Bool) (P : Type 0) → (b ≡ true → P) → ¬ P → not b ≡ true
passes_not true P means n = absurd (n (means refl))
passes_not false P means n = refl

not_passes : (b : Bool) (P : Type 0) → (P → b ≡ true) → not b ≡ true → ¬ P
not_passes b P is e p = true≢false (sym e ∙ ap not (is p))

-- a filter drops what a test passes
pub has_dropped : {X : Type 0} (p : X → Bool) (Gone : X → Type 0) → ((x : X) → p x ≡ true → Gone x) → ((x : X) → Gone x → p x ≡ true) → (xs : List X)
    → HasDropped Gone xs (filter (λ x. not (p x)) xs)
has_dropped p Gone means is xs = record {
  gone = All-weaker (λ x. not (p x) ≡ true) (λ x. ¬ Gone x) (λ x. not_passes (p x) (Gone x) (is x)) (filter (λ x. not (p x)) xs) (filter_passes (λ x. not (p x)) xs);
  others = all_stay (λ x. not (p x)) (λ x. ¬ Gone x) (λ x. passes_not (p x) (Gone x) (means x)) xs;
  order = part_filter (λ x. not (p x)) xs;
}

-- one more is the last
pub one_more : {X : Type 0} (xs : List X) (x : X) → All (λ y. Contains xs y ⊎ (y ≡ x)) (xs ++ x ∷ [])
one_more xs x = All-push (λ y. Contains xs y ⊎ (y ≡ x)) xs x (All-weaker (Contains xs) (λ y. Contains xs y ⊎ (y ≡ x)) (λ y there. inl there) xs (All-contains_itself xs)) (inr refl)
