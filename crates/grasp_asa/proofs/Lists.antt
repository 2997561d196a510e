-- Lists whose elements are tested, filtered or changed at one place.
use Rattle.std.proofs.Common.{◌≡◌, ◌≢◌, ℕ, zero, suc, ◌<◌, ◌≤◌, Bool, true, false, cond, List, [], ◌∷◌, length, map, get_or, Some, None, ltb, refl, sym, ap, ◌∙◌, subst, arith, rules, tests}
use Rattle.std.proofs.Math.ListN.{set}
use Rattle.std.specs.List.{list_any, find, position, position_or_len}
use Rattle.std.proofs.lemmas.Bool.{false≢true, false_from_ne_true}
use Rattle.std.proofs.lemmas.List.Folds.{list_any_at, find_at}
use Rattle.std.proofs.lemmas.List.Sums.{passes_at_first}
use Rattle.std.proofs.lemmas.Option.{slice_get-get_or, slice_get_past}

-- where none passes, each fails
pub none_at : {X : Type 0} (p : X → Bool) (xs : List X) (i : ℕ) (d : X) → list_any p xs ≡ false → i < length xs → p (get_or xs i d) ≡ false
none_at p xs i d none h = false_from_ne_true (p (get_or xs i d)) (λ t. false≢true (sym none ∙ list_any_at p xs i d h t))

-- the element changed where it passes
abbrev pub change : {X : Type 0} → (X → Bool) → (X → X) → X → X
change p f x = cond (p x) (f x) x

-- where none passes, none changes
pub map_none : {X : Type 0} (p : X → Bool) (f : X → X) (xs : List X) → ((j : ℕ) (d : X) → j < length xs → p (get_or xs j d) ≡ false) → map (change p f) xs ≡ xs
map_none p f [] none = refl
map_none p f (x ∷ xs) none =
    let first : p x ≡ false = none 0 x (omega arith) in
    let rest = map_none p f xs (λ j d h. none (suc j) d (omega arith)) in
    rw first (ap (λ ys. x ∷ ys) rest)

-- where one place passes alone, only that one changes
pub map_one : {X : Type 0} (p : X → Bool) (f : X → X) (xs : List X) (i : ℕ) (d : X) → ((j : ℕ) (e : X) → j < length xs → j ≢ i → p (get_or xs j e) ≡ false) → i < length xs → p (get_or xs i d) ≡ true → map (change p f) xs ≡ set xs i (f (get_or xs i d))
map_one p f [] i d others h t = absurd (omega arith)
map_one p f (x ∷ xs) zero d others h t =
    let rest = map_none p f xs (λ j e k. others (suc j) e (omega arith) (λ q. omega arith)) in
    rw t (ap (λ ys. f x ∷ ys) rest)
map_one p f (x ∷ xs) (suc i) d others h t =
    let first : p x ≡ false = others 0 x (omega arith) (λ q. omega arith) in
    let rest = map_one p f xs i d (λ j e k n. others (suc j) e (omega arith) (λ q. n (omega arith))) (omega arith) t in
    rw first (ap (λ ys. x ∷ ys) rest)

-- the place that was found holds what passes, and is what `find` finds
pub record IsFound {X : Type 0} (p : X → Bool) (xs : List X) (i : ℕ) : Type 0 where
  pub within : i < length xs
  pub passes : (d : X) → p (get_or xs i d) ≡ true
  pub first : (d : X) → find p xs ≡ Some (get_or xs i d)

found_if : {X : Type 0} (p : X → Bool) (xs : List X) (i : ℕ) (b : Bool) → ltb (position_or_len p xs) (length xs) ≡ b → cond b (Some (position_or_len p xs)) None ≡ Some i → IsFound p xs i
found_if p xs i false e h = absurd (cc)
found_if p xs i true e h =
    let same : position_or_len p xs ≡ i = cc in
    let within : position_or_len p xs < length xs = search (rules, tests) in
    subst (IsFound p xs) same (record {
      within = within;
      passes = λ d. passes_at_first p xs d within;
      first = λ d. find_at p xs ∙ slice_get-get_or xs (position_or_len p xs) d within;
    })

pub found : {X : Type 0} (p : X → Bool) (xs : List X) (i : ℕ) → position p xs ≡ Some i → IsFound p xs i
found p xs i h = found_if p xs i _ refl h

missed_if : {X : Type 0} (p : X → Bool) (xs : List X) (b : Bool) → ltb (position_or_len p xs) (length xs) ≡ b → cond b (Some (position_or_len p xs)) None ≡ None → find p xs ≡ None
missed_if p xs true e h = absurd (cc)
missed_if p xs false e h =
    let past : length xs ≤ position_or_len p xs = search (rules, tests) in
    find_at p xs ∙ slice_get_past xs (position_or_len p xs) past

-- where no place was found, `find` finds none
pub missed : {X : Type 0} (p : X → Bool) (xs : List X) → position p xs ≡ None → find p xs ≡ None
missed p xs h = missed_if p xs _ refl h
