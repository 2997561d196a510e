-- Lists of which something holds, and their parts.
use Rattle.std.proofs.Common.{◌≡◌, zero, suc, ◌+◌, ◌≤◌, Bool, true, false, cond, List, [], ◌∷◌, ◌++◌, length, filter, get_or, ap, subst, arith, length-append}
use Rattle.std.specs.Prelude.{All, AllPairs}
use Rattle.std.proofs.lemmas.List.{get_or_append_left, get_or-append-add}
use Rattle.std.proofs.lemmas.List.Elements.{All-append, filter-append}
use Rattle.std.proofs.lemmas.List.Quantifiers.{all_pairs_push}

-- what holds of all holds of the first ones
pub all_front : {A : Type 0} (P : A → Type 0) (xs ys : List A) → All P (xs ++ ys) → All P xs
all_front P xs ys h k d lt = subst P (get_or_append_left xs ys d k lt) (h k d (omega (arith, length-append xs ys)))

pub all_behind : {A : Type 0} (P : A → Type 0) (xs ys : List A) → All P (xs ++ ys) → All P ys
all_behind P xs ys h k d lt = subst P (get_or-append-add xs ys k d) (h (length xs + k) d (omega (arith, length-append xs ys)))

pub pairs_front : {A : Type 0} (R : A → A → Type 0) (xs ys : List A) → AllPairs R (xs ++ ys) → AllPairs R xs
pairs_front R xs ys h i j d ij lt =
    let first : R (get_or (xs ++ ys) i d) (get_or (xs ++ ys) j d) = h i j d ij (omega (arith, length-append xs ys)) in
    let one : R (get_or xs i d) (get_or (xs ++ ys) j d) = subst (λ a. R a (get_or (xs ++ ys) j d)) (get_or_append_left xs ys d i (omega arith)) first in
    subst (λ b. R (get_or xs i d) b) (get_or_append_left xs ys d j lt) one

-- what holds of the last one
pub all_last : {A : Type 0} (P : A → Type 0) (xs : List A) (y : A) → All P (xs ++ y ∷ []) → P y
all_last P xs y h = all_behind P xs (y ∷ []) h 0 y (omega arith)

pub pairs_last : {A : Type 0} (R : A → A → Type 0) (xs : List A) (y : A) → AllPairs R (xs ++ y ∷ []) → All (λ x. R x y) xs
pairs_last R xs y h k d lt =
    let pair : R (get_or (xs ++ y ∷ []) k d) (get_or (xs ++ y ∷ []) (length xs + 0) d) = h k (length xs + 0) d (omega arith) (omega (arith, length-append xs (y ∷ []))) in
    let one : R (get_or xs k d) (get_or (xs ++ y ∷ []) (length xs + 0) d) = subst (λ a. R a (get_or (xs ++ y ∷ []) (length xs + 0) d)) (get_or_append_left xs (y ∷ []) d k lt) pair in
    subst (λ b. R (get_or xs k d) b) (get_or-append-add xs (y ∷ []) 0 d) one

all_one : {A : Type 0} (P : A → Type 0) (y : A) → P y → All P (y ∷ [])
all_one P y p zero d lt = p
all_one P y p (suc k) d lt = absurd (omega arith)

-- P holds of each item of a list with one more, where it holds of each of the list and of the new one
pub all_push : {A : Type 0} (P : A → Type 0) (xs : List A) (y : A) → All P xs → P y → All P (xs ++ y ∷ [])
all_push P xs y h p = All-append P xs (y ∷ []) h (all_one P y p)

pub pairs_push : {A : Type 0} (R : A → A → Type 0) (xs : List A) (y : A) → AllPairs R xs → All (λ x. R x y) xs → AllPairs R (xs ++ y ∷ [])
pairs_push R xs y h p = all_pairs_push R xs y h (λ k d lt. p k d lt)

-- ---- how many are kept

pub kept_front : {A : Type 0} (p : A → Bool) (xs ys : List A) → length (filter p xs) ≤ length (filter p (xs ++ ys))
kept_front p xs ys = omega (arith, ap length (filter-append p xs ys), length-append (filter p xs) (filter p ys))

pub kept_last : {A : Type 0} (p : A → Bool) (xs : List A) (y : A) → p y ≡ true → length (filter p (xs ++ y ∷ [])) ≡ length (filter p xs) + 1
kept_last p xs y e = omega (arith, ap length (filter-append p xs (y ∷ [])), length-append (filter p xs) (filter p (y ∷ [])), ap length (ap (λ (b : Bool). cond b (y ∷ []) []) e))

pub dropped_last : {A : Type 0} (p : A → Bool) (xs : List A) (y : A) → p y ≡ false → length (filter p (xs ++ y ∷ [])) ≡ length (filter p xs)
dropped_last p xs y e = omega (arith, ap length (filter-append p xs (y ∷ [])), length-append (filter p xs) (filter p (y ∷ [])), ap length (ap (λ (b : Bool). cond b (y ∷ []) []) e))
