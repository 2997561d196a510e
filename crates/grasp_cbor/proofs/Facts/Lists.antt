-- Facts of lists: what is filtered, mapped, put at the end or found.
use Rattle.std.proofs.Common.{List, ℕ, ◌<◌, length, get_or, ◌≡◌, [], arith, ◌∷◌, zero, refl, suc, Bool, true, filter, ap, ◌∙◌, subst, cond, sym, false, All, ◌≤◌, not, map, ◌++◌, ◌+◌, None, Some, ◌||◌, slice_get, is_some}
use Rattle.std.proofs.lemmas.Bool.{or_parts, or_from}
use Rattle.std.proofs.lemmas.List.Filters.{length-filter_both}
use Rattle.std.proofs.lemmas.Slice.Eq.{bytes_eq-Decides}
use Rattle.std.specs.List.{list_any}
use Rattle.std.specs.Map.{lookup}
use Rattle.std.specs.Prelude.{slice_index_or, Contains, find}
use Rattle.std.specs.Str.{bytes_eq}

-- the element at a place within a list is the one there, whatever is taken where there is none
pub stands_at : {X : Type 0} (xs : List X) (k : ℕ) (d : X) → k < length xs → slice_index_or xs k (get_or xs k d) ≡ get_or xs k d
stands_at [] k d h = absurd (omega arith)
stands_at (x ∷ xs) zero d h = refl
stands_at (x ∷ xs) (suc k) d h = stands_at xs k d (omega arith)

-- an element that passes the test stays in the filtered list
pub filter_keeps : {X : Type 0} (p : X → Bool) (xs : List X) (k : ℕ) (x : X) → k < length xs → slice_index_or xs k x ≡ x → p x ≡ true → Contains (filter p xs) x
filter_keeps p [] k x h e t = absurd (omega arith)
filter_keeps p (y ∷ ys) zero x h e t =
    let there : p y ≡ true = ap p e ∙ t in
    subst (λ b. Contains (cond b (y ∷ filter p ys) (filter p ys)) x) (sym there) (0, omega arith, e)
filter_keeps p (y ∷ ys) (suc k) x h e t =
    let rest = filter_keeps p ys k x (omega arith) e t in
    elim (p y) as (λ b. Contains (cond b (y ∷ filter p ys) (filter p ys)) x) [ true ↦ (suc rest.0, omega (arith, rest.1), rest.2) | false ↦ rest ]

-- where each element that has a property passes the test, it stays in the filtered list
pub all_stay : {X : Type 0} (p : X → Bool) (P : X → Type 0) → ((x : X) → P x → p x ≡ true) → (xs : List X) → All (λ x. P x → Contains (filter p xs) x) xs
all_stay p P passes xs = λ k d h holds. filter_keeps p xs k (get_or xs k d) h (stands_at xs k d h) (passes (get_or xs k d) holds)

-- two lists that are the same begin with the same number
pub same_first : (a b : ℕ) (x y : List ℕ) → a ∷ x ≡ b ∷ y → a ≡ b
same_first a b x y e = cc

-- a filtered list is no longer
pub length_filter : {X : Type 0} (p : X → Bool) (xs : List X) → length (filter p xs) ≤ length xs
length_filter p xs = omega (arith, length-filter_both p (λ x. not (p x)) (λ _. refl) xs)

-- a filtered list is within each limit of the list
pub few_filter : {X : Type 0} (p : X → Bool) (xs : List X) (most : ℕ) → length xs ≤ most → length (filter p xs) ≤ most
few_filter p xs most h = omega (arith, length_filter p xs)

-- a mapped list is as long
pub length_map : {X Y : Type 0} (f : X → Y) (xs : List X) → length (map f xs) ≡ length xs
length_map f [] = refl
length_map f (x ∷ xs) = ap suc (length_map f xs)

-- a map of two lists, one after the other
pub map_append : {X Y : Type 0} (f : X → Y) (xs ys : List X) → map f (xs ++ ys) ≡ map f xs ++ map f ys
map_append f [] ys = refl
map_append f (x ∷ xs) ys = ap (λ rest. f x ∷ rest) (map_append f xs ys)

-- one element more at the end
pub length_push : {X : Type 0} (xs : List X) (x : X) → length (xs ++ x ∷ []) ≡ length xs + 1
length_push [] x = refl
length_push (y ∷ xs) x = let rest = length_push xs x in omega (arith, rest)

-- filtering twice is filtering once
pub filter_twice : {X : Type 0} (p : X → Bool) (xs : List X) → filter p (filter p xs) ≡ filter p xs
filter_twice p [] = refl
filter_twice p (x ∷ xs) = by (p x) refl (filter_twice p xs)
  where
    by : (b : Bool) → p x ≡ b → filter p (filter p xs) ≡ filter p xs → filter p (cond b (x ∷ filter p xs) (filter p xs)) ≡ cond b (x ∷ filter p xs) (filter p xs)
    by true e rest = ap (λ b. cond b (x ∷ filter p (filter p xs)) (filter p (filter p xs))) e ∙ ap (λ zs. x ∷ zs) rest
    by false e rest = rest

-- where no element passes a test, none does in the filtered list
pub any_filter : {X : Type 0} (t p : X → Bool) (xs : List X) → list_any t xs ≡ false → list_any t (filter p xs) ≡ false
any_filter t p [] e = e
any_filter t p (x ∷ xs) e =
    let h = or_parts (t x) (list_any t xs) e in
    let rest = any_filter t p xs h.1 in
    elim (p x) as (λ b. list_any t (cond b (x ∷ filter p xs) (filter p xs)) ≡ false) [ true ↦ or_from (t x) (list_any t (filter p xs)) h.0 rest | false ↦ rest ]

-- a filter of two lists, one after the other
pub filter_append : {X : Type 0} (p : X → Bool) (xs ys : List X) → filter p (xs ++ ys) ≡ filter p xs ++ filter p ys
filter_append p [] ys = refl
filter_append p (x ∷ xs) ys = let rest = filter_append p xs ys in
    elim (p x) as (λ b. cond b (x ∷ filter p (xs ++ ys)) (filter p (xs ++ ys)) ≡ cond b (x ∷ filter p xs) (filter p xs) ++ filter p ys)
    [ true ↦ ap (λ zs. x ∷ zs) rest | false ↦ rest ]

-- where nothing is found, no element passes the test
pub missed : {X : Type 0} (p : X → Bool) (xs : List X) → find p xs ≡ None → list_any p xs ≡ false
missed p [] none = refl
missed p (x ∷ xs) none = by (p x) none (missed p xs)
  where
    by : (b : Bool) → cond b (Some x) (find p xs) ≡ None → (find p xs ≡ None → list_any p xs ≡ false) → (b || list_any p xs) ≡ false
    by true e rest = absurd (cc)
    by false e rest = rest e

-- the element put at the end stands there
pub get_end : {X : Type 0} (xs : List X) (y : X) → slice_get (xs ++ y ∷ []) (length xs) ≡ Some y
get_end [] y = refl
get_end (x ∷ xs) y = get_end xs y

-- what holds of all elements holds of the first
pub all_first : {X : Type 0} (P : X → Type 0) (x : X) (xs : List X) → All P (x ∷ xs) → P x
all_first P x xs h = h 0 x (omega arith)

-- what holds of all elements holds of those after the first
pub all_rest : {X : Type 0} (P : X → Type 0) (x : X) (xs : List X) → All P (x ∷ xs) → All P xs
all_rest P x xs h k d lt = h (suc k) d (omega arith)

-- two words that are the same pass the test
pub same_word : (word expected : List ℕ) → word ≡ expected → bytes_eq word expected ≡ true
same_word word expected e = (bytes_eq-Decides word expected).1 e

-- a key is found just where an entry passes its test
pub is_some_lookup : {K V : Type 0} (test : K → Bool) (es : List (K × V)) → is_some (lookup test es) ≡ list_any (λ e. test e.0) es
is_some_lookup test [] = refl
is_some_lookup test (e ∷ es) =
    elim (test e.0) as (λ b. is_some (cond b (Some e.1) (lookup test es)) ≡ (b || list_any (λ x. test x.0) es)) [ true ↦ refl | false ↦ is_some_lookup test es ]
