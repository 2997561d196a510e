-- The parts of an array, read one after the other.
use Rattle.std.proofs.Common.{◌≡◌, ◌≤◌, ◌+◌, ◌-◌, ◌==◌, ℕ, zero, suc, Option, Some, None, IfSome, option_map, List, [], ◌∷◌, All, map, refl, ap, subst, ◌∙◌, arith, inl, inr, length, take, drop, slice_get, drop_of_length-le}
use Rattle.std.proofs.lemmas.Bool.{eqb-true}
use Rattle.std.proofs.lemmas.Option.{same_Some, none-some}
use Rattle.std.specs.List.{slice_range}
use Rattle.grasp_cbor.proofs.Behind.{drop_got}
use Rattle.grasp_cbor.proofs.Facts.Lists.{all_first, all_rest}
use Rattle.grasp_cbor.proofs.Takes.{chosen}
use Rattle.grasp_cbor.specs.DataItem.{DataItem, unsigned, data_items}
use Rattle.grasp_cbor.specs.Encodable.{IsEncodable, AreEncodable}
use Rattle.grasp_types.specs.Objective.{optional}
use Rattle.grasp_wire.specs.Reading.{◌>>=◌, at_place, number_in, last_at, each, one_or_more}
use Rattle.grasp_wire.proofs.Scalars.{Finds, Again, some_bind, number_finds}

pub encodable_at : (ts : List DataItem) (n : ℕ) (t : DataItem) → AreEncodable (data_items ts) → slice_get ts n ≡ Some t → IsEncodable t
encodable_at [] n t enc h = absurd (none-some t h)
encodable_at (u ∷ ts) zero t enc h = subst IsEncodable (same_Some u t h) enc.0
encodable_at (u ∷ ts) (suc n) t enc h = encodable_at ts n t enc.1 h

pub encodable_drop : (n : ℕ) (ts : List DataItem) → AreEncodable (data_items ts) → AreEncodable (data_items (drop n ts))
encodable_drop zero ts enc = enc
encodable_drop (suc n) [] enc = enc
encodable_drop (suc n) (t ∷ ts) enc = encodable_drop n ts enc.1

pub encodable_take : (n : ℕ) (ts : List DataItem) → AreEncodable (data_items ts) → AreEncodable (data_items (take n ts))
encodable_take zero ts enc = tt
encodable_take (suc n) [] enc = enc
encodable_take (suc n) (t ∷ ts) enc = (enc.0, encodable_take n ts enc.1)

pub encodable_range : (ts : List DataItem) (from to : ℕ) → AreEncodable (data_items ts) → AreEncodable (data_items (slice_range ts from to))
encodable_range ts from to enc = encodable_take (to - from) (drop from ts) (encodable_drop from ts enc)

-- the part at this place is what is read from it
pub step : {X : Type 0} (read : DataItem → Option X) (item : X → DataItem) (Is : X → Type 0) → Finds read item Is → (ts : List DataItem) (n : ℕ) (x : X)
    → AreEncodable (data_items ts) → at_place read ts n ≡ Some x → (drop n ts ≡ item x ∷ drop (n + 1) ts) × Is x
step read item Is finds ts n x enc h =
    let t = some_bind (slice_get ts n) read x h in
    let f = finds t.0 x (encodable_at ts n t.0 enc t.1) t.2 in
    (drop_got ts n t.0 t.1 ∙ ap (λ u. u ∷ drop (n + 1) ts) f.0, f.1)

pub first_is : (ts : List DataItem) (k : ℕ) → AreEncodable (data_items ts) → at_place number_in ts 0 ≡ Some k → ts ≡ unsigned k ∷ drop 1 ts
first_is ts k enc h = (step number_in unsigned _ number_finds ts 0 k enc h).0

pub ends : {X : Type 0} (ts : List X) (n : ℕ) → length ts ≡ n → drop n ts ≡ []
ends ts n is = drop_of_length-le ts (omega arith)

-- one after the other
pub and_then : {X : Type 0} (x : X) (xs ys zs : List X) → xs ≡ x ∷ ys → ys ≡ zs → xs ≡ x ∷ zs
and_then x xs ys zs e f = e ∙ ap (λ us. x ∷ us) f

-- the last part, where it is there
pub last_found : {X : Type 0} (read : DataItem → Option X) (item : X → DataItem) (Is : X → Type 0) → Finds read item Is → (ts : List DataItem) (n : ℕ) (o : Option X)
    → AreEncodable (data_items ts) → last_at read ts n ≡ Some o → (drop n ts ≡ optional (option_map item o)) × IfSome o Is
last_found read item Is finds ts n o enc h = elim (chosen (length ts == n) (Some None) _ (Some o) h) [
  | inl p ↦ subst (λ v. (drop n ts ≡ optional (option_map item v)) × IfSome v Is) (same_Some None o p.1) (ends ts n (eqb-true _ n p.0), tt)
  | inr p ↦ elim (chosen (length ts == n + 1) (at_place read ts n >>= λ x. Some (Some x)) None (Some o) p.1) [
    | inl q ↦
        let x = some_bind (at_place read ts n) (λ y. Some (Some y)) o q.1 in
        let s = step read item Is finds ts n x.0 enc x.1 in
        subst (λ v. (drop n ts ≡ optional (option_map item v)) × IfSome v Is) (same_Some (Some x.0) o x.2)
        (and_then (item x.0) (drop n ts) (drop (n + 1) ts) [] s.0 (ends ts (n + 1) (eqb-true _ (n + 1) q.0)), s.1)
    | inr q ↦ absurd (none-some o q.1)
  ]
]

-- each of the items

all_cons : {X : Type 0} (P : X → Type 0) (x : X) (xs : List X) → P x → All P xs → All P (x ∷ xs)
all_cons P x xs p h zero d lt = p
all_cons P x xs p h (suc k) d lt = h k d (omega arith)

each_found : {X : Type 0} (read : DataItem → Option X) (item : X → DataItem) (Is : X → Type 0) → Finds read item Is → (ts : List DataItem) (xs : List X)
    → AreEncodable (data_items ts) → each read ts ≡ Some xs → (ts ≡ map item xs) × All Is xs
each_found read item Is finds [] xs enc h =
    subst (λ v. ([] ≡ map item v) × All Is v) (same_Some [] xs h) (refl, λ k d lt. absurd (omega arith))
each_found read item Is finds (t ∷ ts) xs enc h =
    let x = some_bind (read t) _ xs h in
    let ys = some_bind (each read ts) _ xs x.2 in
    let f = finds t x.0 enc.0 x.1 in
    let g = each_found read item Is finds ts ys.0 enc.1 ys.1 in
    subst (λ v. (t ∷ ts ≡ map item v) × All Is v) (same_Some (x.0 ∷ ys.0) xs ys.2) ((λ i. f.0 i ∷ g.0 i), all_cons Is x.0 ys.0 f.1 g.1)

each_again : {X : Type 0} (read : DataItem → Option X) (item : X → DataItem) (Is : X → Type 0) → Again read item Is → (xs : List X) → All Is xs → each read (map item xs) ≡ Some xs
each_again read item Is again [] h = refl
each_again read item Is again (x ∷ xs) h =
    ap (λ o. o >>= λ y. each read (map item xs) >>= λ ys. Some (y ∷ ys)) (again x (all_first Is x xs h))
    ∙ ap (λ o. o >>= λ ys. Some (x ∷ ys)) (each_again read item Is again xs (all_rest Is x xs h))

some_items : {X : Type 0} (item : X → DataItem) (t : DataItem) (ts : List DataItem) (xs : List X) → t ∷ ts ≡ map item xs → 1 ≤ length xs
some_items item t ts [] e = absurd (cc)
some_items item t ts (x ∷ xs) e = omega arith

pub some_found : {X : Type 0} (read : DataItem → Option X) (item : X → DataItem) (Is : X → Type 0) → Finds read item Is → (ts : List DataItem) (xs : List X)
    → AreEncodable (data_items ts) → one_or_more read ts ≡ Some xs → (ts ≡ map item xs) × (1 ≤ length xs) × All Is xs
some_found read item Is finds [] xs enc h = absurd (none-some xs h)
some_found read item Is finds (t ∷ ts) xs enc h =
    let f = each_found read item Is finds (t ∷ ts) xs enc h in
    (f.0, some_items item t ts xs f.0, f.1)

pub some_again : {X : Type 0} (read : DataItem → Option X) (item : X → DataItem) (Is : X → Type 0) → Again read item Is → (xs : List X) → 1 ≤ length xs → All Is xs
    → one_or_more read (map item xs) ≡ Some xs
some_again read item Is again [] some h = absurd (omega arith)
some_again read item Is again (x ∷ xs) some h = each_again read item Is again (x ∷ xs) h
