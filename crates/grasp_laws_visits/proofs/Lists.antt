-- Lists of seats: what holds of each holds of one, and of all once one is another.
use Rattle.std.proofs.Common.{◌≡◌, ◌≢◌, refl, sym, ap, ◌∙◌, subst, ℕ, zero, suc, ◌==◌, ◌&&◌, ◌++◌, not, Bool, true, false, cond, filter, get_or, List, [], ◌∷◌, slice_get, slice_set, Option, Some, None}
use Rattle.std.proofs.lemmas.Bool.{eqb-true, not-true}
use Rattle.std.proofs.lemmas.List.Quantifiers.{position-Some}
use Rattle.std.proofs.lemmas.Option.{none-some, same_Some, slice_get-get_or}
use Rattle.std.specs.List.{AllByRecursion}
use Rattle.grasp_crew.specs.Seats.{SeatState, is_seat_of}
use Rattle.grasp_laws_visits.specs.Calls.{AreApart}
use Rattle.grasp_service_visits.specs.Each.{each_after}
use Rattle.grasp_service_visits.specs.Visits.{place_of, seat_by, seat_of, seats_by, seats_where}

pub all_append : {A : Type 0} (P : A → Type 0) (xs ys : List A) → AllByRecursion P xs → AllByRecursion P ys → AllByRecursion P (xs ++ ys)
all_append P [] ys a b = b
all_append P (x ∷ xs) ys a b = (a.0, all_append P xs ys a.1 b)

pub all_last : {A : Type 0} (P : A → Type 0) (xs ys : List A) → AllByRecursion P (xs ++ ys) → AllByRecursion P ys
all_last P [] ys a = a
all_last P (x ∷ xs) ys a = all_last P xs ys a.1

pub all_map : {A : Type 0} (P Q : A → Type 0) (xs : List A) → ((x : A) → P x → Q x) → AllByRecursion P xs → AllByRecursion Q xs
all_map P Q [] f a = tt
all_map P Q (x ∷ xs) f a = (f x a.0, all_map P Q xs f a.1)

pub at_place : {A : Type 0} (P : A → Type 0) (xs : List A) (place : ℕ) (x : A) → AllByRecursion P xs → slice_get xs place ≡ Some x → P x
at_place P [] place x all e = absurd (none-some x e)
at_place P (y ∷ xs) zero x all e = subst P (same_Some y x e) all.0
at_place P (y ∷ xs) (suc place) x all e = at_place P xs place x all.1 e

pub set_all : {A : Type 0} (P : A → Type 0) (xs : List A) (place : ℕ) (t : A) → P t → AllByRecursion P xs → AllByRecursion P (slice_set xs place t)
set_all P [] place t h all = tt
set_all P (x ∷ xs) zero t h all = (h, all.1)
set_all P (x ∷ xs) (suc place) t h all = (all.0, set_all P xs place t h all.1)

kept_if : {A : Type 0} (P : A → Type 0) (b : Bool) (x : A) (xs : List A) → P x → AllByRecursion P xs → AllByRecursion P (cond b (x ∷ xs) xs)
kept_if P true x xs h all = (h, all)
kept_if P false x xs h all = all

pub filter_all : {A : Type 0} (P : A → Type 0) (p : A → Bool) (xs : List A) → AllByRecursion P xs → AllByRecursion P (filter p xs)
filter_all P p [] all = tt
filter_all P p (x ∷ xs) all = kept_if P (p x) x (filter p xs) all.0 (filter_all P p xs all.1)

-- ---- the seat of a visitor

-- what holds of each seat holds of it
pub seat_is : (P : SeatState → Type 0) (visitor : ℕ) (seats : List SeatState) (s : SeatState) → AllByRecursion P seats → seat_of visitor seats ≡ Some s → P s
seat_is P visitor seats s all e = by_place (place_of visitor seats) e where
  by_place : (o : Option ℕ) → seat_by seats o ≡ Some s → P s
  by_place None f = absurd (none-some s f)
  by_place (Some place) f = at_place P seats place s all f

pub both_true : (a b : Bool) → (a && b) ≡ true → (a ≡ true) × (b ≡ true)
both_true true b e = (refl, e)
both_true false b e = (e, absurd (false_true e)) where
  false_true : false ≡ true → ⊥
  false_true p = cc

-- it is that visitor's, and it isn't left
pub record IsFound (visitor : ℕ) (s : SeatState) : Type 0 where
  pub own : s.visitor ≡ visitor
  pub here : s.leaving ≡ false

pub found_at : (visitor : ℕ) (seats : List SeatState) (place : ℕ) (s : SeatState) → place_of visitor seats ≡ Some place → slice_get seats place ≡ Some s → IsFound visitor s
found_at visitor seats place s at there =
    let p = position-Some (is_seat_of visitor) seats place s at in
    let same : s ≡ get_or seats place s = same_Some s (get_or seats place s) (sym there ∙ slice_get-get_or seats place s p.0) in
    let own : is_seat_of visitor s ≡ true = ap (is_seat_of visitor) same ∙ p.1 in
    let both : ((s.visitor == visitor) ≡ true) × (not s.leaving ≡ true) = both_true (s.visitor == visitor) (not s.leaving) own in
    record { own = eqb-true s.visitor visitor both.0; here = not-true s.leaving both.1 }

pub found : (visitor : ℕ) (seats : List SeatState) (s : SeatState) → seat_of visitor seats ≡ Some s → IsFound visitor s
found visitor seats s e = by_place (place_of visitor seats) refl e where
  by_place : (o : Option ℕ) → place_of visitor seats ≡ o → seat_by seats o ≡ Some s → IsFound visitor s
  by_place None at f = absurd (none-some s f)
  by_place (Some place) at f = found_at visitor seats place s at f

-- the seats, where the one at this place is another: so are all, if that one is
pub by_all : (P : SeatState → Type 0) (f : SeatState → SeatState) (seats : List SeatState) (o : Option ℕ) → ((s : SeatState) → P s → P (f s))
    → AllByRecursion P seats → AllByRecursion P (seats_by f seats o)
by_all P f seats None h all = all
by_all P f seats (Some place) h all = by_seat (slice_get seats place) refl where
  by_seat : (o : Option SeatState) → slice_get seats place ≡ o → AllByRecursion P (seats_where f seats place o)
  by_seat None e = all
  by_seat (Some s) e = set_all P seats place (f s) (h s (at_place P seats place s all e)) all

-- ---- seats of different visitors

flipped : (a b : ℕ) → a ≢ b → b ≢ a
flipped a b differ e = differ (sym e)

-- one seat is another, and what holds of the others may be another thing than before
pub set_others : (P Q : SeatState → Type 0) (seats : List SeatState) (place : ℕ) (s t : SeatState) → slice_get seats place ≡ Some s → AreApart seats
    → AllByRecursion P seats → Q t → ((x : SeatState) → x.visitor ≢ s.visitor → P x → Q x) → AllByRecursion Q (slice_set seats place t)
set_others P Q [] place s t e apart all h others = absurd (none-some s e)
set_others P Q (x ∷ xs) zero s t e apart all h others = (h, each xs apart.0 all.1) where
  each : (ys : List SeatState) → AllByRecursion (λ y. y.visitor ≢ x.visitor) ys → AllByRecursion P ys → AllByRecursion Q ys
  each [] a b = tt
  each (y ∷ ys) a b = (others y (subst (λ (z : SeatState). y.visitor ≢ z.visitor) (same_Some x s e) a.0) b.0, each ys a.1 b.1)
set_others P Q (x ∷ xs) (suc place) s t e apart all h others = (
  others x (flipped s.visitor x.visitor (at_place (λ (y : SeatState). y.visitor ≢ x.visitor) xs place s apart.0 e)) all.0,
  set_others P Q xs place s t e apart.1 all.1 h others,
)

pub set_apart : (seats : List SeatState) (place : ℕ) (s t : SeatState) → slice_get seats place ≡ Some s → t.visitor ≡ s.visitor → AreApart seats
    → AreApart (slice_set seats place t)
set_apart [] place s t e same apart = tt
set_apart (x ∷ xs) zero s t e same apart =
    (subst (λ (n : ℕ). AllByRecursion (λ (y : SeatState). y.visitor ≢ n) xs) (ap (λ (z : SeatState). z.visitor) (same_Some x s e) ∙ sym same) apart.0, apart.1)
set_apart (x ∷ xs) (suc place) s t e same apart = (
  set_all (λ (y : SeatState). y.visitor ≢ x.visitor) xs place t
      (subst (λ (n : ℕ). n ≢ x.visitor) (sym same) (at_place (λ (y : SeatState). y.visitor ≢ x.visitor) xs place s apart.0 e)) apart.0,
  set_apart xs place s t e same apart.1,
)

pub append_apart : (seats : List SeatState) (t : SeatState) → AllByRecursion (λ (x : SeatState). t.visitor ≢ x.visitor) seats → AreApart seats → AreApart (seats ++ t ∷ [])
append_apart [] t all apart = (tt, tt)
append_apart (x ∷ xs) t all apart =
    (all_append (λ (y : SeatState). y.visitor ≢ x.visitor) xs (t ∷ []) apart.0 (all.0, tt), append_apart xs t all.1 apart.1)

kept_apart : (b : Bool) (x : SeatState) (xs : List SeatState) → AllByRecursion (λ (y : SeatState). y.visitor ≢ x.visitor) xs → AreApart xs → AreApart (cond b (x ∷ xs) xs)
kept_apart true x xs all apart = (all, apart)
kept_apart false x xs all apart = apart

pub filter_apart : (p : SeatState → Bool) (seats : List SeatState) → AreApart seats → AreApart (filter p seats)
filter_apart p [] apart = tt
filter_apart p (x ∷ xs) apart =
    kept_apart (p x) x (filter p xs) (filter_all (λ (y : SeatState). y.visitor ≢ x.visitor) p xs apart.0) (filter_apart p xs apart.1)

module _ {B : Type 0} (f : SeatState → B → SeatState) (same : (s : SeatState) (y : B) → (f s y).visitor ≡ s.visitor) where
  each_visitor : (n : ℕ) (seats : List SeatState) (ys : List B) → AllByRecursion (λ (x : SeatState). x.visitor ≢ n) seats
      → AllByRecursion (λ (x : SeatState). x.visitor ≢ n) (each_after f seats ys)
  each_visitor n [] ys all = tt
  each_visitor n (s ∷ seats) [] all = all
  each_visitor n (s ∷ seats) (y ∷ ys) all = (subst (λ (m : ℕ). m ≢ n) (sym (same s y)) all.0, each_visitor n seats ys all.1)

  pub each_apart : (seats : List SeatState) (ys : List B) → AreApart seats → AreApart (each_after f seats ys)
  each_apart [] ys apart = tt
  each_apart (s ∷ seats) [] apart = apart
  each_apart (s ∷ seats) (y ∷ ys) apart = (
    subst (λ (n : ℕ). AllByRecursion (λ (x : SeatState). x.visitor ≢ n) (each_after f seats ys)) (sym (same s y)) (each_visitor s.visitor seats ys apart.0),
    each_apart seats ys apart.1,
  )
