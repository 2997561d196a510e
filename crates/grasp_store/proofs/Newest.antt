-- Which of two slots is current.
use Rattle.std.proofs.Common.{◌≡◌, ◌⊎◌, inl, inr, ℕ, ◌<◌, ◌≤◌, Bool, if◌then◌else◌, List, Option, None, Some, refl, sym, ◌∙◌, ap, subst, arith, lt-ltb, le-ltb}
use Rattle.std.specs.Prelude.{is_some}
use Rattle.grasp_store.specs.Current.{IsNewest, IsCurrent, newer, current_place, current_in, saved_at}
use Rattle.grasp_store.specs.Looking.{chosen}
use Rattle.grasp_store.specs.Saving.{next_place}
use Rattle.grasp_store.specs.Slots.{Saved, other, slot_in}
use Rattle.grasp_store.specs.declared.place.Place.{Place}
use Rattle.grasp_store.specs.declared.place.Place.TheVariants.{First, Second}

pub twice : (place : Place) → other (other place) ≡ place
twice First = refl
twice Second = refl

-- what is saved at a place is the one of the two that the place chooses
pub saved_chosen : (b : List ℕ) (place : Option Place) → saved_at b place ≡ chosen (slot_in b First) (slot_in b Second) place
saved_chosen b None = refl
saved_chosen b (Some First) = refl
saved_chosen b (Some Second) = refl

pub current_chosen : (b : List ℕ) → current_in b ≡ chosen (slot_in b First) (slot_in b Second) (current_place b)
unfolding current_in
current_chosen b = saved_chosen b (current_place b)

-- ---- two slots

-- what the second holds is older
newer_first : (x : Saved) (b : Option Saved) → ((y : Saved) → b ≡ Some y → y.number < x.number) → newer (Some x) b ≡ Some First
newer_first x None older = refl
newer_first x (Some y) older = ap (λ (t : Bool). if t then Some Second else Some First) (le-ltb x.number y.number (below (older y refl)))
  where
    below : y.number < x.number → y.number ≤ x.number
    below h = omega (arith, h)

-- what the first holds is older
newer_second : (x : Saved) (a : Option Saved) → ((y : Saved) → a ≡ Some y → y.number < x.number) → newer a (Some x) ≡ Some Second
newer_second x None older = refl
newer_second x (Some y) older = ap (λ (t : Bool). if t then Some Second else Some First) (lt-ltb y.number x.number (older y refl))

newest_place_of : (a b : Option Saved) (place : Place) (x : Saved) → chosen a b (Some place) ≡ Some x → ((y : Saved) → chosen a b (Some (other place)) ≡ Some y → y.number < x.number)
    → newer a b ≡ Some place
newest_place_of a b First x holds older = ap (λ (o : Option Saved). newer o b) holds ∙ newer_first x b older
newest_place_of a b Second x holds older = ap (λ (o : Option Saved). newer a o) holds ∙ newer_second x a older

-- the newest is where the current one is
pub newest_place : (b : List ℕ) (place : Place) (x : Saved) → IsNewest b place x → current_place b ≡ Some place
newest_place b place x newest =
    newest_place_of (slot_in b First) (slot_in b Second) place x (sym (saved_chosen b (Some place)) ∙ newest.holds) (λ y is. newest.older y (saved_chosen b (Some (other place)) ∙ is))

pub newest_in : (b : List ℕ) (place : Place) (x : Saved) → IsNewest b place x → current_in b ≡ Some x
unfolding current_in
newest_in b place x newest = ap (saved_at b) (newest_place b place x newest) ∙ newest.holds

pub none_place : (b : List ℕ) → slot_in b First ≡ None → slot_in b Second ≡ None → current_place b ≡ None
none_place b first second = ap (λ (o : Option Saved). newer o (slot_in b Second)) first ∙ ap (λ (o : Option Saved). newer None o) second

pub none_in : (b : List ℕ) → slot_in b First ≡ None → slot_in b Second ≡ None → current_in b ≡ None
unfolding current_in
none_in b first second = ap (saved_at b) (none_place b first second)

-- what is current is so as the function says
pub current_is : (b : List ℕ) (o : Option Saved) → IsCurrent b o → current_in b ≡ o
current_is b None none = none_in b none.0 none.1
current_is b (Some x) newest = newest_in b newest.0 x newest.1

-- ---- a disk that can be opened

-- nothing is current, or a slot is
pub record IsBlankDisk (b : List ℕ) : Type 0 where
  pub first : slot_in b First ≡ None
  pub second : slot_in b Second ≡ None
  pub place : current_place b ≡ None
  pub saved : current_in b ≡ None

pub record IsUsedDisk (b : List ℕ) : Type 0 where
  pub place : Place
  pub saved : Saved
  pub newest : IsNewest b place saved
  pub place_is : current_place b ≡ Some place
  pub saved_is : current_in b ≡ Some saved

pub blank_or_used : (b : List ℕ) → IsCurrent b (current_in b) → IsBlankDisk b ⊎ IsUsedDisk b
blank_or_used b current = by_current (current_in b) refl current
  where
    by_current : (o : Option Saved) → current_in b ≡ o → IsCurrent b o → IsBlankDisk b ⊎ IsUsedDisk b
    by_current None is none = inl (record { first = none.0; second = none.1; place = none_place b none.0 none.1; saved = is })
    by_current (Some x) is newest = inr (record { place = newest.0; saved = x; newest = newest.1; place_is = newest_place b newest.0 x newest.1; saved_is = is })

-- the slot that isn't filled next is open exactly where something is current
pub stays_open : (b : List ℕ) → IsCurrent b (current_in b) → is_some (slot_in b (other (next_place (current_place b)))) ≡ is_some (current_place b)
stays_open b current = elim (blank_or_used b current) [
  | inl blank ↦ subst (λ (o : Option Place). is_some (slot_in b (other (next_place o))) ≡ is_some o) (sym blank.place) (ap is_some blank.second)
  | inr used ↦ subst (λ (o : Option Place). is_some (slot_in b (other (next_place o))) ≡ is_some o) (sym used.place_is)
      (ap (λ (p : Place). is_some (slot_in b p)) (twice used.place) ∙ ap is_some used.newest.holds)
]
