-- Inside: what two slots hold, and which is current.
use Rattle.std.specs.Prelude.{◌≡◌, ◌⊎◌, ℕ, ◌<◌, true, is_some, Option, None, Some}
use Rattle.grasp_store.specs.Current.{newer, number_of}
use Rattle.grasp_store.specs.Images.{IsGoodImage}
use Rattle.grasp_store.specs.Saving.{next_place}
use Rattle.grasp_store.specs.Slots.{Saved}
use Rattle.grasp_store.specs.declared.fault.OpenFault.{OpenFault}
use Rattle.grasp_store.specs.declared.fault.OpenFault.TheVariants.{BadImage}
use Rattle.grasp_store.specs.declared.looking.Position.{Position}
use Rattle.grasp_store.specs.declared.place.Place.{Place}
use Rattle.grasp_store.specs.declared.place.Place.TheVariants.{First, Second}

-- a slot is closed, or holds something with this number of which a pool can have the image
abbrev pub IsNumbered : Option Saved → Option ℕ → Type 0
IsNumbered None n = n ≡ None
IsNumbered (Some x) n = (n ≡ Some x.number) × IsGoodImage x.image

-- a slot is open, and no pool can have the image
abbrev pub IsSpoilt : Option Saved → Type 0
IsSpoilt None = ⊥
IsSpoilt (Some x) = ¬ IsGoodImage x.image

-- what is at a place of two
abbrev pub chosen : Option Saved → Option Saved → Option Place → Option Saved
chosen x y None = None
chosen x y (Some First) = x
chosen x y (Some Second) = y

-- both are open, with one number
abbrev pub AreEqual : Option Saved → Option Saved → Type 0
AreEqual None y = ⊥
AreEqual (Some x) None = ⊥
AreEqual (Some x) (Some y) = x.number ≡ y.number

-- a slot is closed, or a pool can have the image
abbrev pub IsUsable : Option Saved → Type 0
IsUsable None = Unit {0}
IsUsable (Some x) = IsGoodImage x.image

-- a disk with these slots can be opened
pub record AreSound (x y : Option Saved) : Type 0 where
  pub first : IsUsable x
  pub second : IsUsable y
  pub differ : ¬ AreEqual x y

-- what is known of them
pub record IsPosition (x y : Option Saved) (p : Position) : Type 0 where
  pub sound : AreSound x y
  pub current : p.current ≡ newer x y
  pub behind : p.behind ≡ is_some (chosen x y (Some (next_place (newer x y))))
  pub number : p.number ≡ number_of (chosen x y (newer x y))

-- the position of two open slots with these numbers, which differ
pub data IsNewer (first second : ℕ) (p : Position) : Type 0 where
  second_newer : first < second → p ≡ record { current = Some Second; behind = true; number = second } → IsNewer first second p
  first_newer : second < first → p ≡ record { current = Some First; behind = true; number = first } → IsNewer first second p

-- why they aren't
abbrev pub IsBadPair : Option Saved → Option Saved → OpenFault → Type 0
IsBadPair x y fault =
    (IsSpoilt x × (fault ≡ BadImage 0)) ⊎ ((¬ IsSpoilt x) × (IsSpoilt y ⊎ AreEqual x y) × (fault ≡ BadImage 1))
