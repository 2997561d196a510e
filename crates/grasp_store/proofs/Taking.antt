-- The image of the slot that is current, of two slots that were read.
use Rattle.std.proofs.Common.{◌≡◌, inl, inr, ℕ, List, length, get_or, drop, Option, None, Some, refl, sym, ◌∙◌, ap, subst}
use Rattle.std.proofs.lemmas.Bool.{cases_eq}
use Rattle.std.proofs.lemmas.Option.{none-some, same_Some}
use Rattle.grasp_pool.specs.declared.roots.RootPrefix.{RootPrefix}
use Rattle.grasp_store.specs.Current.{image_or, newer}
use Rattle.grasp_store.specs.Images.{IsGoodImage}
use Rattle.grasp_store.specs.Looking.{AreSound, IsUsable, chosen}
use Rattle.grasp_store.specs.Opening.{slot_at}
use Rattle.grasp_store.specs.Slots.{Saved, saved_in, slot_of, slot_size}
use Rattle.grasp_store.specs.declared.place.Place.{Place}
use Rattle.grasp_store.specs.declared.place.Place.TheVariants.{First, Second}
use Rattle.grasp_store.proofs.SlotParts.{of_opened, of_shut}

-- what an open slot holds is what stands behind its gate
of_holds : (slot : List ℕ) (x : Saved) → slot_of slot ≡ Some x → saved_in (drop 1 slot) ≡ x
of_holds slot x holds = elim (cases_eq (get_or slot 0 0) 1) [
  | inl is ↦ same_Some _ _ (sym (of_opened slot is) ∙ holds)
  | inr shut ↦ absurd (none-some x (sym (of_shut slot shut) ∙ holds))
]

first_second : (p q : Place) → p ≡ First → q ≡ Second → Some p ≡ Some q → ⊥
first_second p q is is' same = let e : First ≡ Second = sym is ∙ same_Some p q same ∙ is' in cc

-- the newer slot is open
first_open : (a b : Option Saved) → newer a b ≡ Some First → (x : Saved) × (a ≡ Some x)
first_open None None is = absurd (none-some First is)
first_open None (Some y) is = absurd (first_second First Second refl refl (sym is))
first_open (Some x) b is = (x, refl)

second_open : (a b : Option Saved) → newer a b ≡ Some Second → (y : Saved) × (b ≡ Some y)
second_open None None is = absurd (none-some Second is)
second_open (Some x) None is = absurd (first_second First Second refl refl is)
second_open a (Some y) is = (y, refl)

usable_good : (o : Option Saved) → IsUsable o → (x : Saved) → o ≡ Some x → IsGoodImage x.image
usable_good o usable x is = subst IsUsable is usable

held_at : (a b : Option Saved) (place : Place) → newer a b ≡ Some place → (x : Saved) × (chosen a b (Some place) ≡ Some x)
held_at a b First is = first_open a b is
held_at a b Second is = second_open a b is

pub size_at : (place : Place) (first second : List ℕ) → length first ≡ slot_size → length second ≡ slot_size → length (slot_at place first second) ≡ slot_size
size_at First first second size size' = size
size_at Second first second size size' = size'

slot_there : (place : Place) (first second : List ℕ) → slot_of (slot_at place first second) ≡ chosen (slot_of first) (slot_of second) (Some place)
slot_there First first second = refl
slot_there Second first second = refl

usable_at : (place : Place) (first second : List ℕ) → AreSound (slot_of first) (slot_of second) → IsUsable (slot_of (slot_at place first second))
usable_at First first second sound = sound.first
usable_at Second first second sound = sound.second

module _ (roots : List RootPrefix) (first second : List ℕ) (current : Option Place) (newest : current ≡ newer (slot_of first) (slot_of second)) (sound : AreSound (slot_of first) (slot_of second))
    (place : Place) (here : current ≡ Some place) where
  held : (x : Saved) × (chosen (slot_of first) (slot_of second) (Some place) ≡ Some x)
  held = held_at (slot_of first) (slot_of second) place (sym newest ∙ here)

  held_there : slot_of (slot_at place first second) ≡ Some held.0
  held_there = slot_there place first second ∙ held.1

  saved_is : saved_in (drop 1 (slot_at place first second)) ≡ held.0
  saved_is = of_holds (slot_at place first second) held.0 held_there

  -- a pool can have the image of the slot that is current
  pub good_there : IsGoodImage (saved_in (drop 1 (slot_at place first second))).image
  good_there =
      subst (λ (x : Saved). IsGoodImage x.image) (sym saved_is) (usable_good (slot_of (slot_at place first second)) (usable_at place first second sound) held.0 held_there)

  -- and this is the image of the disk
  pub image_there : (saved_in (drop 1 (slot_at place first second))).image ≡ image_or roots (chosen (slot_of first) (slot_of second) current)
  image_there =
      ap (λ (x : Saved). x.image) saved_is ∙ sym (ap (image_or roots) held.1) ∙ sym (ap (λ (o : Option Place). image_or roots (chosen (slot_of first) (slot_of second) o)) here)
