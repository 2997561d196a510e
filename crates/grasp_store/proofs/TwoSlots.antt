-- What two slots tell of the disk.
use Rattle.std.proofs.Common.{◌≡◌, ◌≢◌, ◌⊎◌, inl, inr, ℕ, ◌<◌, ◌≤◌, Bool, true, false, if◌then◌else◌, List, length, get_or, drop, Option, None, Some, refl, sym, ◌∙◌, ap, subst, arith, lt-ltb, le-ltb}
use Rattle.std.specs.Prelude.{is_some}
use Rattle.std.proofs.lemmas.Bool.{cases_eq}
use Rattle.std.proofs.lemmas.Option.{none-some, same_Some}
use Rattle.grasp_pool.proofs.Lists.{lt_tells}
use Rattle.grasp_store.specs.Current.{IsNewest, IsCurrent, IsSound, current_in, newer, number_of}
use Rattle.grasp_store.specs.Images.{IsGoodImage}
use Rattle.grasp_store.specs.Keeping.{IsBadSlot, HasOneNumber, IsBadImage}
use Rattle.grasp_store.specs.Looking.{IsNumbered, IsSpoilt, IsUsable, AreEqual, AreSound, IsPosition, IsNewer, second_newer, first_newer, IsBadPair, chosen}
use Rattle.grasp_store.specs.Slots.{Saved, saved_in, slot_in, slot_of, number_at}
use Rattle.grasp_store.specs.declared.fault.OpenFault.{OpenFault}
use Rattle.grasp_store.specs.declared.fault.OpenFault.TheVariants.{BadImage}
use Rattle.grasp_store.specs.declared.looking.Position.{Position}
use Rattle.grasp_store.specs.declared.place.Place.{Place}
use Rattle.grasp_store.specs.declared.place.Place.TheVariants.{First, Second}
use Rattle.grasp_store.proofs.Newest.{newest_in, none_in}
use Rattle.grasp_store.proofs.SlotParts.{of_shut, of_opened}

-- ---- one slot

pub shut_numbered : (slot : List ℕ) → get_or slot 0 0 ≢ 1 → IsNumbered (slot_of slot) None
shut_numbered slot shut = subst (λ (o : Option Saved). IsNumbered o None) (sym (of_shut slot shut)) refl

number_is : (bytes : List ℕ) → (saved_in bytes).number ≡ number_at bytes
unfolding saved_in
number_is bytes = refl

pub open_numbered : (slot : List ℕ) (n : ℕ) → get_or slot 0 0 ≡ 1 → IsGoodImage (saved_in (drop 1 slot)).image → n ≡ number_at (drop 1 slot) → IsNumbered (slot_of slot) (Some n)
open_numbered slot n is good number = subst (λ (o : Option Saved). IsNumbered o (Some n)) (sym (of_opened slot is)) (ap Some (number ∙ sym (number_is (drop 1 slot))), good)

pub open_spoilt : (slot : List ℕ) → get_or slot 0 0 ≡ 1 → ¬ IsGoodImage (saved_in (drop 1 slot)).image → IsSpoilt (slot_of slot)
open_spoilt slot is bad = subst IsSpoilt (sym (of_opened slot is)) bad

-- ---- two slots

unspoilt : (a : Option Saved) (n : Option ℕ) → IsNumbered a n → ¬ IsSpoilt a
unspoilt None n is spoilt = spoilt
unspoilt (Some x) n is spoilt = spoilt is.1

pub both_shut : (a b : Option Saved) → IsNumbered a None → IsNumbered b None → IsPosition a b (record { current = None; behind = false; number = 0 })
both_shut None None is is' = record { sound = record { first = tt; second = tt; differ = λ h. h }; current = refl; behind = refl; number = refl }
both_shut None (Some y) is is' = absurd (none-some y.number is'.0)
both_shut (Some x) b is is' = absurd (none-some x.number is.0)

pub first_open : (a b : Option Saved) (n : ℕ) → IsNumbered a (Some n) → IsNumbered b None → IsPosition a b (record { current = Some First; behind = false; number = n })
first_open (Some x) None n is is' = record { sound = record { first = is.1; second = tt; differ = λ h. h }; current = refl; behind = refl; number = same_Some n x.number is.0 }
first_open None b n is is' = absurd (none-some n (sym is))
first_open (Some x) (Some y) n is is' = absurd (none-some y.number is'.0)

pub second_open : (a b : Option Saved) (n : ℕ) → IsNumbered a None → IsNumbered b (Some n) → IsPosition a b (record { current = Some Second; behind = false; number = n })
second_open None (Some y) n is is' = record { sound = record { first = tt; second = is'.1; differ = λ h. h }; current = refl; behind = refl; number = same_Some n y.number is'.0 }
second_open None None n is is' = absurd (none-some n (sym is'))
second_open (Some x) b n is is' = absurd (none-some x.number is.0)

-- two open slots with numbers that differ
module _ (x y : Saved) (good : IsGoodImage x.image) (other_good : IsGoodImage y.image) where
  sound_pair : ¬ (x.number ≡ y.number) → AreSound (Some x) (Some y)
  sound_pair differ = record { first = good; second = other_good; differ = differ }

  abbrev place_of : Bool → Option Place
  place_of t = if t then Some Second else Some First

  second_place : x.number < y.number → newer (Some x) (Some y) ≡ Some Second
  second_place lt = ap place_of (lt-ltb x.number y.number lt)

  first_place : y.number < x.number → newer (Some x) (Some y) ≡ Some First
  first_place lt = ap place_of (le-ltb x.number y.number (omega (arith, lt)))

  second_position : x.number < y.number → IsPosition (Some x) (Some y) (record { current = Some Second; behind = true; number = y.number })
  second_position lt = record {
    sound = sound_pair (λ same. omega (arith, same, lt));
    current = sym (second_place lt);
    behind = sym (ap (λ (o : Option Place). is_some (chosen (Some x) (Some y) (Some (Rattle.grasp_store.specs.Saving.next_place o)))) (second_place lt));
    number = sym (ap (λ (o : Option Place). number_of (chosen (Some x) (Some y) o)) (second_place lt));
  }

  first_position : y.number < x.number → IsPosition (Some x) (Some y) (record { current = Some First; behind = true; number = x.number })
  first_position lt = record {
    sound = sound_pair (λ same. omega (arith, same, lt));
    current = sym (first_place lt);
    behind = sym (ap (λ (o : Option Place). is_some (chosen (Some x) (Some y) (Some (Rattle.grasp_store.specs.Saving.next_place o)))) (first_place lt));
    number = sym (ap (λ (o : Option Place). number_of (chosen (Some x) (Some y) o)) (first_place lt));
  }

  both_position : (p : Position) → IsNewer x.number y.number p → IsPosition (Some x) (Some y) p
  both_position p (second_newer lt is) = subst (λ (q : Position). IsPosition (Some x) (Some y) q) (sym is) (second_position lt)
  both_position p (first_newer lt is) = subst (λ (q : Position). IsPosition (Some x) (Some y) q) (sym is) (first_position lt)

pub both_open : (a b : Option Saved) (m n : ℕ) (p : Position) → IsNumbered a (Some m) → IsNumbered b (Some n) → IsNewer m n p → IsPosition a b p
both_open None b m n p is is' found = absurd (none-some m (sym is))
both_open (Some x) None m n p is is' found = absurd (none-some n (sym is'))
both_open (Some x) (Some y) m n p is is' found =
    both_position x y is.1 is'.1 p (subst (λ (k : ℕ). IsNewer x.number k p) (same_Some n y.number is'.0) (subst (λ (k : ℕ). IsNewer k n p) (same_Some m x.number is.0) found))

pub both_equal : (a b : Option Saved) (m n : ℕ) (fault : OpenFault) → IsNumbered a (Some m) → IsNumbered b (Some n) → m ≡ n → fault ≡ BadImage 1 → IsBadPair a b fault
both_equal None b m n fault is is' same is_fault = absurd (none-some m (sym is))
both_equal (Some x) None m n fault is is' same is_fault = absurd (none-some n (sym is'))
both_equal (Some x) (Some y) m n fault is is' same is_fault =
    inr (unspoilt (Some x) (Some m) is, inr (sym (same_Some m x.number is.0) ∙ same ∙ same_Some n y.number is'.0), is_fault)

pub first_spoilt : (a b : Option Saved) (fault : OpenFault) → IsSpoilt a × (fault ≡ BadImage 0) → IsBadPair a b fault
first_spoilt a b fault bad = inl bad

pub second_spoilt : (a b : Option Saved) (n : Option ℕ) (fault : OpenFault) → IsNumbered a n → IsSpoilt b × (fault ≡ BadImage 1) → IsBadPair a b fault
second_spoilt a b n fault is bad = inr (unspoilt a n is, inl bad.0, bad.1)

-- ---- a disk

usable_good : (o : Option Saved) → IsUsable o → (x : Saved) → o ≡ Some x → IsGoodImage x.image
usable_good o usable x is = subst IsUsable is usable

-- the newest slot is what is current
current_of : (b : List ℕ) (place : Place) (x : Saved) → IsNewest b place x → IsCurrent b (current_in b)
current_of b place x newest = subst (λ (o : Option Saved). IsCurrent b o) (sym (newest_in b place x newest)) (place, newest)

one_current : (b : List ℕ) (o p : Option Saved) → slot_in b First ≡ o → slot_in b Second ≡ p → ¬ AreEqual o p → IsCurrent b (current_in b)
one_current b None None is is' differ = subst (λ (o : Option Saved). IsCurrent b o) (sym (none_in b is is')) (is, is')
one_current b (Some x) None is is' differ = current_of b First x (record { holds = is; older = λ y has. absurd (none-some y (sym is' ∙ has)) })
one_current b None (Some y) is is' differ = current_of b Second y (record { holds = is'; older = λ x has. absurd (none-some x (sym is ∙ has)) })
one_current b (Some x) (Some y) is is' differ = elim (lt_tells x.number y.number) [
  | inl below ↦ current_of b Second y (record { holds = is'; older = λ z has. subst (λ (w : Saved). w.number < y.number) (same_Some x z (sym is ∙ has)) below.1 })
  | inr above ↦ current_of b First x (record { holds = is; older = λ z has. subst (λ (w : Saved). w.number < x.number) (same_Some y z (sym is' ∙ has)) (less above.1) })
]
  where
    less : y.number ≤ x.number → y.number < x.number
    less le = elim (cases_eq x.number y.number) [ inl same ↦ absurd (differ same) | inr other ↦ grind arith ]

-- a disk whose slots are sound can be opened
pub sound_disk : (b : List ℕ) → length b ≡ 140000 → AreSound (slot_in b First) (slot_in b Second) → IsSound b
sound_disk b size sound = record {
  size = size;
  good = good;
  one = one_current b (slot_in b First) (slot_in b Second) refl refl sound.differ;
}
  where
    good : (place : Place) (x : Saved) → slot_in b place ≡ Some x → IsGoodImage x.image
    good First x is = usable_good (slot_in b First) sound.first x is
    good Second x is = usable_good (slot_in b Second) sound.second x is

bad_slot : (b : List ℕ) (place : Place) (o : Option Saved) → slot_in b place ≡ o → IsSpoilt o → IsBadSlot b place
bad_slot b place None is spoilt = absurd spoilt
bad_slot b place (Some x) is spoilt = record { saved = x; holds = is; bad = spoilt }

not_bad : (b : List ℕ) (place : Place) → ¬ IsSpoilt (slot_in b place) → ¬ IsBadSlot b place
not_bad b place unspoilt bad = unspoilt (subst IsSpoilt (sym bad.holds) bad.bad)

one_number : (b : List ℕ) (o p : Option Saved) → slot_in b First ≡ o → slot_in b Second ≡ p → AreEqual o p → HasOneNumber b
one_number b None p is is' same = absurd same
one_number b (Some x) None is is' same = absurd same
one_number b (Some x) (Some y) is is' same = record { first = x; second = y; holds_first = is; holds_second = is'; same = same }

-- a disk whose slots aren't sound has a bad image
pub bad_disk : (b : List ℕ) (fault : OpenFault) → IsBadPair (slot_in b First) (slot_in b Second) fault → (slot : ℕ) × (fault ≡ BadImage slot) × IsBadImage b slot
bad_disk b fault (inl (spoilt, is)) = (0, is, inl (refl, bad_slot b First (slot_in b First) refl spoilt))
bad_disk b fault (inr (unspoilt, why, is)) = (1, is, inr (refl, not_bad b First unspoilt, so why))
  where
    so : IsSpoilt (slot_in b Second) ⊎ AreEqual (slot_in b First) (slot_in b Second) → IsBadSlot b Second ⊎ HasOneNumber b
    so (inl spoilt) = inl (bad_slot b Second (slot_in b Second) refl spoilt)
    so (inr same) = inr (one_number b (slot_in b First) (slot_in b Second) refl refl same)
