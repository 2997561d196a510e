-- What an opening finds.
use Rattle.std.proofs.Common.{◌≡◌, inl, inr, ℕ, Bool, true, false, List, [], length, Contains, Option, None, Some, refl, sym, ◌∙◌, ap, subst}
use Rattle.std.specs.Prelude.{is_some}
use Rattle.grasp_disk.specs.Calls.{DiskLog, DiskState, after_made, bytes_of, piece, state_of}
use Rattle.grasp_disk.specs.Crashes.{AtEachMoment, Leaves, Makes, MayBecome}
use Rattle.grasp_disk.proofs.Leaving.{same_may, synced_leaves}
use Rattle.grasp_types.specs.Prefix.{AddressBlock as Prefix}
use Rattle.grasp_pool.specs.Answers.{IsReopened}
use Rattle.grasp_pool.specs.Functions.{pool_of_image}
use Rattle.grasp_pool.specs.Holdings.{Holding}
use Rattle.grasp_pool.specs.Pools.{IsPool}
use Rattle.grasp_pool.specs.declared.image.PoolImage.{PoolImage}
use Rattle.grasp_pool.specs.declared.roots.RootPrefix.{RootPrefix}
use Rattle.grasp_pool.proofs.Changes.{same_pool}
use Rattle.grasp_pool.proofs.Opening.{image_opens, reopened_pool}
use Rattle.grasp_pool.proofs.Unique.{none_in}
use Rattle.grasp_agent.specs.States.{AgentState}
use Rattle.grasp_store.specs.Asking.{BreaksIn}
use Rattle.grasp_store.specs.Current.{IsSound, current_place, image_on, image_or, newer, number_of}
use Rattle.grasp_store.specs.Images.{IsGoodImage, image_of}
use Rattle.grasp_store.specs.Keeping.{FailsToOpen, IsBlank, IsOpenFault, KeeperState, Opens, Refuses, Remembers}
use Rattle.grasp_store.specs.Looking.{IsBadPair, IsPosition, chosen}
use Rattle.grasp_store.specs.Opening.{IsBegun, IsFrom, MayRefuse}
use Rattle.grasp_store.specs.Saving.{FailsIn, next_place, open_calls}
use Rattle.grasp_store.specs.Slots.{Saved, slot_in, slot_of, slot_size}
use Rattle.grasp_store.specs.declared.fault.OpenFault.{OpenFault}
use Rattle.grasp_store.specs.declared.fault.OpenFault.TheVariants as open_fault
use Rattle.grasp_store.specs.declared.looking.Position.{Position}
use Rattle.grasp_store.specs.declared.place.Place.{Place}
use Rattle.grasp_store.specs.declared.place.Place.TheVariants.{First, Second}
use Rattle.grasp_store.proofs.Cutting.{breaking_fails}
use Rattle.grasp_store.proofs.Images.{image_good, listed_joined}
use Rattle.grasp_store.proofs.TwoSlots.{bad_disk, sound_disk}
use Rattle.grasp_store.proofs.Newest.{current_chosen, none_place, saved_chosen}

-- ---- the pool of an image

-- a pool in which nothing is reserved is that of its image
pub pool_back : (h : Holding) → IsPool h → h.reserved ≡ [] → pool_of_image (image_of h) ≡ h
pool_back h pool none =
    let good : IsGoodImage (image_of h) = image_good h pool
    in let opened : IsReopened (image_of h) (pool_of_image (image_of h)) = image_opens (image_of h) good.few good.disjoint
    in same_pool (pool_of_image (image_of h)) h (reopened_pool (image_of h) opened) pool (λ a. opened.free a)
    (λ q. (λ has. absurd (none_in q has), λ has. absurd (none_in q (subst (λ (ps : List Prefix). Contains ps q) none has))))
    (λ q. (
      λ has. elim (((listed_joined h pool).members q).0 ((opened.doubtful q).0 has)) [
        | inl reserved ↦ absurd (none_in q (subst (λ (ps : List Prefix). Contains ps q) none reserved))
        | inr doubtful ↦ doubtful
      ],
      λ has. (opened.doubtful q).1 (((listed_joined h pool).members q).1 (inr has)),
    ))

-- ---- the calls

-- what a crash leaves at any moment of an opening it might have left before
pub open_moments : (s : DiskState) → AtEachMoment s open_calls (MayBecome s)
unfolding AtEachMoment
open_moments s = (((λ content may. may, synced), synced), synced)
  where
    synced : Leaves (record { bytes = s.bytes; loose = [] }) (MayBecome s)
    synced content may = subst (MayBecome s) (sym (synced_leaves s content may)) (same_may s)

pub opening_breaks : (Then : DiskLog → Type 0) (log : DiskLog) → BreaksIn Then log open_calls → FailsIn Then log open_calls (MayBecome (state_of log))
opening_breaks Then log breaks = breaking_fails Then log open_calls (MayBecome (state_of log)) tt (open_moments (state_of log)) breaks

pub opening_makes : (Then : DiskLog → Type 0) (log : DiskLog) → Then (after_made log open_calls) → Makes Then log open_calls (MayBecome (state_of log))
opening_makes Then log stands = record { stands = stands; moments = open_moments (state_of log) }

-- ---- faults

module _ (Then : DiskLog → Type 0) (roots : List RootPrefix) (log : DiskLog) (stands : Then (after_made log open_calls)) where
  refuses : (fault : OpenFault) → IsOpenFault roots (bytes_of log) fault → Refuses Then roots log fault
  refuses fault cause = record { cause = cause; makes = opening_makes Then log stands }

  pub bad_refuses : (fault : OpenFault) → IsBadPair (slot_in (bytes_of log) First) (slot_in (bytes_of log) Second) fault → FailsToOpen Then roots log fault
  bad_refuses fault bad =
      let found = bad_disk (bytes_of log) fault bad
      in subst (FailsToOpen Then roots log) (sym found.1) (refuses (open_fault.BadImage found.0) found.2)

  blank_where : newer (slot_in (bytes_of log) First) (slot_in (bytes_of log) Second) ≡ None → IsBlank (bytes_of log)
  blank_where is = by_slots (slot_in (bytes_of log) First) (slot_in (bytes_of log) Second) is
    where
      some_none : (p : Place) → Some p ≡ None → ⊥
      some_none p e = search Rattle.std.proofs.Common.rules

      either : (t : Bool) → (Rattle.std.proofs.Common.if◌then◌else◌ t (Some Second) (Some First)) ≡ None → ⊥
      either true e = some_none Second e
      either false e = some_none First e

      by_slots : (a b : Option Saved) → newer a b ≡ None → (a ≡ None) × (b ≡ None)
      by_slots None None e = (refl, refl)
      by_slots (Some x) None e = absurd (some_none First e)
      by_slots None (Some y) e = absurd (some_none Second e)
      by_slots (Some x) (Some y) e = absurd (either _ e)

  -- an agent or a keeper that wants memory, or roots that open no pool
  pub taking_refuses : length (bytes_of log) ≡ 140000 → (position : Position) → IsPosition (slot_in (bytes_of log) First) (slot_in (bytes_of log) Second) position
      → (fault : OpenFault) → MayRefuse roots (is_some position.current) fault → FailsToOpen Then roots log fault
  taking_refuses size position found fault may = by_current position.current (found.current) fault may
    where
      sound : IsSound (bytes_of log)
      sound = sound_disk (bytes_of log) size found.sound

      not_blank : (p : Place) → Some p ≡ newer (slot_in (bytes_of log) First) (slot_in (bytes_of log) Second) → IsBlank (bytes_of log) → ⊥
      not_blank p is blank = Rattle.std.proofs.lemmas.Option.none-some p (sym (none_place (bytes_of log) blank.0 blank.1) ∙ sym is)

      by_current : (o : Option Place) → o ≡ newer (slot_in (bytes_of log) First) (slot_in (bytes_of log) Second) → (fault : OpenFault) → MayRefuse roots (is_some o) fault → FailsToOpen Then roots log fault
      by_current (Some p) is fault may =
          subst (FailsToOpen Then roots log) (sym may) (refuses open_fault.OutOfMemory (sound, λ blank. absurd (not_blank p is blank)))
      by_current None is open_fault.DiskFault may = absurd may
      by_current None is (open_fault.BadImage slot) may = absurd may
      by_current None is (open_fault.Roots cause) may = refuses (open_fault.Roots cause) (blank_where (sym is), may.0, may.1)
      by_current None is open_fault.OutOfMemory may = refuses open_fault.OutOfMemory (sound, λ blank. may)

-- ---- what was read

module _ (Then : DiskLog → Type 0) (roots : List RootPrefix) (log : DiskLog) (first second : List ℕ) (is : first ≡ piece (bytes_of log) 0 slot_size) (is' : second ≡ piece (bytes_of log) 70000 slot_size) (stands : Then (after_made log open_calls)) where
  pub read_bad : (fault : OpenFault) → IsBadPair (slot_of first) (slot_of second) fault → FailsToOpen Then roots log fault
  read_bad fault bad =
      bad_refuses Then roots log stands fault
      (subst (λ (l : List ℕ). IsBadPair (slot_in (bytes_of log) First) (slot_of l) fault) is' (subst (λ (l : List ℕ). IsBadPair (slot_of l) (slot_of second) fault) is bad))

  module _ (position : Position) (found : IsPosition (slot_of first) (slot_of second) position) where
    found_here : IsPosition (slot_in (bytes_of log) First) (slot_in (bytes_of log) Second) position
    found_here =
        subst (λ (l : List ℕ). IsPosition (slot_in (bytes_of log) First) (slot_of l) position) is' (subst (λ (l : List ℕ). IsPosition (slot_of l) (slot_of second) position) is found)

    pub read_refuses : length (bytes_of log) ≡ 140000 → (fault : OpenFault) → MayRefuse roots (is_some position.current) fault → FailsToOpen Then roots log fault
    read_refuses size fault may = taking_refuses Then roots log stands size position found_here fault may

    image_is : image_or roots (chosen (slot_of first) (slot_of second) position.current) ≡ image_on roots (bytes_of log)
    image_is =
        ap (λ (l : List ℕ). image_or roots (chosen (slot_of l) (slot_of second) position.current)) is
        ∙ ap (λ (l : List ℕ). image_or roots (chosen (slot_in (bytes_of log) First) (slot_of l) position.current)) is'
        ∙ ap (λ (o : Option Place). image_or roots (chosen (slot_in (bytes_of log) First) (slot_in (bytes_of log) Second) o)) found_here.current
        ∙ ap (image_or roots) (sym (current_chosen (bytes_of log)))

    pub read_begins : (image : PoolImage) (agent : AgentState) → IsFrom (image_or roots (chosen (slot_of first) (slot_of second) position.current)) image agent
        → IsBegun Then roots log position image agent
    read_begins image agent from = record { stands = stands; finds = found_here; from = subst (λ (i : PoolImage). IsFrom i image agent) image_is from }

-- ---- a keeper that was opened

module _ {D : Type 0} (Stands : D → DiskLog → Type 0) (roots : List RootPrefix) (log : DiskLog) (size : length (bytes_of log) ≡ 140000) (disk : D) (position : Position) (image : PoolImage) (agent : AgentState)
    (begun : IsBegun (Stands disk) roots log position image agent) where
  abbrev b : List ℕ
  b = bytes_of log

  abbrev pub opened_keeper : KeeperState D
  opened_keeper = record { disk = disk; current = position.current; behind = position.behind; number = position.number; image = image; faulty = false }

  remembers : Remembers roots opened_keeper b
  remembers = record {
    current = begun.finds.current;
    behind = begun.finds.behind ∙ ap is_some (sym (saved_chosen b (Some (next_place (current_place b)))));
    number = begun.finds.number ∙ ap number_of (sym (current_chosen b));
    image = begun.from.holds;
  }

  pub keeper_opens : Opens Stands roots opened_keeper agent log
  keeper_opens = record {
    keeps = record { going = refl; stands = begun.stands; settled = refl; sound = sound_disk b size begun.finds.sound; remembers = remembers };
    is = begun.from.is;
    moments = open_moments (state_of log);
  }
