-- Keepers of disks in memory: what they keep once a disk was asked, and that a disk which never stops fails no call.
use Rattle.std.proofs.Common.{rules, ◌≡◌, inl, inr, refl, sym, ◌∙◌, ap, subst, arith, ℕ, ◌-◌, ◌<◌, ◌^◌, Bool, true, false, List, [], ◌∷◌, ◌++◌, length, Option, None, Some, append-nil}
use Rattle.std.proofs.lemmas.Option.{none-some, same_Some}
use Rattle.grasp_disk.specs.Calls.{DiskCall, DiskLog, after_made, bytes_of, overlaid, read, synced, wrote, after_calls, DiskState}
use Rattle.grasp_disk.specs.Memory.{AllSucceed, MemDiskState, MemStands, StopsAt, all_kept, log_from, rest_of, succeeded, written_by}
use Rattle.grasp_disk.proofs.Lefts.{begins_anew as disk_begins_anew}
use Rattle.grasp_disk.proofs.Moments.{after-append}
use Rattle.grasp_disk.proofs.Stopping.{never_stops}
use Rattle.grasp_agent.specs.States.{AgentState}
use Rattle.grasp_pool.specs.declared.image.PoolImage.{PoolImage}
use Rattle.grasp_pool.specs.declared.roots.RootPrefix.{RootPrefix}
use Rattle.grasp_store.specs.Current.{IsCurrent, IsSound, current_in, number_of}
use Rattle.grasp_store.specs.Keeping.{FailsToOpen, HasOneNumber, IsBadImage, IsBadSlot, IsKeepFault, Keeps, Opens, Saves}
use Rattle.grasp_store.specs.Saving.{FailsAs, IsCutShort, open_calls}
use Rattle.grasp_store.specs.Slots.{Saved}
use Rattle.grasp_store.specs.declared.fault.KeepFault.{KeepFault}
use Rattle.grasp_store.specs.declared.fault.KeepFault.TheVariants as keep_fault
use Rattle.grasp_store.specs.declared.fault.OpenFault.{OpenFault}
use Rattle.grasp_store.specs.declared.fault.OpenFault.TheVariants as open_fault
use Rattle.grasp_store.specs.declared.place.Place.{Place}
use Rattle.grasp_store.specs.declared.place.Place.TheVariants.{First, Second}
use Rattle.grasp_kept.specs.Keepers.{DiskKeeper, KeepsDisk}
use Rattle.grasp_kept.specs.Opening.{RootsOpen}

-- ---- what is kept

-- what came before makes no difference to a disk that never stops
pub begins_anew : (roots : List RootPrefix) (keeper : DiskKeeper) (log : DiskLog) → log.stops ≡ None → Keeps MemStands roots keeper log → KeepsDisk roots keeper (bytes_of log)
begins_anew roots keeper log never keeps = record {
  going = keeps.going;
  stands = subst (λ (o : Option ℕ). MemStands keeper.disk (record { start = all_kept (bytes_of log); calls = []; stops = rest_of o (length log.calls) })) never
      (disk_begins_anew keeper.disk log keeps.stands keeps.settled);
  settled = refl;
  sound = keeps.sound;
  remembers = keeps.remembers;
}

-- once it has made these calls
pub saved_keeps : (roots : List RootPrefix) (keeper : DiskKeeper) (bytes : List ℕ) (calls : List DiskCall) (image : PoolImage) → Saves MemStands roots keeper (log_from bytes) calls image
    → KeepsDisk roots keeper (written_by bytes calls)
saved_keeps roots keeper bytes calls image saves =
    subst (λ (l : List DiskCall). KeepsDisk roots keeper (written_by bytes l)) (append-nil calls) (begins_anew roots keeper (after_made (log_from bytes) calls) refl saves.keeps)

-- once it was opened
pub opened_keeps : (roots : List RootPrefix) (keeper : DiskKeeper) (agent : AgentState) (bytes : List ℕ) → Opens MemStands roots keeper agent (log_from bytes) → KeepsDisk roots keeper bytes
opened_keeps roots keeper agent bytes opens = begins_anew roots keeper (after_made (log_from bytes) open_calls) refl opens.keeps

-- ---- what a read gives behind calls

bytes_alone : (calls : List DiskCall) (s : DiskState) → (after_calls calls s).bytes ≡ written_by s.bytes calls
bytes_alone [] s = refl
bytes_alone (read ok ∷ earlier) s = bytes_alone earlier s
bytes_alone (wrote at new ok ∷ earlier) s = ap (λ (b : List ℕ). overlaid b at new) (bytes_alone earlier s)
bytes_alone (synced true ∷ earlier) s = bytes_alone earlier s
bytes_alone (synced false ∷ earlier) s = bytes_alone earlier s

pub written_twice : (bytes : List ℕ) (later earlier : List DiskCall) → written_by bytes (later ++ earlier) ≡ written_by (written_by bytes earlier) later
written_twice bytes later earlier = ap (λ (s : DiskState). s.bytes) (after-append later earlier (all_kept bytes)) ∙ bytes_alone later (after_calls earlier (all_kept bytes))

-- ---- what doesn't fail

differ : true ≡ false → ⊥
differ e = search rules

fails_false : (call failed : DiskCall) → FailsAs call failed → succeeded failed ≡ false
fails_false (read ok) failed is = ap succeeded is
fails_false (wrote at new ok) failed (bytes, long, is) = ap succeeded is
fails_false (synced ok) failed is = ap succeeded is

-- of calls of a disk that never stops none fails
pub never_fails : (disk : MemDiskState) (log : DiskLog) (calls made : List DiskCall) → log.stops ≡ None → IsCutShort calls made → MemStands disk (after_made log made) → ⊥
never_fails disk log calls made never cut stands = differ (sym all.0 ∙ fails_false cut.call cut.failed cut.fails) where
  at : StopsAt None (cut.failed ∷ (cut.earlier ++ log.calls))
  at = subst (λ (o : Option ℕ). StopsAt o (cut.failed ∷ (cut.earlier ++ log.calls))) never (subst (λ (l : List DiskCall). StopsAt log.stops (l ++ log.calls)) cut.is stands.stops)

  all : AllSucceed (cut.failed ∷ (cut.earlier ++ log.calls))
  all = never_stops (cut.failed ∷ (cut.earlier ++ log.calls)) at

-- a keeper that goes on fails for its disk alone
pub fails_for_disk : (old new : DiskKeeper) (roots : List RootPrefix) (log : DiskLog) (saves : Bool) (fault : KeepFault) → Keeps MemStands roots old log
    → number_of (current_in (bytes_of log)) < 2 ^ 64 - 1 → IsKeepFault (λ (m : MemDiskState). m.faults) old new saves fault → fault ≡ keep_fault.DiskFault
fails_for_disk old new roots log saves keep_fault.DiskFault keeps few is = refl
fails_for_disk old new roots log saves keep_fault.Spent keeps few is = absurd (omega (arith, few, is.2, keeps.remembers.number))
fails_for_disk old new roots log saves keep_fault.Stopped keeps few is = absurd (differ (sym is.0 ∙ keeps.going))

-- ---- openings

not_bad_slot : (bytes : List ℕ) (place : Place) → IsSound bytes → IsBadSlot bytes place → ⊥
not_bad_slot bytes place sound b = b.bad (sound.good place b.saved b.holds)

not_one_number : (bytes : List ℕ) (o : Option Saved) → IsCurrent bytes o → HasOneNumber bytes → ⊥
not_one_number bytes None is two = none-some two.first (sym is.0 ∙ two.holds_first)
not_one_number bytes (Some x) (First, newest) two =
    absurd (omega (arith, newest.older two.second two.holds_second, two.same, ap (λ (y : Saved). y.number) (same_Some two.first x (sym two.holds_first ∙ newest.holds))))
not_one_number bytes (Some x) (Second, newest) two =
    absurd (omega (arith, newest.older two.first two.holds_first, two.same, ap (λ (y : Saved). y.number) (same_Some two.second x (sym two.holds_second ∙ newest.holds))))

not_bad : (bytes : List ℕ) (slot : ℕ) → IsSound bytes → IsBadImage bytes slot → ⊥
not_bad bytes slot sound is = elim is [
  | inl first ↦ not_bad_slot bytes First sound first.1
  | inr second ↦ elim second.2 [
    | inl bad ↦ not_bad_slot bytes Second sound bad
    | inr two ↦ not_one_number bytes (current_in bytes) sound.one two
  ]
]

-- a disk that never stops and can be opened isn't opened for want of memory alone
pub only_memory : (roots : List RootPrefix) (disk : MemDiskState) (bytes : List ℕ) (fault : OpenFault) → IsSound bytes → RootsOpen roots
    → FailsToOpen (MemStands disk) roots (log_from bytes) fault → fault ≡ open_fault.OutOfMemory
only_memory roots disk bytes open_fault.DiskFault sound opens fails = absurd (never_fails disk (log_from bytes) open_calls fails.made refl fails.short fails.makes.stands)
only_memory roots disk bytes (open_fault.BadImage slot) sound opens fails = absurd (not_bad bytes slot sound fails.cause)
only_memory roots disk bytes (open_fault.Roots fault) sound opens fails = absurd (fails.cause.1 (opens fault fails.cause.2))
only_memory roots disk bytes open_fault.OutOfMemory sound opens fails = refl
