-- What a crash leaves of a disk in memory may be left.
use Rattle.std.proofs.Common.{◌≡◌, ℕ, ◌+◌, ◌-◌, ◌/◌, ◌≤◌, true, false, List, [], ◌∷◌, length, Option, None, Some, refl, sym, ◌∙◌, ap, subst, arith, rules}
use Rattle.std.proofs.lemmas.List.{length-take}
use Rattle.grasp_disk.specs.Calls.{DiskCall, DiskLog, DiskState, Range, read, wrote, synced, after_calls, disk_size, overlaid, piece, state_of, bytes_of}
use Rattle.grasp_disk.specs.Laws.{FailedCallsLeaveNothing}
use Rattle.grasp_disk.specs.Crashes.{MayBecome, IsSettled}
use Rattle.grasp_disk.specs.Memory.{MemDiskState, MemStands, AllFit, FailuresWriteNothing, succeeded, all_kept, begun_anew, rest_of, written_by, synced_by, torn_by, left_by, first_half}
use Rattle.grasp_disk.specs.declared.left.Left.{Left}
use Rattle.grasp_disk.specs.declared.left.Left.TheVariants.{Old, New, Torn}
use Rattle.grasp_disk.proofs.Bytes.{length-overlaid, overlaid_same}
use Rattle.grasp_disk.proofs.Leaving.{settled_leaves, same_may, may_stay, any_may}

module _ (start : List ℕ) where
  abbrev then : List DiskCall → DiskState
  then calls = after_calls calls (all_kept start)

  abbrev Fit : List DiskCall → Type 0
  Fit calls = AllFit (length start) calls

  pub length-written : (calls : List DiskCall) → Fit calls → length (written_by start calls) ≡ length start
  length-written [] fit = refl
  length-written (read ok ∷ earlier) fit = length-written earlier fit
  length-written (wrote at new ok ∷ earlier) fit =
      length-overlaid (written_by start earlier) at new (omega (arith, fit.0, length-written earlier fit.1)) ∙ length-written earlier fit.1
  length-written (synced true ∷ earlier) fit = length-written earlier fit
  length-written (synced false ∷ earlier) fit = length-written earlier fit

  lies : (at : ℕ) (new : List ℕ) (earlier : List DiskCall) → at + length new ≤ length start → Fit earlier → at + length new ≤ length (written_by start earlier)
  lies at new earlier fits fit = omega (arith, fits, length-written earlier fit)

  synced_may : (calls : List DiskCall) → Fit calls → MayBecome (then calls) (synced_by start calls)
  synced_may [] fit = same_may (all_kept start)
  synced_may (read ok ∷ earlier) fit = synced_may earlier fit
  synced_may (wrote at new ok ∷ earlier) fit = may_stay (then earlier) at new ok (lies at new earlier fit.0 fit.1) _ (synced_may earlier fit.1)
  synced_may (synced true ∷ earlier) fit = same_may (then (synced true ∷ earlier))
  synced_may (synced false ∷ earlier) fit = synced_may earlier fit

  half_short : (new : List ℕ) → length (first_half new) ≤ length new
  half_short new = omega (arith, length-take (length new / 2) new)

  torn_may : (calls : List DiskCall) → Fit calls → MayBecome (then calls) (torn_by start calls)
  torn_may [] fit = same_may (all_kept start)
  torn_may (read ok ∷ earlier) fit = torn_may earlier fit
  torn_may (wrote at new true ∷ earlier) fit = any_may (then earlier) at new true (lies at new earlier fit.0 fit.1) (first_half new) (half_short new)
  torn_may (wrote at new false ∷ earlier) fit = may_stay (then earlier) at new false (lies at new earlier fit.0 fit.1) _ (torn_may earlier fit.1)
  torn_may (synced true ∷ earlier) fit = same_may (then (synced true ∷ earlier))
  torn_may (synced false ∷ earlier) fit = torn_may earlier fit

pub may_stand : (left : Left) (start : List ℕ) (calls : List DiskCall) → AllFit (length start) calls → MayBecome (after_calls calls (all_kept start)) (left_by left start calls)
may_stand Old start calls fit = synced_may start calls fit
may_stand New start calls fit = same_may (after_calls calls (all_kept start))
may_stand Torn start calls fit = torn_may start calls fit

module _ (m : MemDiskState) (log : DiskLog) (stands : MemStands m log) where
  fit_start : AllFit (length log.start.bytes) log.calls
  fit_start = subst (λ (n : ℕ). AllFit n log.calls) (sym stands.size) stands.fit

  pub length-held : length m.bytes ≡ disk_size
  length-held = ap length stands.bytes ∙ length-written log.start.bytes log.calls fit_start ∙ stands.size

  -- what is left of a disk in memory that stands for a log may be left by that log
  pub left_may : (left : Left) → MayBecome (state_of log) (left_by left log.start.bytes log.calls)
  left_may left =
      subst (λ (loose : List Range). MayBecome (after_calls log.calls (record { bytes = log.start.bytes; loose = loose })) (left_by left log.start.bytes log.calls)) (sym stands.began)
      (may_stand left log.start.bytes log.calls fit_start)

  module _ (settled : IsSettled (state_of log)) where
    -- whatever is left, it is what a read gives
    left_settled : (left : Left) → left_by left log.start.bytes log.calls ≡ bytes_of log
    left_settled left = settled_leaves (state_of log) settled (left_by left log.start.bytes log.calls) (left_may left)

    pub begins_anew : MemStands m (begun_anew log)
    begins_anew = record {
      began = refl;
      size = sym (ap length (stands.bytes ∙ left_settled New)) ∙ length-held;
      fit = tt;
      bytes = stands.bytes ∙ left_settled New;
      kept = stands.kept ∙ left_settled Old;
      torn = stands.torn ∙ left_settled Torn;
      nothing = tt;
      stops = tt;
      left = stands.left ∙ of_none log.stops;
    }
      where
        of_none : (stops : Option ℕ) → rest_of stops (length log.calls) ≡ rest_of (rest_of stops (length log.calls)) 0
        of_none None = refl
        of_none (Some n) = ap Some (less_none (n - length log.calls))
          where
            less_none : (k : ℕ) → k ≡ k - 0
            less_none k = omega arith

-- ---- a call that failed

-- what is left after it is what is left before it
module _ (start : List ℕ) (earlier : List DiskCall) (fit : AllFit (length start) earlier) where
  same_written : (at : ℕ) (new : List ℕ) → at + length new ≤ length start → new ≡ piece (written_by start earlier) at (length new) → overlaid (written_by start earlier) at new ≡ written_by start earlier
  same_written at new fits is =
      ap (overlaid (written_by start earlier) at) is ∙ overlaid_same (written_by start earlier) at (length new) (omega (arith, fits, length-written start earlier fit))

  left_same : (left : Left) (call : DiskCall) → AllFit (length start) (call ∷ earlier) → FailuresWriteNothing start (call ∷ earlier) → succeeded call ≡ false
      → left_by left start (call ∷ earlier) ≡ left_by left start earlier
  left_same Old (read ok) fits nothing failed = refl
  left_same New (read ok) fits nothing failed = refl
  left_same Torn (read ok) fits nothing failed = refl
  left_same Old (wrote at new ok) fits nothing failed = refl
  left_same New (wrote at new false) fits nothing failed = same_written at new fits.0 nothing.0
  left_same Torn (wrote at new false) fits nothing failed = refl
  left_same Old (synced false) fits nothing failed = refl
  left_same New (synced false) fits nothing failed = refl
  left_same Torn (synced false) fits nothing failed = refl
  left_same New (wrote at new true) fits nothing failed = search rules
  left_same Torn (wrote at new true) fits nothing failed = search rules
  left_same Old (synced true) fits nothing failed = search rules
  left_same New (synced true) fits nothing failed = search rules
  left_same Torn (synced true) fits nothing failed = search rules

pub failed_calls_leave_nothing : FailedCallsLeaveNothing
failed_calls_leave_nothing m log call earlier left stands is failed =
    ap (left_by left log.start.bytes) is ∙ left_same log.start.bytes earlier (behind call (fit_here)) left call fit_here
    (subst (FailuresWriteNothing log.start.bytes) is stands.nothing) failed
  where
    fit_here : AllFit (length log.start.bytes) (call ∷ earlier)
    fit_here = subst (AllFit (length log.start.bytes)) is (fit_start m log stands)

    behind : (c : DiskCall) → AllFit (length log.start.bytes) (c ∷ earlier) → AllFit (length log.start.bytes) earlier
    behind (read ok) fits = fits
    behind (wrote at new ok) fits = fits.1
    behind (synced ok) fits = fits
