-- What a crash leaves where a disk stops in the middle of calls.
use Rattle.std.proofs.Common.{ℕ, zero, suc, List, [], ◌∷◌, ◌++◌, length, refl, subst}
use Rattle.std.specs.Prelude.{drop}
use Rattle.grasp_disk.specs.Calls.{DiskCall, DiskState, read, wrote, synced, after_calls}
use Rattle.grasp_disk.specs.Crashes.{AtEachMoment, Leaves, MayBecome}
use Rattle.grasp_disk.specs.Memory.{AllFit, all_kept, left_by}
use Rattle.grasp_disk.specs.declared.left.Left.{Left}
use Rattle.grasp_disk.proofs.Lefts.{may_stand}
use Rattle.grasp_disk.proofs.Moments.{after-append, moments_behind}

-- ---- the first of calls, the newest first

dropped_moments : (s : DiskState) (P : List ℕ → Type 0) (m : ℕ) (calls : List DiskCall) → AtEachMoment s calls P → AtEachMoment s (drop m calls) P
unfolding AtEachMoment
dropped_moments s P zero calls moments = moments
dropped_moments s P (suc m) [] moments = moments
dropped_moments s P (suc m) (call ∷ earlier) moments = dropped_moments s P m earlier moments.0

dropped_fit : (size m : ℕ) (calls : List DiskCall) → AllFit size calls → AllFit size (drop m calls)
dropped_fit size zero calls fit = fit
dropped_fit size (suc m) [] fit = fit
dropped_fit size (suc m) (read ok ∷ earlier) fit = dropped_fit size m earlier fit
dropped_fit size (suc m) (wrote at new ok ∷ earlier) fit = dropped_fit size m earlier fit.1
dropped_fit size (suc m) (synced ok ∷ earlier) fit = dropped_fit size m earlier fit

joined_fit : (size : ℕ) (later earlier : List DiskCall) → AllFit size later → AllFit size earlier → AllFit size (later ++ earlier)
joined_fit size [] earlier fit fits = fits
joined_fit size (read ok ∷ later) earlier fit fits = joined_fit size later earlier fit fits
joined_fit size (wrote at new ok ∷ later) earlier fit fits = (fit.0, joined_fit size later earlier fit.1 fits)
joined_fit size (synced ok ∷ later) earlier fit fits = joined_fit size later earlier fit fits

-- ---- what is left

behind_all : (s : DiskState) (P : List ℕ → Type 0) (calls : List DiskCall) → AtEachMoment s calls P → Leaves (after_calls calls s) P
behind_all s P calls moments = moments_behind s P calls moments [] calls refl

-- what a crash leaves once the first of some calls were made
pub first_left : (left : Left) (start : List ℕ) (calls : List DiskCall) (m : ℕ) (P : List ℕ → Type 0) → AllFit (length start) calls → AtEachMoment (all_kept start) calls P
    → P (left_by left start (drop m calls))
first_left left start calls m P fit moments =
    behind_all (all_kept start) P (drop m calls) (dropped_moments (all_kept start) P m calls moments) (left_by left start (drop m calls))
    (may_stand left start (drop m calls) (dropped_fit (length start) m calls fit))

-- and once all of some calls were made, and the first of others
pub then_left : (left : Left) (start : List ℕ) (made later : List DiskCall) (m : ℕ) (P : List ℕ → Type 0) → AllFit (length start) made → AllFit (length start) later
    → AtEachMoment (after_calls made (all_kept start)) later P → P (left_by left start (drop m later ++ made))
then_left left start made later m P fit fits moments =
    behind_all (after_calls made (all_kept start)) P (drop m later) (dropped_moments (after_calls made (all_kept start)) P m later moments) (left_by left start (drop m later ++ made))
    (subst (λ (t : DiskState). MayBecome t (left_by left start (drop m later ++ made))) (after-append (drop m later) made (all_kept start))
    (may_stand left start (drop m later ++ made) (joined_fit (length start) (drop m later) made (dropped_fit (length start) m later fits) fit)))
