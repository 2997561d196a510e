-- Calls that are cut short: what a crash leaves at each moment of them.
use Rattle.std.proofs.Common.{◌≡◌, ◌⊎◌, ⊎_elim, ℕ, ◌+◌, ◌-◌, ◌≤◌, Bool, true, false, List, [], ◌∷◌, ◌++◌, length, refl, sym, ◌∙◌, ap, subst, arith, append_assoc}
use Rattle.grasp_disk.specs.Calls.{DiskCall, DiskLog, DiskState, read, wrote, synced, after_call, after_calls, after_made, state_of}
use Rattle.grasp_disk.specs.Crashes.{MayBecome, Leaves, AtEachMoment}
use Rattle.grasp_disk.specs.Memory.{AllFit}
use Rattle.grasp_disk.proofs.Bytes.{length-overlaid, overlaid_before, overlaid_behind}
use Rattle.grasp_disk.proofs.Leaving.{first_in}
use Rattle.grasp_disk.proofs.Moments.{moments_behind}
use Rattle.grasp_store.specs.Asking.{BreaksIn}
use Rattle.grasp_store.specs.Saving.{FailsAs, IsCutShort, FailsIn}

pub length-after : (s : DiskState) (calls : List DiskCall) → AllFit (length s.bytes) calls → length (after_calls calls s).bytes ≡ length s.bytes
length-after s [] fit = refl
length-after s (read ok ∷ earlier) fit = length-after s earlier fit
length-after s (wrote at new ok ∷ earlier) fit = length-overlaid (after_calls earlier s).bytes at new (omega (arith, fit.0, length-after s earlier fit.1)) ∙ length-after s earlier fit.1
length-after s (synced true ∷ earlier) fit = length-after s earlier fit
length-after s (synced false ∷ earlier) fit = length-after s earlier fit

-- those before others
pub first_moments : (s : DiskState) (P : List ℕ → Type 0) (later earlier : List DiskCall) → AtEachMoment s (later ++ earlier) P → AtEachMoment s earlier P
unfolding AtEachMoment
first_moments s P [] earlier moments = moments
first_moments s P (call ∷ later) earlier moments = first_moments s P later earlier moments.0

pub first_fit : (size : ℕ) (later earlier : List DiskCall) → AllFit size (later ++ earlier) → AllFit size earlier
first_fit size [] earlier fit = fit
first_fit size (read ok ∷ later) earlier fit = first_fit size later earlier fit
first_fit size (wrote at new ok ∷ later) earlier fit = first_fit size later earlier fit.1
first_fit size (synced ok ∷ later) earlier fit = first_fit size later earlier fit

-- a failed write of other bytes may leave what the write may leave
other_write : (t : DiskState) (at : ℕ) (new bytes : List ℕ) (ok : Bool) (content : List ℕ) → at + length new ≤ length t.bytes → length bytes ≡ length new
    → MayBecome (after_call (wrote at bytes false) t) content → MayBecome (after_call (wrote at new ok) t) content
other_write t at new bytes ok content fits long may = record {
  size = may.size ∙ length-overlaid t.bytes at bytes fits_too ∙ sym (length-overlaid t.bytes at new fits);
  rest = λ i d outside.
      may.rest i d (λ r has. outside r (subst (λ (n : ℕ). Rattle.std.proofs.Common.Contains (record { at = at; count = n } ∷ t.loose) r) long has))
      ∙ ⊎_elim
      (λ before. overlaid_before t.bytes at bytes fits_too i d before ∙ sym (overlaid_before t.bytes at new fits i d before))
      (λ behind. overlaid_behind t.bytes at bytes fits_too i d (omega (arith, behind, long)) ∙ sym (overlaid_behind t.bytes at new fits i d behind))
      (outside (record { at = at; count = length new }) (first_in (record { at = at; count = length new }) t.loose));
}
  where
    fits_too : at + length bytes ≤ length t.bytes
    fits_too = omega (arith, fits, long)

module _ (s : DiskState) (P : List ℕ → Type 0) where
  -- inside a call that failed a crash leaves what it leaves inside that call
  failed_leaves : (call failed : DiskCall) (earlier : List DiskCall) → AllFit (length s.bytes) (call ∷ earlier) → FailsAs call failed → AtEachMoment s (call ∷ earlier) P
      → Leaves (after_calls (failed ∷ earlier) s) P
  unfolding AtEachMoment
  failed_leaves (read ok) failed earlier fit is moments =
      subst (λ (f : DiskCall). Leaves (after_calls (f ∷ earlier) s) P) (sym is) (moments_behind s P earlier moments.0 [] earlier refl)
  failed_leaves (synced ok) failed earlier fit is moments =
      subst (λ (f : DiskCall). Leaves (after_calls (f ∷ earlier) s) P) (sym is) (moments_behind s P earlier moments.0 [] earlier refl)
  failed_leaves (wrote at new ok) failed earlier fit (bytes, long, is) moments =
      subst (λ (f : DiskCall). Leaves (after_calls (f ∷ earlier) s) P) (sym is) leaves
    where
      inside : at + length new ≤ length (after_calls earlier s).bytes
      inside = omega (arith, fit.0, length-after s earlier fit.1)

      leaves : Leaves (after_calls (wrote at bytes false ∷ earlier) s) P
      leaves content may = moments.1 content (other_write (after_calls earlier s) at new bytes ok content inside long may)

  pub cut_moments : (calls made : List DiskCall) → AllFit (length s.bytes) calls → IsCutShort calls made → AtEachMoment s calls P → AtEachMoment s made P
  unfolding AtEachMoment
  cut_moments calls made fit cut moments =
      subst (λ (m : List DiskCall). AtEachMoment s m P) (sym cut.is) (here.0, failed_leaves cut.call cut.failed cut.earlier here_fit cut.fails here)
    where
      here : AtEachMoment s (cut.call ∷ cut.earlier) P
      here = first_moments s P cut.later (cut.call ∷ cut.earlier) (subst (λ (m : List DiskCall). AtEachMoment s m P) cut.all moments)

      here_fit : AllFit (length s.bytes) (cut.call ∷ cut.earlier)
      here_fit = first_fit (length s.bytes) cut.later (cut.call ∷ cut.earlier) (subst (AllFit (length s.bytes)) cut.all fit)

-- calls that broke off, with what a crash leaves at each moment
pub breaking_fails : (Stands : DiskLog → Type 0) (log : DiskLog) (calls : List DiskCall) (P : List ℕ → Type 0) → AllFit (length (state_of log).bytes) calls → AtEachMoment (state_of log) calls P
    → BreaksIn Stands log calls → FailsIn Stands log calls P
breaking_fails Stands log calls P fit moments breaks = record {
  made = breaks.made;
  short = breaks.short;
  makes = record { stands = breaks.stands; moments = cut_moments (state_of log) P calls breaks.made fit breaks.short moments };
}

-- ---- where calls break off

-- the last one failed
pub breaks_last : (Stands : DiskLog → Type 0) (log : DiskLog) (call failed : DiskCall) (earlier : List DiskCall) → FailsAs call failed → Stands (after_made log (failed ∷ earlier))
    → BreaksIn Stands log (call ∷ earlier)
breaks_last Stands log call failed earlier fails stands = record {
  made = failed ∷ earlier;
  short = record { later = []; call = call; earlier = earlier; all = refl; failed = failed; fails = fails; is = refl };
  stands = stands;
}

-- one of the first failed, and the later ones weren't made
pub breaks_first : (Stands : DiskLog → Type 0) (log : DiskLog) (later calls : List DiskCall) → BreaksIn Stands log calls → BreaksIn Stands log (later ++ calls)
breaks_first Stands log later calls breaks = record {
  made = breaks.made;
  short = record {
    later = later ++ breaks.short.later;
    call = breaks.short.call;
    earlier = breaks.short.earlier;
    all = ap (λ (l : List DiskCall). later ++ l) breaks.short.all ∙ sym (append_assoc later breaks.short.later (breaks.short.call ∷ breaks.short.earlier));
    failed = breaks.short.failed;
    fails = breaks.short.fails;
    is = breaks.short.is;
  };
  stands = breaks.stands;
}

-- the first were made, and one of the later ones failed
pub breaks_later : (Stands : DiskLog → Type 0) (log : DiskLog) (later calls : List DiskCall) → BreaksIn Stands (after_made log calls) later → BreaksIn Stands log (later ++ calls)
breaks_later Stands log later calls breaks = record {
  made = breaks.made ++ calls;
  short = record {
    later = breaks.short.later;
    call = breaks.short.call;
    earlier = breaks.short.earlier ++ calls;
    all = ap (λ (l : List DiskCall). l ++ calls) breaks.short.all ∙ append_assoc breaks.short.later (breaks.short.call ∷ breaks.short.earlier) calls;
    failed = breaks.short.failed;
    fails = breaks.short.fails;
    is = ap (λ (l : List DiskCall). l ++ calls) breaks.short.is;
  };
  stands = subst (λ (l : DiskLog). Stands l) (sym (made_join log calls breaks.made)) breaks.stands;
}
  where
    made_join : (log : DiskLog) (made later : List DiskCall) → after_made log (later ++ made) ≡ after_made (after_made log made) later
    made_join log made later = ap (λ (calls : List DiskCall). with_calls log calls) (append_assoc later made log.calls)
      where
        with_calls : DiskLog → List DiskCall → DiskLog
        with_calls log calls = record { start = log.start; calls = calls; stops = log.stops }
