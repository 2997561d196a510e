-- Which calls of a disk in memory were made where it stops.
use Rattle.std.proofs.Common.{◌≡◌, inl, inr, ℕ, suc, ◌+◌, ◌-◌, ◌<◌, ◌≤◌, true, false, nat_lt, List, [], ◌∷◌, ◌++◌, length, drop, Option, Some, sym, ◌∙◌, ap, subst, arith, append_assoc, length-append}
use Rattle.std.proofs.lemmas.List.{drop_at}
use Rattle.grasp_pool.proofs.Lists.{lt_tells}
use Rattle.grasp_disk.specs.Calls.{DiskCall, DiskLog, read, wrote, synced, after_made}
use Rattle.grasp_disk.specs.Memory.{AllSucceed, StopsAt, goes, left_by, succeeded}
use Rattle.grasp_disk.proofs.Lefts.{failed_calls_leave_nothing}
use Rattle.grasp_store.specs.Saving.{FailsAs, first_calls}
use Rattle.grasp_laws_store.specs.Stopping.{StopsCutShort, StopsNoEarlier}

fails_false : (call failed : DiskCall) → FailsAs call failed → succeeded failed ≡ false
fails_false (read ok) failed is = ap succeeded is
fails_false (wrote at new ok) failed (bytes, long, is) = ap succeeded is
fails_false (synced ok) failed is = ap succeeded is

-- those before others all succeeded
first_succeed : (later earlier : List DiskCall) → AllSucceed (later ++ earlier) → AllSucceed earlier
first_succeed [] earlier all = all
first_succeed (call ∷ later) earlier all = first_succeed later earlier all.1

module _ (log : DiskLog) (n : ℕ) (stops : log.stops ≡ Some (length log.calls + n)) where
  -- calls that all succeeded, the newest one among them, are no more than so many
  no_more : (calls : List DiskCall) → AllSucceed calls → StopsAt log.stops (calls ++ log.calls) → length calls ≤ n
  no_more [] all at = omega arith
  no_more (call ∷ earlier) all at =
      let test : nat_lt (length (earlier ++ log.calls)) (length log.calls + n) ≡ true = sym (at.0 ∙ ap (λ (o : Option ℕ). goes o (length (earlier ++ log.calls))) stops) ∙ all.0
      in below (length-append earlier log.calls) test
    where
      below : length (earlier ++ log.calls) ≡ length earlier + length log.calls → nat_lt (length (earlier ++ log.calls)) (length log.calls + n) ≡ true → suc (length earlier) ≤ n
      below long test = elim (lt_tells (length (earlier ++ log.calls)) (length log.calls + n)) [
        | inl h ↦ omega (arith, long, h.1)
        | inr h ↦ absurd (differ (sym test ∙ h.0))
      ]
        where
          differ : true ≡ false → ⊥
          differ e = search Rattle.std.proofs.Common.rules

  -- a call that failed comes behind so many
  no_fewer : (failed : DiskCall) (earlier : List DiskCall) → succeeded failed ≡ false → StopsAt log.stops (failed ∷ (earlier ++ log.calls)) → n ≤ length earlier
  no_fewer failed earlier false_is at =
      let test : nat_lt (length (earlier ++ log.calls)) (length log.calls + n) ≡ false = sym (at.0 ∙ ap (λ (o : Option ℕ). goes o (length (earlier ++ log.calls))) stops) ∙ false_is
      in above (length-append earlier log.calls) test
    where
      above : length (earlier ++ log.calls) ≡ length earlier + length log.calls → nat_lt (length (earlier ++ log.calls)) (length log.calls + n) ≡ false → n ≤ length earlier
      above long test = elim (lt_tells (length (earlier ++ log.calls)) (length log.calls + n)) [
        | inl h ↦ absurd (differ (sym h.0 ∙ test))
        | inr h ↦ omega (arith, long, h.1)
      ]
        where
          differ : true ≡ false → ⊥
          differ e = search Rattle.std.proofs.Common.rules

pub stops_no_earlier : StopsNoEarlier
stops_no_earlier m log n calls stops all stands = no_more log n stops calls all stands.stops

-- the earlier ones of calls are the first so many of them
earlier_first : (n : ℕ) (later earlier : List DiskCall) (call : DiskCall) → length earlier ≡ n → first_calls n (later ++ call ∷ earlier) ≡ earlier
earlier_first n later earlier call long =
    ap (λ (l : List DiskCall). drop (length (later ++ call ∷ earlier) - n) l) (sym (append_assoc later (call ∷ []) earlier))
    ∙ drop_at (later ++ call ∷ []) earlier (length (later ++ call ∷ earlier) - n) (omega (arith, long, length-append later (call ∷ []), length-append later (call ∷ earlier)))

pub stops_cut_short : StopsCutShort
stops_cut_short m log n calls made left stops all cut stands = (more, leaves)
  where
    all_here : AllSucceed (cut.later ++ cut.call ∷ cut.earlier)
    all_here = subst AllSucceed cut.all all

    stops_here : StopsAt log.stops (cut.failed ∷ (cut.earlier ++ log.calls))
    stops_here = subst (λ (l : List DiskCall). StopsAt log.stops (l ++ log.calls)) cut.is stands.stops

    as_many : length cut.earlier ≡ n
    as_many =
        omega (
          arith,
          no_more log n stops cut.earlier (first_succeed (cut.later ++ cut.call ∷ []) cut.earlier (subst AllSucceed (sym (append_assoc cut.later (cut.call ∷ []) cut.earlier)) all_here)) stops_here.1,
          no_fewer log n stops cut.failed cut.earlier (fails_false cut.call cut.failed cut.fails) stops_here,
        )

    more : n < length calls
    more = omega (arith, as_many, ap length cut.all, length-append cut.later (cut.call ∷ cut.earlier))

    first_are : first_calls n calls ≡ cut.earlier
    first_are = ap (first_calls n) cut.all ∙ earlier_first n cut.later cut.earlier cut.call as_many

    leaves : left_by left log.start.bytes (made ++ log.calls) ≡ left_by left log.start.bytes (first_calls n calls ++ log.calls)
    leaves =
        failed_calls_leave_nothing m (after_made log made) cut.failed (cut.earlier ++ log.calls) left stands (ap (λ (l : List DiskCall). l ++ log.calls) cut.is) (fails_false cut.call cut.failed cut.fails)
        ∙ ap (λ (l : List DiskCall). left_by left log.start.bytes (l ++ log.calls)) (sym first_are)
