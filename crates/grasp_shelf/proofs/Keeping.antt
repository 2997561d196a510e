-- What a shelf keeps, from what its keeper does.
use Rattle.std.proofs.Common.{◌≡◌, ◌≤◌, arith, ℕ, [], None, Some, Result, Ok, Err, true, false, refl, sym, ◌∙◌, ap, subst}
use Rattle.std.specs.Prelude.{Bool, MatchResult, OnOk, IsErrOf, Option, is_err, is_some}
use Rattle.std.proofs.lemmas.Option.{none-some}
use Rattle.grasp_io.specs.Faults.{Rose}
use Rattle.grasp_disk.specs.Calls.{DiskLog, bytes_of}
use Rattle.grasp_agent.specs.States.{AgentState}
use Rattle.grasp_store.specs.Current.{image_on}
use Rattle.grasp_store.specs.Images.{image_behind}
use Rattle.grasp_store.specs.Keeping.{GoesOn, IsKeepFault, KeeperState, Keeps, Saves, kept_before as image_before, saves_before, saves_behind}
use Rattle.grasp_store.specs.Saving.{FailsIn, IsOldOrNew, before_calls, behind_calls}
use Rattle.grasp_store.specs.declared.fault.KeepFault.{KeepFault}
use Rattle.grasp_store.specs.declared.fault.KeepFault.TheVariants as keep_fault
use Rattle.grasp_shelf.specs.Shelves.{ShelfState, OpenKeeps, KeepsShelf, KeptOn, kept_before, kept_behind, faults_with, faults_of, has_stopped, is_stopped}
use Rattle.grasp_shelf.specs.Shelves.{store_with, store_of, Asking, ahead, behind, saves_for, BreaksOff, FailsAtKeeper, FailsBetween, FailsToKeep, MayKeep}

module _ {B : Type 0} (stands : B → DiskLog → Type 0) (faults : B → ℕ) where
  -- nothing was asked
  pub kept_none : (a : ShelfState B) → KeptOn stands faults a (λ log. log) a
  kept_none a = record { keeps = λ log keeps. keeps; never_falls = omega arith; forgets = λ none. refl; stopped = refl }

  -- one after the other
  pub kept_then : (a b c : ShelfState B) (f g : DiskLog → DiskLog) → KeptOn stands faults a f b → KeptOn stands faults b g c → KeptOn stands faults a (λ log. g (f log)) c
  kept_then a b c f g p q = record {
    keeps = λ log keeps. q.keeps (f log) (p.keeps log keeps);
    never_falls = omega (arith, p.never_falls, q.never_falls);
    forgets = λ none. let same = p.forgets none in q.forgets (ap (λ (s : ShelfState B). s.keeper) same ∙ none) ∙ same;
    stopped = q.stopped ∙ p.stopped;
  }

  -- a fault of the disk is counted
  rose_between : (p q : Option B) (m n : Option (KeeperState B)) (asking : Asking) → FailsBetween stands faults m asking keep_fault.DiskFault n
      → Rose (faults_with faults p m) (faults_with faults q n)
  rose_between p q None n asking fails = absurd fails
  rose_between p q (Some k) None asking fails = absurd fails
  rose_between p q (Some k) (Some l) asking fails = fails.cause.2

  pub fails_rose : (a b : ShelfState B) (asking : Asking) → FailsToKeep stands faults a asking keep_fault.DiskFault b
      → Rose (faults_of faults a) (faults_of faults b)
  fails_rose a b asking fails = rose_between a.store b.store a.keeper b.keeper asking fails

  -- an open store fails as stopped after an earlier fault alone
  stopped_between : (m n : Option (KeeperState B)) (asking : Asking) → FailsBetween stands faults m asking keep_fault.Stopped n → has_stopped m ≡ true
  stopped_between None n asking fails = absurd fails
  stopped_between (Some k) None asking fails = absurd fails
  stopped_between (Some k) (Some l) asking fails = fails.cause.0

  pub fails_stopped : (a b : ShelfState B) (asking : Asking) → FailsToKeep stands faults a asking keep_fault.Stopped b → is_stopped a ≡ true
  fails_stopped a b asking fails = stopped_between a.keeper b.keeper asking fails

  module _ (a b : ShelfState B) (k l : KeeperState B) (old : a.keeper ≡ Some k) (new : b.keeper ≡ Some l) where
    kept_by : (next : DiskLog → DiskLog) → ((log : DiskLog) → Keeps stands [] k log → Keeps stands [] l (next log)) → faults k.disk ≤ faults l.disk
        → l.faulty ≡ k.faulty → KeptOn stands faults a next b
    kept_by next keeps rises same = record {
      keeps = λ log is. subst (λ o. OpenKeeps stands o (next log)) (sym new) (keeps log (subst (λ o. OpenKeeps stands o log) old is));
      never_falls = subst (λ o. faults_with faults a.store o ≤ faults_of faults b) (sym old) (subst (λ o. faults k.disk ≤ faults_with faults b.store o) (sym new) rises);
      forgets = λ none. absurd (none-some k (sym none ∙ old));
      stopped = ap has_stopped new ∙ same ∙ sym (ap has_stopped old);
    }

    fault_by : (asking : Asking) (fault : KeepFault) → FailsAtKeeper stands faults k asking fault l → FailsToKeep stands faults a asking fault b
    fault_by asking fault p =
        subst (λ o. FailsBetween stands faults o asking fault b.keeper) (sym old) (subst (λ o. FailsBetween stands faults (Some k) asking fault o) (sym new) p)

    pub before_kept : (s : AgentState) (r : Result (Unit {0}) KeepFault)
        → OnOk r ((roots : _) (log : DiskLog) → Keeps stands roots k log → Saves stands roots l log (before_calls (bytes_of log) s) (image_before (image_on roots (bytes_of log)) s))
        → (IsErrOf r keep_fault.DiskFault → (roots : _) (log : DiskLog) → Keeps stands roots k log
        → FailsIn (stands l.disk) log (before_calls (bytes_of log) s) (IsOldOrNew (bytes_of log) (image_before (image_on roots (bytes_of log)) s)))
        → MatchResult r (λ _. GoesOn k (saves_before s)) (λ fault. IsKeepFault faults k l (saves_before s) fault) → l.faulty ≡ is_err r
        → faults k.disk ≤ faults l.disk
        → MatchResult r (λ _. KeptOn stands faults a (kept_before s) b) (λ fault. FailsToKeep stands faults a (ahead s) fault b)
    before_kept s (Ok u) done failed answers stops rises = kept_by (kept_before s) (λ log keeps. (done [] log keeps).keeps) rises (stops ∙ sym answers.going)
    before_kept s (Err fault) done failed answers stops rises =
        fault_by (ahead s) fault (record { cause = answers; leaves = λ is log keeps. failed (ap (λ e. Err e) is) [] log keeps; stops = stops })

    pub behind_kept : (s : AgentState) (r : Result (Unit {0}) KeepFault)
        → OnOk r ((roots : _) (log : DiskLog) → Keeps stands roots k log → Saves stands roots l log (behind_calls roots (bytes_of log) s) (image_behind s))
        → (IsErrOf r keep_fault.DiskFault → (roots : _) (log : DiskLog) → Keeps stands roots k log
        → FailsIn (stands l.disk) log (behind_calls roots (bytes_of log) s) (IsOldOrNew (bytes_of log) (image_behind s)))
        → MatchResult r (λ _. GoesOn k (saves_behind k.image s)) (λ fault. IsKeepFault faults k l (saves_behind k.image s) fault) → l.faulty ≡ is_err r
        → faults k.disk ≤ faults l.disk
        → MatchResult r (λ _. KeptOn stands faults a (kept_behind s) b) (λ fault. FailsToKeep stands faults a (behind s) fault b)
    behind_kept s (Ok u) done failed answers stops rises = kept_by (kept_behind s) (λ log keeps. (done [] log keeps).keeps) rises (stops ∙ sym answers.going)
    behind_kept s (Err fault) done failed answers stops rises =
        fault_by (behind s) fault (record { cause = answers; leaves = λ is log keeps. failed (ap (λ e. Err e) is) [] log keeps; stops = stops })

    pub before_may : (s : AgentState) (r : Result (Unit {0}) KeepFault)
        → MatchResult r (λ _. GoesOn k (saves_before s)) (λ fault. IsKeepFault faults k l (saves_before s) fault)
        → OnOk r (MayKeep a.keeper (ahead s))
    before_may s (Ok u) answers = subst (λ o. MayKeep o (ahead s)) (sym old) answers
    before_may s (Err fault) answers = tt

    pub behind_may : (s : AgentState) (r : Result (Unit {0}) KeepFault)
        → MatchResult r (λ _. GoesOn k (saves_behind k.image s)) (λ fault. IsKeepFault faults k l (saves_behind k.image s) fault)
        → OnOk r (MayKeep a.keeper (behind s))
    behind_may s (Ok u) answers = subst (λ o. MayKeep o (behind s)) (sym old) answers
    behind_may s (Err fault) answers = tt

    pub asked_rises : faults k.disk ≤ faults l.disk → faults_of faults a ≤ faults_of faults b
    asked_rises rises = subst (λ o. faults_with faults a.store o ≤ faults_of faults b) (sym old) (subst (λ o. faults k.disk ≤ faults_with faults b.store o) (sym new) rises)

    pub asked_there : is_some (store_of b) ≡ is_some (store_of a)
    asked_there = ap (λ o. is_some (store_with b.store o)) new ∙ sym (ap (λ o. is_some (store_with a.store o)) old)

    pub behind_has : (s : AgentState) (r : Result (Unit {0}) KeepFault)
        → OnOk r ((roots : _) (log : DiskLog) → Keeps stands roots k log → Saves stands roots l log (behind_calls roots (bytes_of log) s) (image_behind s))
        → OnOk r ((log : DiskLog) → KeepsShelf stands a log → image_on [] (bytes_of (kept_behind s log)) ≡ image_behind s)
    behind_has s (Ok u) done = λ log is. (done [] log (subst (λ o. OpenKeeps stands o log) old is)).has
    behind_has s (Err fault) done = tt

  -- no store is open
  pub nothing_kept : (a : ShelfState B) (next : DiskLog → DiskLog) → a.keeper ≡ None → KeptOn stands faults a next a
  nothing_kept a next none = record {
    keeps = λ log is. absurd (subst (λ o. OpenKeeps stands o log) none is);
    never_falls = omega arith;
    forgets = λ same. refl;
    stopped = refl;
  }

  pub nothing_may : (a : ShelfState B) (asking : Asking) → a.keeper ≡ None → MayKeep a.keeper asking
  nothing_may a asking none = subst (λ o. MayKeep o asking) (sym none) tt

  pub nothing_has : (a : ShelfState B) (s : AgentState) → a.keeper ≡ None → (log : DiskLog) → KeepsShelf stands a log → image_on [] (bytes_of (kept_behind s log)) ≡ image_behind s
  nothing_has a s none log is = absurd (subst (λ o. OpenKeeps stands o log) none is)

-- an open store isn't none
pub open_goes : {B : Type 0} (a : ShelfState B) (k : KeeperState B) (r : Bool) → a.keeper ≡ Some k → a.keeper ≡ None → r ≡ true
open_goes a k r some none = absurd (none-some k (sym none ∙ some))

pub ruleset asking = (before_kept, behind_kept, before_may, behind_may, asked_rises, asked_there, behind_has, nothing_kept, nothing_may, nothing_has, open_goes)
