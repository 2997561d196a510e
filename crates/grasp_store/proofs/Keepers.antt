-- What the calls of a keeper come to.
use Rattle.std.proofs.Common.{◌≡◌, inl, ℕ, ◌+◌, ◌-◌, ◌<◌, ◌^◌, ◌==◌, Bool, true, false, List, [], Option, None, Some, Result, Ok, Err, refl, sym, ◌∙◌, ap, subst}
use Rattle.std.specs.Prelude.{is_err, is_some, not, IsErrOf, IsTrue, MatchResult, OnOk}
use Rattle.std.specs.Bool.{Decides}
use Rattle.std.specs.Cmp.Lexicographic.{pointwise}
use Rattle.std.proofs.lemmas.Bool.Decides.{Decides-and, Decides-eqb}
use Rattle.std.proofs.lemmas.Option.{none-some, same_Some}
use Rattle.std.proofs.lemmas.Slice.Eq.{slice_eq-Decides}
use Rattle.grasp_cbor.proofs.Facts.Bools.{chosen_yes, chosen_no}
use Rattle.grasp_disk.specs.Calls.{DiskCall, DiskLog, after_made, bytes_of, state_of}
use Rattle.grasp_disk.specs.Crashes.{AtEachMoment}
use Rattle.grasp_disk.proofs.Leaving.{settled_leaves}
use Rattle.grasp_types.specs.Prefix.{AddressBlock as Prefix}
use Rattle.grasp_pool.specs.declared.image.PoolImage.{PoolImage}
use Rattle.grasp_pool.specs.declared.roots.RootPrefix.{RootPrefix}
use Rattle.grasp_pool.specs.Functions.{can_gain}
use Rattle.grasp_pool.specs.Spans.{IsValid}
use Rattle.grasp_agent.specs.Kept.{IsKept, ActStands}
use Rattle.grasp_agent.specs.States.{AgentState, accepted_by}
use Rattle.grasp_agent.specs.declared.act.Act.{Act}
use Rattle.grasp_agent.specs.declared.act.Act.TheVariants as act
use Rattle.grasp_agent.proofs.Keeping.{act_stands}
use Rattle.grasp_store.specs.Asking.{BreaksIn, IsNotPut}
use Rattle.grasp_store.specs.Current.{image_on}
use Rattle.grasp_store.specs.Images.{IsGoodImage, image_of, is_same_image, is_same_prefix, with_doubt}
use Rattle.grasp_store.specs.Keeping.{GoesOn, IsKeepFault, KeeperState, Keeps, Saves, image_kept, saves_behind}
use Rattle.grasp_store.specs.Saving.{FailsIn, IsOldOrNew, accepting_calls, behind_calls, next_place, save_calls}
use Rattle.grasp_store.specs.declared.fault.KeepFault.{KeepFault}
use Rattle.grasp_store.specs.declared.fault.KeepFault.TheVariants as keep_fault
use Rattle.grasp_store.specs.declared.looking.Position.{Position}
use Rattle.grasp_store.proofs.Keeping.{IsSavedBy, calls_by, keeper_fails, keeper_saves}

module _ {D : Type 0} (Stands : D → DiskLog → Type 0) (faults : D → ℕ) (old new : KeeperState D) where
  abbrev pub SavesAlways : PoolImage → Type 0
  SavesAlways image = (roots : List RootPrefix) (log : DiskLog) → Keeps Stands roots old log → Saves Stands roots new log (save_calls (bytes_of log) image) image

  abbrev pub FailsAlways : PoolImage → Type 0
  FailsAlways image = (roots : List RootPrefix) (log : DiskLog) → Keeps Stands roots old log
      → FailsIn (Stands new.disk) log (save_calls (bytes_of log) image) (IsOldOrNew (bytes_of log) image)

  -- a save either is put, or it isn't
  abbrev pub IsPutOrNot : Result (Unit {0}) KeepFault → Type 0
  IsPutOrNot r = MatchResult r (λ _. old.number < 2 ^ 64 - 1) (λ fault. IsNotPut faults old.disk new.disk old.number fault)

  module _ (image : PoolImage) (good : IsGoodImage image) where
    pub saves_by : (r : Result (Unit {0}) KeepFault) → IsPutOrNot r → OnOk r ((log : DiskLog) → Stands old.disk log → Stands new.disk (after_made log (calls_by old image))) → OnOk r (IsSavedBy old image new)
        → OnOk r (SavesAlways image)
    saves_by (Ok done) put stands after = λ roots log keeps. keeper_saves Stands roots old log keeps image good put new after (stands log keeps.stands)
    saves_by (Err fault) put stands after = tt

    pub fails_by : (r : Result (Unit {0}) KeepFault) → IsPutOrNot r → (IsErrOf r keep_fault.DiskFault → (log : DiskLog) → Stands old.disk log → BreaksIn (Stands new.disk) log (calls_by old image))
        → IsErrOf r keep_fault.DiskFault → FailsAlways image
    fails_by r put breaks is = λ roots log keeps.
        keeper_fails Stands roots old log keeps image good (subst IsPutOrNot is put).0 (Stands new.disk) (breaks is log keeps.stands)

  -- why a save fails
  pub answers_by : (r : Result (Unit {0}) KeepFault) → old.faulty ≡ false → (saves : Bool) → saves ≡ true → IsPutOrNot r
      → MatchResult r (λ _. GoesOn old saves) (λ fault. IsKeepFault faults old new saves fault)
  answers_by (Ok done) going saves so put = record { going = going; number = λ _. put }
  answers_by (Err keep_fault.DiskFault) going saves so put = (record { going = going; number = λ _. put.0 }, so, put.1)
  answers_by (Err keep_fault.Spent) going saves so put = (going, so, put.0, put.1)
  answers_by (Err keep_fault.Stopped) going saves so put = absurd put

-- a keeper of these parts
abbrev pub keeper_of : {D : Type 0} → D → Position → PoolImage → Bool → KeeperState D
keeper_of disk p image faulty = record { disk = disk; current = p.current; behind = p.behind; number = p.number; image = image; faulty = faulty }

-- what a save leaves of the parts
pub saved_parts : {D : Type 0} (disk disk' : D) (p p' : Position) (image image' next : PoolImage) (faulty faulty' : Bool) (r : Result (Unit {0}) KeepFault)
    → OnOk r (p' ≡ record { current = Some (next_place p.current); behind = is_some p.current; number = p.number + 1 }) → OnOk r (image' ≡ next) → faulty' ≡ is_err r
    → OnOk r (IsSavedBy (keeper_of disk p image faulty) next (keeper_of disk' p' image' faulty'))
saved_parts disk disk' p p' image image' next faulty faulty' (Ok done) position is fault = record {
  current = ap (λ (q : Position). q.current) position;
  behind = ap (λ (q : Position). q.behind) position;
  number = ap (λ (q : Position). q.number) position;
  image_is = is;
  going = fault;
}
saved_parts disk disk' p p' image image' next faulty faulty' (Err fault) position is fault_is = tt

-- where nothing is saved
pub nothing_saved : {D : Type 0} (Stands : D → DiskLog → Type 0) (roots : List RootPrefix) (keeper : KeeperState D) (log : DiskLog) → Keeps Stands roots keeper log → (image : PoolImage) → image_on roots (bytes_of log) ≡ image
    → Saves Stands roots keeper log [] image
unfolding AtEachMoment
nothing_saved Stands roots keeper log keeps image has = record {
  keeps = keeps;
  has = has;
  moments = λ content may. subst (λ (bytes : List ℕ). IsOldOrNew (bytes_of log) image bytes) (sym (settled_leaves (state_of log) keeps.settled content may)) (record { sound = keeps.sound; current = inl refl });
}

-- ---- before a call

-- what an agent is about to accept it can gain
pub accepted_gains : (s : AgentState) → IsKept s → (p : Prefix) → accepted_by s.act ≡ Some p → IsValid p × (can_gain s.pool p ≡ true)
accepted_gains s kept p accepts = of_act s.act refl accepts
  where
    of_act : (o : Option Act) → s.act ≡ o → accepted_by o ≡ Some p → IsValid p × (can_gain s.pool p ≡ true)
    of_act None is none = absurd (none-some p none)
    of_act (Some (act.Offer place h q)) is none = absurd (none-some p none)
    of_act (Some (act.Counter h n)) is none = absurd (none-some p none)
    of_act (Some (act.Decline h reason)) is none = absurd (none-some p none)
    of_act (Some (act.Accept h q)) is some =
        let stands : ActStands s (act.Accept h q) = act_stands s (act.Accept h q) is kept
        in subst (λ (x : Prefix). IsValid x × (can_gain s.pool x ≡ true)) (same_Some q p some) (stands.1, stands.2)

module _ {D : Type 0} (Stands : D → DiskLog → Type 0) (faults : D → ℕ) (old new : KeeperState D) (s : AgentState) where
  abbrev pub SavesBefore : Option Prefix → Type 0
  SavesBefore o = (roots : List RootPrefix) (log : DiskLog) → Keeps Stands roots old log
      → Saves Stands roots new log (accepting_calls (bytes_of log) (image_of s.pool) o) (image_kept (image_on roots (bytes_of log)) (image_of s.pool) o)

  abbrev pub FailsBefore : Option Prefix → Type 0
  FailsBefore o = (roots : List RootPrefix) (log : DiskLog) → Keeps Stands roots old log
      → FailsIn (Stands new.disk) log (accepting_calls (bytes_of log) (image_of s.pool) o) (IsOldOrNew (bytes_of log) (image_kept (image_on roots (bytes_of log)) (image_of s.pool) o))

  -- the call accepts nothing
  pub nothing_before : new ≡ old → accepted_by s.act ≡ None → SavesBefore (accepted_by s.act)
  nothing_before same none =
      subst (λ (o : Option Prefix). SavesBefore o) (sym none)
      (λ roots log keeps. subst (λ (k : KeeperState D). Saves Stands roots k log [] (image_on roots (bytes_of log))) (sym same) (nothing_saved Stands roots old log keeps (image_on roots (bytes_of log)) refl))

  module _ (p : Prefix) (image : PoolImage) (accepts : accepted_by s.act ≡ Some p) (is : image ≡ with_doubt p (image_of s.pool)) (good : IsGoodImage (with_doubt p (image_of s.pool))) where
    pub saved_before : (r : Result (Unit {0}) KeepFault) → IsPutOrNot Stands faults old new r
        → OnOk r ((log : DiskLog) → Stands old.disk log → Stands new.disk (after_made log (calls_by old image))) → OnOk r (IsSavedBy old image new) → OnOk r (SavesBefore (accepted_by s.act))
    saved_before r put stands after =
        subst (λ (o : Option Prefix). OnOk r (SavesBefore o)) (sym accepts)
        (saves_by Stands faults old new (with_doubt p (image_of s.pool)) good r put
        (subst (λ (i : PoolImage). OnOk r ((log : DiskLog) → Stands old.disk log → Stands new.disk (after_made log (calls_by old i)))) is stands)
        (subst (λ (i : PoolImage). OnOk r (IsSavedBy old i new)) is after))

    pub failed_before : (r : Result (Unit {0}) KeepFault) → IsPutOrNot Stands faults old new r
        → (IsErrOf r keep_fault.DiskFault → (log : DiskLog) → Stands old.disk log → BreaksIn (Stands new.disk) log (calls_by old image)) → IsErrOf r keep_fault.DiskFault → FailsBefore (accepted_by s.act)
    failed_before r put breaks failed =
        subst (λ (o : Option Prefix). FailsBefore o) (sym accepts)
        (fails_by Stands faults old new (with_doubt p (image_of s.pool)) good r put
        (subst (λ (i : PoolImage). IsErrOf r keep_fault.DiskFault → (log : DiskLog) → Stands old.disk log → BreaksIn (Stands new.disk) log (calls_by old i)) is breaks) failed)

-- ---- behind a call

prefix_decides : (p q : Prefix) → Decides (is_same_prefix p q) (p ≡ q)
prefix_decides p q =
    let both = Decides-and (p.address == q.address) (p.length == q.length) (Decides-eqb p.address q.address) (Decides-eqb p.length q.length)
    in (λ t. ap (λ (a : ℕ). at a p.length) (both.0 t).0 ∙ ap (at q.address) (both.0 t).1, λ is. both.1 (ap (λ (x : Prefix). x.address) is, ap (λ (x : Prefix). x.length) is))
  where
    at : ℕ → ℕ → Prefix
    at a n = record { address = a; length = n }

-- the test says whether two images are the same
pub image_decides : (x y : PoolImage) → Decides (is_same_image x y) (x ≡ y)
image_decides x y =
    let free = slice_eq-Decides prefix_decides x.free y.free (pointwise is_same_prefix x.free y.free) refl
    in let doubtful = slice_eq-Decides prefix_decides x.doubtful y.doubtful (pointwise is_same_prefix x.doubtful y.doubtful) refl
    in let both = Decides-and (pointwise is_same_prefix x.free y.free) (pointwise is_same_prefix x.doubtful y.doubtful) free doubtful
    in (λ t. ap (λ (ps : List Prefix). of ps x.doubtful) (both.0 t).0 ∙ ap (of y.free) (both.0 t).1, λ is. both.1 (ap (λ (i : PoolImage). i.free) is, ap (λ (i : PoolImage). i.doubtful) is))
  where
    of : List Prefix → List Prefix → PoolImage
    of free doubtful = record { free = free; doubtful = doubtful }

not_both : (b : Bool) → b ≡ true → IsTrue (not b) → ⊥
not_both b is said = let e : false ≡ true = sym (ap not is) ∙ said in cc

-- a keeper goes on where it has nothing to save
pub goes_same : {D : Type 0} (keeper : KeeperState D) (s : AgentState) → keeper.faulty ≡ false → is_same_image keeper.image (image_of s.pool) ≡ true → GoesOn keeper (saves_behind keeper.image s)
goes_same keeper s going same = record { going = going; number = λ saves. absurd (not_both (is_same_image keeper.image (image_of s.pool)) same saves) }

module _ {D : Type 0} (Stands : D → DiskLog → Type 0) (faults : D → ℕ) (old new : KeeperState D) (s : AgentState) where
  abbrev pub SavesBehind : Type 0
  SavesBehind = (roots : List RootPrefix) (log : DiskLog) → Keeps Stands roots old log → Saves Stands roots new log (behind_calls roots (bytes_of log) s) (image_of s.pool)

  abbrev pub FailsBehind : Type 0
  FailsBehind = (roots : List RootPrefix) (log : DiskLog) → Keeps Stands roots old log
      → FailsIn (Stands new.disk) log (behind_calls roots (bytes_of log) s) (IsOldOrNew (bytes_of log) (image_of s.pool))

  -- the image is current already
  pub nothing_behind : new ≡ old → is_same_image old.image (image_of s.pool) ≡ true → SavesBehind
  nothing_behind same test roots log keeps =
      let here : is_same_image (image_on roots (bytes_of log)) (image_of s.pool) ≡ true = ap (λ (i : PoolImage). is_same_image i (image_of s.pool)) (sym keeps.remembers.image) ∙ test
      in subst (λ (k : KeeperState D). Saves Stands roots k log (behind_calls roots (bytes_of log) s) (image_of s.pool)) (sym same)
      (subst (λ (calls : List DiskCall). Saves Stands roots old log calls (image_of s.pool)) (sym (chosen_yes (is_same_image (image_on roots (bytes_of log)) (image_of s.pool)) [] (save_calls (bytes_of log) (image_of s.pool)) here))
      (nothing_saved Stands roots old log keeps (image_of s.pool) ((image_decides (image_on roots (bytes_of log)) (image_of s.pool)).0 here)))

  -- it isn't
  pub calls_behind : is_same_image old.image (image_of s.pool) ≡ false → (roots : List RootPrefix) (log : DiskLog) → Keeps Stands roots old log → behind_calls roots (bytes_of log) s ≡ save_calls (bytes_of log) (image_of s.pool)
  calls_behind test roots log keeps =
      chosen_no (is_same_image (image_on roots (bytes_of log)) (image_of s.pool)) [] (save_calls (bytes_of log) (image_of s.pool))
      (ap (λ (i : PoolImage). is_same_image i (image_of s.pool)) (sym keeps.remembers.image) ∙ test)
