-- Why a node that serves stops with a fault of its store.
use Rattle.std.proofs.Common.{◌≡◌, ℕ, List, inl, inr, sym, ◌∙◌, true, Option, None, Some}
use Rattle.grasp_crew.specs.declared.servant.Servant.{Servant}
use Rattle.grasp_desk.specs.declared.desk.DeskPlan.{DeskPlan}
use Rattle.grasp_disk.specs.Calls.{DiskLog}
use Rattle.grasp_io.proofs.Facts.{rose_before}
use Rattle.grasp_io.specs.Faults.{Rose}
use Rattle.grasp_io.specs.declared.links.LinkPlan.{LinkPlan}
use Rattle.grasp_shelf.proofs.Keeping.{fails_rose, fails_stopped}
use Rattle.grasp_shelf.specs.Shelves.{ShelfState, Asking, faults_of, is_stopped}
use Rattle.grasp_store.specs.declared.fault.KeepFault.TheVariants as keep_fault
use Rattle.grasp_service.specs.Cuts.{FailsAsked, FailsAround, before_call, behind_call, FailsAmong}
use Rattle.grasp_service.specs.Rounds.{Outside}
use Rattle.grasp_service.specs.Served.{StopsShort}
use Rattle.grasp_service.specs.declared.cut.Cut.TheVariants as cut
use Rattle.grasp_service.specs.declared.plan.ServicePlan.{ServicePlan}

module _ {B : Type 0} (stands : B → DiskLog → Type 0) (faults : B → ℕ) where
  -- ---- a fault of the disk is counted

  asked_rose : (asking : Option Asking) (a b : ShelfState B) → FailsAsked stands faults a asking keep_fault.DiskFault b → Rose (faults_of faults a) (faults_of faults b)
  asked_rose None a b fails = absurd fails
  asked_rose (Some asking) a b fails = fails_rose stands faults a b asking fails

  around_rose : (now : ℕ) (m : Servant) (a b : ShelfState B) → FailsAround stands faults now m a keep_fault.DiskFault b → Rose (faults_of faults a) (faults_of faults b)
  around_rose now m a b (before_call fails) = asked_rose _ a b fails
  around_rose now m a b (behind_call r middle calm kept fails) =
      rose_before (faults_of faults a) (faults_of faults middle) (faults_of faults b) kept.never_falls (asked_rose _ middle b fails)

  among_rose : (now : ℕ) (crew : List Servant) (a b : ShelfState B) → FailsAmong stands faults now crew a keep_fault.DiskFault b
      → Rose (faults_of faults a) (faults_of faults b)
  among_rose now crew a b f =
      rose_before (faults_of faults a) (faults_of faults f.middle) (faults_of faults b) f.kept.never_falls (around_rose now _ f.middle b f.fails)

  pub stops_rose : (p : ServicePlan) (joining : LinkPlan) (doors : DeskPlan) (a b : ShelfState B) (x y : Outside)
      → StopsShort stands faults p joining doors a x (cut.Store keep_fault.DiskFault) b y → Rose (faults_of faults a) (faults_of faults b)
  stops_rose p joining doors a b x y (inl at_once) = asked_rose _ a b at_once.is
  stops_rose p joining doors a b x y (inr later) =
      rose_before (faults_of faults a) (faults_of faults later.shelf) (faults_of faults b) later.kept.never_falls (among_rose _ _ later.shelf b later.is)

  -- ---- a keeper stopped before

  asked_stopped : (asking : Option Asking) (a b : ShelfState B) → FailsAsked stands faults a asking keep_fault.Stopped b → is_stopped a ≡ true
  asked_stopped None a b fails = absurd fails
  asked_stopped (Some asking) a b fails = fails_stopped stands faults a b asking fails

  around_stopped : (now : ℕ) (m : Servant) (a b : ShelfState B) → FailsAround stands faults now m a keep_fault.Stopped b → is_stopped a ≡ true
  around_stopped now m a b (before_call fails) = asked_stopped _ a b fails
  around_stopped now m a b (behind_call r middle calm kept fails) = sym kept.stopped ∙ asked_stopped _ middle b fails

  among_stopped : (now : ℕ) (crew : List Servant) (a b : ShelfState B) → FailsAmong stands faults now crew a keep_fault.Stopped b → is_stopped a ≡ true
  among_stopped now crew a b f = sym f.kept.stopped ∙ around_stopped now _ f.middle b f.fails

  pub stops_stopped : (p : ServicePlan) (joining : LinkPlan) (doors : DeskPlan) (a b : ShelfState B) (x y : Outside)
      → StopsShort stands faults p joining doors a x (cut.Store keep_fault.Stopped) b y → is_stopped a ≡ true
  stops_stopped p joining doors a b x y (inl at_once) = asked_stopped _ a b at_once.is
  stops_stopped p joining doors a b x y (inr later) = sym later.kept.stopped ∙ among_stopped _ _ later.shelf b later.is
