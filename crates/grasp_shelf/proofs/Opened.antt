-- What the opening of a store comes to.
use Rattle.std.proofs.Common.{◌≡◌, ℕ, [], Option, None, Some, Bool, true, false, refl, sym, ◌∙◌, subst, if◌then◌else◌, nat_lt}
use Rattle.std.specs.Prelude.{is_some}
use Rattle.std.proofs.lemmas.Option.{none-some}
use Rattle.grasp_io.specs.Faults.{Rose}
use Rattle.grasp_disk.specs.Calls.{DiskLog, bytes_of}
use Rattle.grasp_agent.specs.States.{AgentState}
use Rattle.grasp_store.specs.Saving.{open_calls}
use Rattle.grasp_store.specs.Current.{current_place, newer}
use Rattle.grasp_store.specs.Keeping.{KeeperState, Opens, IsBlank, FailsToOpen}
use Rattle.grasp_store.specs.Slots.{Saved, slot_in}
use Rattle.grasp_store.specs.declared.fault.OpenFault.{OpenFault}
use Rattle.grasp_store.specs.declared.fault.OpenFault.TheVariants as open_fault
use Rattle.grasp_store.specs.declared.place.Place.TheVariants.{First, Second}
use Rattle.grasp_shelf.specs.Opening.{IsShelfFault, IsOfCalls, IsUnused, LeavesClosed, fault_of}
use Rattle.grasp_shelf.specs.Shelves.{ShelfState, ClosedStands, IsClosed}
use Rattle.grasp_shelf.specs.declared.fault.ShelfFault.{ShelfFault}
use Rattle.grasp_shelf.specs.declared.fault.ShelfFault.TheVariants as fault

either_some : (b : Bool) → (if b then Some Second else Some First) ≡ None → ⊥
either_some true p = none-some Second (sym p)
either_some false p = none-some First (sym p)

-- where neither is newer, both are closed
none_newer : (x y : Option Saved) → newer x y ≡ None → (x ≡ None) × (y ≡ None)
none_newer None None p = (refl, refl)
none_newer (Some x) None p = absurd (none-some First (sym p))
none_newer None (Some y) p = absurd (none-some Second (sym p))
none_newer (Some x) (Some y) p = absurd (either_some (nat_lt x.number y.number) p)

not_some : {A : Type 0} (o : Option A) → is_some o ≡ false → o ≡ None
not_some None p = refl
not_some (Some x) p = absurd (cc)

-- no image was saved
pub empty_blank : {B : Type 0} (stands : B → DiskLog → Type 0) (k : KeeperState B) (agent : AgentState) (log : DiskLog) → Opens stands [] k agent log → is_some k.current ≡ false → IsBlank (bytes_of log)
empty_blank stands k agent log opens none =
    let place : current_place (bytes_of log) ≡ None = sym opens.keeps.remembers.current ∙ not_some k.current none in
    none_newer (slot_in (bytes_of log) First) (slot_in (bytes_of log) Second) place

pub empty_fault : {B : Type 0} (stands : B → DiskLog → Type 0) (k : KeeperState B) (agent : AgentState) (log : DiskLog) (f : ShelfFault) → Opens stands [] k agent log → is_some k.current ≡ false → f ≡ fault.Empty
    → IsShelfFault (bytes_of log) f
empty_fault stands k agent log f opens none is = subst (λ x. IsShelfFault (bytes_of log) x) (sym is) (empty_blank stands k agent log opens none)

-- the keeper refuses the disk
pub refused_fault : (Stands : DiskLog → Type 0) (log : DiskLog) (f : OpenFault) → FailsToOpen Stands [] log f → IsShelfFault (bytes_of log) (fault_of f)
refused_fault Stands log open_fault.DiskFault p = tt
refused_fault Stands log (open_fault.BadImage slot) p = p.cause
refused_fault Stands log (open_fault.Roots why) p = p.cause.0
refused_fault Stands log open_fault.OutOfMemory p = p.cause.0

-- what was asked of it
pub refused_leaves : (Stands : DiskLog → Type 0) (log : DiskLog) (f : OpenFault) → FailsToOpen Stands [] log f → LeavesClosed Stands log (fault_of f)
refused_leaves Stands log open_fault.DiskFault p = p
refused_leaves Stands log (open_fault.BadImage slot) p = p.makes
refused_leaves Stands log (open_fault.Roots why) p = p.makes
refused_leaves Stands log open_fault.OutOfMemory p = p.makes

pub empty_leaves : {B : Type 0} (stands : B → DiskLog → Type 0) (k : KeeperState B) (agent : AgentState) (log : DiskLog) → Opens stands [] k agent log
    → LeavesClosed (stands k.disk) log fault.Empty
empty_leaves stands k agent log opens = record { stands = opens.keeps.stands; moments = opens.moments }

-- of the shelf's store, which is there again
pub leaves_closed : {B : Type 0} (stands : B → DiskLog → Type 0) (s : B) (a : ShelfState B) (log : DiskLog) (f : ShelfFault) → a.store ≡ Some s
    → LeavesClosed (stands s) log f → LeavesClosed (IsClosed stands a) log f
leaves_closed stands s a log f is leaves = subst (λ o. LeavesClosed (ClosedStands stands o) log f) (sym is) leaves

-- of these faults one is of the disk's calls
pub of_calls : (f : OpenFault) → IsOfCalls (fault_of f) → f ≡ open_fault.DiskFault
of_calls open_fault.DiskFault p = refl
of_calls (open_fault.BadImage slot) p = absurd p
of_calls (open_fault.Roots why) p = absurd p
of_calls open_fault.OutOfMemory p = absurd p

-- it does so for this cause
pub calls_rose : (f : OpenFault) (g : ShelfFault) (a b : ℕ) → g ≡ fault_of f → IsOfCalls g → (f ≡ open_fault.DiskFault → Rose a b) → Rose a b
calls_rose f g a b is calls rose = rose (of_calls f (subst IsOfCalls is calls))

pub no_call : (g : ShelfFault) (a b : ℕ) → g ≡ fault.Empty → IsOfCalls g → Rose a b
no_call g a b is calls = absurd (subst IsOfCalls is calls)

-- where no store is there none was used
pub nothing_used : {B : Type 0} (a : ShelfState B) (x y : ℕ) → a.store ≡ None → IsUnused a → Rose x y
nothing_used a x y none unused = absurd (some_not a.store none unused.has) where
  some_not : {A : Type 0} (o : Option A) → o ≡ None → is_some o ≡ true → ⊥
  some_not None p q = cc
  some_not (Some v) p q = none-some v (sym p)

pub open_used : {B : Type 0} (a : ShelfState B) (x y : ℕ) → is_some a.keeper ≡ true → IsUnused a → Rose x y
open_used a x y is unused = absurd (some_not a.keeper unused.closed is) where
  some_not : {A : Type 0} (o : Option A) → o ≡ None → is_some o ≡ true → ⊥
  some_not None p q = cc
  some_not (Some v) p q = none-some v (sym p)

pub ruleset opening = (empty_fault, refused_fault, refused_leaves, empty_leaves, leaves_closed, calls_rose, no_call, nothing_used, open_used)
