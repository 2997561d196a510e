-- Inside: calls of a disk of which one fails.
use Rattle.std.specs.Prelude.{◌≡◌, ℕ, ◌-◌, ◌<◌, ◌^◌, List}
use Rattle.grasp_io.specs.Faults.{Rose}
use Rattle.grasp_disk.specs.Calls.{DiskCall, DiskLog, after_made}
use Rattle.grasp_store.specs.Saving.{IsCutShort}
use Rattle.grasp_store.specs.declared.fault.KeepFault.{KeepFault}
use Rattle.grasp_store.specs.declared.fault.KeepFault.TheVariants as keep_fault

-- one of these calls failed, and none was made after it
pub record BreaksIn (Stands : DiskLog → Type 0) (log : DiskLog) (calls : List DiskCall) : Type 0 where
  pub made : List DiskCall
  pub short : IsCutShort calls made
  pub stands : Stands (after_made log made)

-- why a save fails
abbrev pub IsNotPut : {D : Type 0} → (D → ℕ) → D → D → ℕ → KeepFault → Type 0
IsNotPut faults old new number keep_fault.DiskFault = (number < 2 ^ 64 - 1) × Rose (faults old) (faults new)
IsNotPut faults old new number keep_fault.Spent = (number ≡ 2 ^ 64 - 1) × (new ≡ old)
IsNotPut faults old new number keep_fault.Stopped = ⊥
