-- The disks and keepers with which a network is opened.
use Rattle.std.specs.Prelude.{◌≡◌, ℕ, All, List, length, Some}
use Rattle.grasp_disk.specs.Calls.{disk_size}
use Rattle.grasp_disk.specs.Memory.{MemDiskState, MemStands, empty_log, zeros}
use Rattle.grasp_model_network.specs.Setting.{numbered, script_roots}
use Rattle.grasp_model_network.specs.declared.plan.WorldPlan.{WorldPlan}
use Rattle.grasp_kept.specs.Keepers.{DiskKeeper, KeepsDisk}

-- a disk on which nothing was written, and which never stops
abbrev pub IsEmptyDisk : MemDiskState → Type 0
IsEmptyDisk disk = MemStands disk empty_log

-- so many of these
pub record AreEmpty (nodes : ℕ) (disks : List MemDiskState) : Type 0 where
  pub count : length disks ≡ nodes
  pub each : All IsEmptyDisk disks

-- Inside: keepers of such disks for the first so many nodes of a plan
pub record AreOpenedTo (plan : WorldPlan) (nodes : ℕ) (keepers : List DiskKeeper) : Type 0 where
  pub count : length keepers ≡ nodes
  pub each : (node : ℕ) (keeper : DiskKeeper) → numbered keepers node ≡ Some keeper → KeepsDisk (script_roots plan.roots node) keeper (zeros disk_size)

-- Inside: for all of them
abbrev pub AreOpened : WorldPlan → List DiskKeeper → Type 0
AreOpened plan keepers = AreOpenedTo plan plan.nodes keepers
