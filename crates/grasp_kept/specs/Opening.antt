-- Inside: a disk in memory that is opened.
use Rattle.std.specs.Prelude.{◌≡◌, ℕ, List}
use Rattle.grasp_disk.specs.Memory.{MemDiskState, MemStands, log_from}
use Rattle.grasp_pool.specs.Answers.{IsRootFault}
use Rattle.grasp_pool.specs.declared.fault.PoolFault.{PoolFault}
use Rattle.grasp_pool.specs.declared.fault.PoolFault.TheVariants as pool_fault
use Rattle.grasp_pool.specs.declared.roots.RootPrefix.{RootPrefix}
use Rattle.grasp_store.specs.Current.{IsSound}
use Rattle.grasp_kept.specs.Keepers.{DiskKeeper, KeepsDisk}

-- the disk never stops, and can be opened
pub record CanOpen (disk : MemDiskState) : Type 0 where
  pub bytes : List ℕ
  pub stands : MemStands disk (log_from bytes)
  pub sound : IsSound bytes

-- a pool of the roots is refused for want of memory alone
abbrev pub RootsOpen : List RootPrefix → Type 0
RootsOpen roots = (fault : PoolFault) → IsRootFault roots fault → fault ≡ pool_fault.OutOfMemory

-- the keeper keeps what stands on the disk
abbrev pub KeepsOpened : List RootPrefix → MemDiskState → DiskKeeper → Type 0
KeepsOpened roots disk keeper = (bytes : List ℕ) → MemStands disk (log_from bytes) → IsSound bytes → KeepsDisk roots keeper bytes
