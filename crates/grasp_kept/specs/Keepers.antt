-- The keeper of a disk in memory.
use Rattle.std.specs.Prelude.{◌≡◌, ℕ, List}
use Rattle.grasp_disk.specs.Calls.{DiskLog}
use Rattle.grasp_disk.specs.Memory.{MemDiskState, MemStands, left_by, log_from}
use Rattle.grasp_disk.specs.declared.left.Left.{Left}
use Rattle.grasp_pool.specs.declared.roots.RootPrefix.{RootPrefix}
use Rattle.grasp_store.specs.Keeping.{KeeperState, Keeps}

abbrev pub DiskKeeper : Type 0
DiskKeeper = KeeperState MemDiskState

-- it keeps a disk that never stops, on which these bytes stand, all of them synced
abbrev pub KeepsDisk : List RootPrefix → DiskKeeper → List ℕ → Type 0
KeepsDisk roots keeper bytes = Keeps MemStands roots keeper (log_from bytes)

-- Inside: a crash of the disk leaves this content
pub record DiskLeaves (disk : MemDiskState) (left : Left) (content : List ℕ) : Type 0 where
  pub log : DiskLog
  pub stands : MemStands disk log
  pub same : left_by left log.start.bytes log.calls ≡ content
