-- Inside: a disk in memory is asked around a call of an agent.
use Rattle.std.specs.Prelude.{ℕ, ◌-◌, ◌<◌, ◌^◌, List}
use Rattle.grasp_disk.specs.Calls.{DiskLog, bytes_of}
use Rattle.grasp_disk.specs.Memory.{MemStands, written_by}
use Rattle.grasp_agent.specs.States.{AgentState}
use Rattle.grasp_pool.specs.declared.roots.RootPrefix.{RootPrefix}
use Rattle.grasp_store.specs.Current.{current_in, image_on, number_of}
use Rattle.grasp_store.specs.Images.{image_behind}
use Rattle.grasp_store.specs.Keeping.{Keeps, Saves, kept_before}
use Rattle.grasp_store.specs.Saving.{FailsIn, IsOldOrNew, before_calls, behind_calls}
use Rattle.grasp_kept.specs.Keepers.{DiskKeeper, KeepsDisk}

-- ---- a disk that never stops

-- a keeper of such a disk, whose number can rise
pub record NeverStops (keeper : DiskKeeper) : Type 0 where
  pub roots : List RootPrefix
  pub bytes : List ℕ
  pub keeps : KeepsDisk roots keeper bytes
  pub few : number_of (current_in bytes) < 2 ^ 64 - 1

-- what it keeps once it was asked before a call of this agent, and behind one
abbrev pub AskedBefore : DiskKeeper → DiskKeeper → AgentState → Type 0
AskedBefore old new agent = (roots : List RootPrefix) (bytes : List ℕ) → KeepsDisk roots old bytes → KeepsDisk roots new (written_by bytes (before_calls bytes agent))

abbrev pub AskedBehind : DiskKeeper → DiskKeeper → AgentState → Type 0
AskedBehind old new agent = (roots : List RootPrefix) (bytes : List ℕ) → KeepsDisk roots old bytes → KeepsDisk roots new (written_by bytes (behind_calls roots bytes agent))

-- ---- a disk that may stop

-- a keeper that has answered no fault, and whose number can rise
pub record IsGoing (keeper : DiskKeeper) : Type 0 where
  pub roots : List RootPrefix
  pub log : DiskLog
  pub keeps : Keeps MemStands roots keeper log
  pub few : number_of (current_in (bytes_of log)) < 2 ^ 64 - 1

-- what it saves before a call of this agent, and behind one
abbrev pub SavesBefore : DiskKeeper → DiskKeeper → AgentState → Type 0
SavesBefore old new agent = (roots : List RootPrefix) (log : DiskLog) → Keeps MemStands roots old log
    → Saves MemStands roots new log (before_calls (bytes_of log) agent) (kept_before (image_on roots (bytes_of log)) agent)

abbrev pub SavesBehind : DiskKeeper → DiskKeeper → AgentState → Type 0
SavesBehind old new agent = (roots : List RootPrefix) (log : DiskLog) → Keeps MemStands roots old log → Saves MemStands roots new log (behind_calls roots (bytes_of log) agent) (image_behind agent)

-- of these calls one failed
abbrev pub FailsBefore : DiskKeeper → DiskKeeper → AgentState → Type 0
FailsBefore old new agent = (roots : List RootPrefix) (log : DiskLog) → Keeps MemStands roots old log
    → FailsIn (MemStands new.disk) log (before_calls (bytes_of log) agent) (IsOldOrNew (bytes_of log) (kept_before (image_on roots (bytes_of log)) agent))

abbrev pub FailsBehind : DiskKeeper → DiskKeeper → AgentState → Type 0
FailsBehind old new agent = (roots : List RootPrefix) (log : DiskLog) → Keeps MemStands roots old log
    → FailsIn (MemStands new.disk) log (behind_calls roots (bytes_of log) agent) (IsOldOrNew (bytes_of log) (image_behind agent))
