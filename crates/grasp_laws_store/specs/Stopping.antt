-- Which calls of a disk in memory were made where it stops.
use Rattle.std.specs.Prelude.{◌≡◌, ℕ, ◌+◌, ◌<◌, ◌≤◌, List, ◌++◌, length, Some}
use Rattle.grasp_disk.specs.Calls.{DiskCall, DiskLog, after_made}
use Rattle.grasp_disk.specs.Memory.{AllSucceed, MemDiskState, MemStands, left_by}
use Rattle.grasp_disk.specs.declared.left.Left.{Left}
use Rattle.grasp_store.specs.Saving.{IsCutShort, first_calls}

-- of a disk that was to stop after so many calls: where calls were cut short, there are more of them, and a crash leaves what
-- it would leave behind the first so many
abbrev pub StopsCutShort : Type 0
StopsCutShort = (m : MemDiskState) (log : DiskLog) (n : ℕ) (calls made : List DiskCall) (left : Left)
    → log.stops ≡ Some (length log.calls + n) → AllSucceed calls → IsCutShort calls made → MemStands m (after_made log made)
    → (n < length calls) × (left_by left log.start.bytes (made ++ log.calls) ≡ left_by left log.start.bytes (first_calls n calls ++ log.calls))

-- where they were all made, there are no more of them
abbrev pub StopsNoEarlier : Type 0
StopsNoEarlier = (m : MemDiskState) (log : DiskLog) (n : ℕ) (calls : List DiskCall)
    → log.stops ≡ Some (length log.calls + n) → AllSucceed calls → MemStands m (after_made log calls) → length calls ≤ n
