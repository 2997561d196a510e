-- A disk in memory: the contents that a crash leaves of it, and the calls that led to them.
use Rattle.std.specs.Prelude.{◌≡◌, ℕ, ◌+◌, ◌-◌, ◌/◌, ◌≤◌, Bool, true, false, nat_lt, IsTrue, ⊤, List, [], ◌∷◌, length, take, replicate, Option, None, Some}
use Rattle.grasp_disk.specs.Calls.{DiskCall, DiskLog, DiskState, read, wrote, synced, disk_size, overlaid, piece, after_calls, bytes_of}
use Rattle.grasp_disk.specs.declared.left.Left.{Left}
use Rattle.grasp_disk.specs.declared.left.Left.TheVariants.{Old, New, Torn}

-- what a read gives, what stood there at the last sync that succeeded, what the last write since leaves where its second half isn't written, how many calls can succeed yet, where it stops, and how many failed
pub record MemDiskState : Type 0 where
  pub bytes : List ℕ
  pub kept : List ℕ
  pub torn : List ℕ
  pub left : Option ℕ
  pub faults : ℕ

-- ---- contents

-- a disk on which these bytes stand, all of them synced
abbrev pub all_kept : List ℕ → DiskState
all_kept bytes = record { bytes = bytes; loose = [] }

-- what a read gives after these calls, the newest first, of a disk on which these bytes stood
abbrev pub written_by : List ℕ → List DiskCall → List ℕ
written_by start calls = (after_calls calls (all_kept start)).bytes

-- what it gave at the last sync that succeeded
abbrev pub synced_by : List ℕ → List DiskCall → List ℕ
synced_by start [] = start
synced_by start (read ok ∷ earlier) = synced_by start earlier
synced_by start (wrote at new ok ∷ earlier) = synced_by start earlier
synced_by start (synced true ∷ earlier) = written_by start earlier
synced_by start (synced false ∷ earlier) = synced_by start earlier

-- the first half of bytes, rounded down
abbrev pub first_half : List ℕ → List ℕ
first_half new = take (length new / 2) new

-- what it gives where of the last write since that sync only the first half was written
abbrev pub torn_by : List ℕ → List DiskCall → List ℕ
torn_by start [] = start
torn_by start (read ok ∷ earlier) = torn_by start earlier
torn_by start (wrote at new true ∷ earlier) = overlaid (written_by start earlier) at (first_half new)
torn_by start (wrote at new false ∷ earlier) = torn_by start earlier
torn_by start (synced true ∷ earlier) = written_by start earlier
torn_by start (synced false ∷ earlier) = torn_by start earlier

-- what a crash leaves of a disk in memory on which these bytes stood, after these calls, the newest first
abbrev pub left_by : Left → List ℕ → List DiskCall → List ℕ
left_by Old start calls = synced_by start calls
left_by New start calls = written_by start calls
left_by Torn start calls = torn_by start calls

-- each write lies on a disk of so many bytes
abbrev pub AllFit : ℕ → List DiskCall → Type 0
AllFit size [] = ⊤
AllFit size (read ok ∷ earlier) = AllFit size earlier
AllFit size (wrote at new ok ∷ earlier) = (at + length new ≤ size) × AllFit size earlier
AllFit size (synced ok ∷ earlier) = AllFit size earlier

-- ---- calls that fail

-- whether it succeeded
abbrev pub succeeded : DiskCall → Bool
succeeded (read ok) = ok
succeeded (wrote at new ok) = ok
succeeded (synced ok) = ok

-- each of the calls succeeded
abbrev pub AllSucceed : List DiskCall → Type 0
AllSucceed [] = ⊤
AllSucceed (call ∷ earlier) = IsTrue (succeeded call) × AllSucceed earlier

-- whether a call succeeds before which so many were made, where so many can
abbrev pub goes : Option ℕ → ℕ → Bool
goes None made = true
goes (Some stops) made = nat_lt made stops

-- the first so many of the calls succeeded, and no later one did
abbrev pub StopsAt : Option ℕ → List DiskCall → Type 0
StopsAt stops [] = ⊤
StopsAt stops (call ∷ earlier) = (succeeded call ≡ goes stops (length earlier)) × StopsAt stops earlier

-- each write that failed wrote what stood there already
abbrev pub FailuresWriteNothing : List ℕ → List DiskCall → Type 0
FailuresWriteNothing start [] = ⊤
FailuresWriteNothing start (read ok ∷ earlier) = FailuresWriteNothing start earlier
FailuresWriteNothing start (wrote at new true ∷ earlier) = FailuresWriteNothing start earlier
FailuresWriteNothing start (wrote at new false ∷ earlier) = (new ≡ piece (written_by start earlier) at (length new)) × FailuresWriteNothing start earlier
FailuresWriteNothing start (synced ok ∷ earlier) = FailuresWriteNothing start earlier

-- how many can succeed yet after so many were made
abbrev pub rest_of : Option ℕ → ℕ → Option ℕ
rest_of None made = None
rest_of (Some stops) made = Some (stops - made)

-- Inside: whether the next call succeeds where so many can yet
abbrev pub can_go : Option ℕ → Bool
can_go None = true
can_go (Some left) = nat_lt 0 left

-- Inside: how many can succeed after the next call
abbrev pub one_less : Option ℕ → Option ℕ
one_less None = None
one_less (Some left) = Some (left - 1)

-- ---- the disk

-- the disk in memory keeps what these calls lead to. It began with all synced, and a write that failed wrote nothing
pub record MemStands (m : MemDiskState) (log : DiskLog) : Type 0 where
  pub began : log.start.loose ≡ []
  pub size : length log.start.bytes ≡ disk_size
  pub fit : AllFit disk_size log.calls
  pub bytes : m.bytes ≡ written_by log.start.bytes log.calls
  pub kept : m.kept ≡ synced_by log.start.bytes log.calls
  pub torn : m.torn ≡ torn_by log.start.bytes log.calls
  pub nothing : FailuresWriteNothing log.start.bytes log.calls
  pub stops : StopsAt log.stops log.calls
  pub left : m.left ≡ rest_of log.stops (length log.calls)

-- the log of a disk that succeeds in so many calls from now on
abbrev pub stopping_after : DiskLog → ℕ → DiskLog
stopping_after log calls = record { start = log.start; calls = log.calls; stops = Some (length log.calls + calls) }

-- a disk on which these bytes stand, of which nothing was asked, and which never stops
abbrev pub log_from : List ℕ → DiskLog
log_from bytes = record { start = all_kept bytes; calls = []; stops = None }

-- the log that begins with what a read of the disk gives now, where all is synced
abbrev pub begun_anew : DiskLog → DiskLog
begun_anew log = record { start = all_kept (bytes_of log); calls = []; stops = rest_of log.stops (length log.calls) }

-- so many bytes that are 0
unfoldable pub zeros : ℕ → List ℕ
zeros count = replicate count 0

-- a disk on which nothing was written
abbrev pub empty_log : DiskLog
empty_log = log_from (zeros disk_size)
