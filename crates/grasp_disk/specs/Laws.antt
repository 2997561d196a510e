-- What is so of disks and of what a crash leaves.
use Rattle.std.specs.Prelude.{◌≡◌, ◌↔◌, ℕ, ◌+◌, ◌≤◌, Bool, true, false, IsTrue, List, ◌∷◌, ◌++◌, length}
use Rattle.grasp_disk.specs.Calls.{DiskCall, DiskLog, DiskState, wrote, synced, after_call, after_calls, overlaid, piece, state_of}
use Rattle.grasp_disk.specs.Crashes.{MayBecome, Leaves, AtEachMoment, IsSettled, DifferIn}
use Rattle.grasp_disk.specs.Memory.{MemDiskState, MemStands, AllFit, all_kept, left_by, begun_anew, succeeded}
use Rattle.grasp_disk.specs.declared.left.Left.{Left}

-- what a crash leaves after a sync that succeeded is what a read gives
abbrev pub SyncedBytesStay : Type 0
SyncedBytesStay = (s : DiskState) → Leaves (after_call (synced true) s) (λ content. content ≡ s.bytes)

-- what a read gives may always be left
abbrev pub ReadBytesMayStand : Type 0
ReadBytesMayStand = (s : DiskState) → MayBecome s s.bytes

-- after a write on the disk a read gives its bytes there, and all else as before
abbrev pub WrittenBytesAreRead : Type 0
WrittenBytesAreRead = (s : DiskState) (at : ℕ) (new : List ℕ) (ok : Bool) → at + length new ≤ length s.bytes
    → (piece (after_call (wrote at new ok) s).bytes at (length new) ≡ new) × DifferIn at (length new) s.bytes (after_call (wrote at new ok) s).bytes

-- where all was synced before it, a crash after a write leaves all other bytes as they were
abbrev pub WritesSpoilTheirPlace : Type 0
WritesSpoilTheirPlace = (s : DiskState) (at : ℕ) (new : List ℕ) (ok : Bool) → IsSettled s → at + length new ≤ length s.bytes
    → Leaves (after_call (wrote at new ok) s) (DifferIn at (length new) s.bytes)

-- a crash may leave any bytes at the place of a write that wasn't synced
abbrev pub UnsyncedBytesMayBeAny : Type 0
UnsyncedBytesMayBeAny = (s : DiskState) (at : ℕ) (new any : List ℕ) (ok : Bool) → length any ≡ length new → at + length new ≤ length s.bytes
    → MayBecome (after_call (wrote at new ok) s) (overlaid s.bytes at any)

-- a test is passed at each moment of calls just where it is passed by whatever a crash leaves behind any first so many of them
abbrev pub MomentsAreAll : Type 0
MomentsAreAll = (s : DiskState) (made : List DiskCall) (test : List ℕ → Bool)
    → AtEachMoment s made (λ content. IsTrue (test content))
    ↔ ((later earlier : List DiskCall) → made ≡ later ++ earlier → Leaves (after_calls earlier s) (λ content. IsTrue (test content)))

-- each content that a disk in memory has after a crash is one that the crash may leave
abbrev pub LeftsMayStand : Type 0
LeftsMayStand = (left : Left) (start : List ℕ) (calls : List DiskCall) → AllFit (length start) calls → MayBecome (after_calls calls (all_kept start)) (left_by left start calls)

-- a disk in memory on which all is synced may be taken for one that begins with what a read gives
abbrev pub SyncedDisksBeginAnew : Type 0
SyncedDisksBeginAnew = (m : MemDiskState) (log : DiskLog) → MemStands m log → IsSettled (state_of log) → MemStands m (begun_anew log)

-- whatever a crash leaves of a disk in memory, it would leave without the last call, where that failed
abbrev pub FailedCallsLeaveNothing : Type 0
FailedCallsLeaveNothing = (m : MemDiskState) (log : DiskLog) (call : DiskCall) (earlier : List DiskCall) (left : Left) → MemStands m log → log.calls ≡ call ∷ earlier
    → succeeded call ≡ false → left_by left log.start.bytes log.calls ≡ left_by left log.start.bytes earlier
