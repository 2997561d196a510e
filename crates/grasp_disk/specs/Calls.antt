-- What is asked of a disk, and what a read gives then.
use Rattle.std.specs.Prelude.{◌≡◌, ℕ, ◌+◌, Bool, true, false, List, [], ◌∷◌, ◌++◌, length, take, drop, Option}

-- how many bytes a disk has
abbrev pub disk_size : ℕ
disk_size = 140000

-- so many bytes from a place on
pub record Range : Type 0 where
  pub at : ℕ
  pub count : ℕ

-- a call, and whether it succeeded: a read; a write of these bytes at this place, or, where it failed, of the bytes that a read gives there since; a sync
pub data DiskCall : Type 0 where
  read : Bool → DiskCall
  wrote : ℕ → List ℕ → Bool → DiskCall
  synced : Bool → DiskCall

-- what a read gives, and where something was written since the last sync that succeeded
pub record DiskState : Type 0 where
  pub bytes : List ℕ
  pub loose : List Range

-- how a disk stood first, the calls since, the newest first, and how many of these can succeed, where it is to stop
pub record DiskLog : Type 0 where
  pub start : DiskState
  pub calls : List DiskCall
  pub stops : Option ℕ

-- the bytes with these in the place of those from there on
unfoldable pub overlaid : List ℕ → ℕ → List ℕ → List ℕ
overlaid bytes at new = take at bytes ++ (new ++ drop (at + length new) bytes)

-- so many of the bytes from a place on
abbrev pub piece : List ℕ → ℕ → ℕ → List ℕ
piece bytes at count = take count (drop at bytes)

-- the disk after a call
abbrev pub after_call : DiskCall → DiskState → DiskState
after_call (read ok) s = s
after_call (wrote at new ok) s = record { bytes = overlaid s.bytes at new; loose = record { at = at; count = length new } ∷ s.loose }
after_call (synced true) s = record { bytes = s.bytes; loose = [] }
after_call (synced false) s = s

-- the disk after these calls, the newest first
abbrev pub after_calls : List DiskCall → DiskState → DiskState
after_calls [] s = s
after_calls (call ∷ earlier) s = after_call call (after_calls earlier s)

-- the disk now
abbrev pub state_of : DiskLog → DiskState
state_of log = after_calls log.calls log.start

-- what a read gives now
abbrev pub bytes_of : DiskLog → List ℕ
bytes_of log = (state_of log).bytes

-- the log with these calls more, the newest first
abbrev pub after_made : DiskLog → List DiskCall → DiskLog
after_made log made = record { start = log.start; calls = made ++ log.calls; stops = log.stops }

-- the log with one call more
abbrev pub more : DiskLog → DiskCall → DiskLog
more log call = record { start = log.start; calls = call ∷ log.calls; stops = log.stops }

-- a write of so many bytes failed, and some bytes stand there since
pub record Spoils (Stands : DiskLog → Type 0) (log : DiskLog) (at count : ℕ) : Type 0 where
  pub bytes : List ℕ
  pub as_many : length bytes ≡ count
  pub stands : Stands (more log (wrote at bytes false))
