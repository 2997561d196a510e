-- A write that failed and wrote nothing.
use Rattle.std.proofs.Common.{◌≡◌, ℕ, ◌+◌, ◌≤◌, false, List, length, sym, ◌∙◌, ap, arith}
use Rattle.grasp_disk.specs.Calls.{DiskLog, Spoils, disk_size, overlaid, piece}
use Rattle.grasp_disk.specs.Memory.{MemDiskState, MemStands, can_go, one_less, written_by}
use Rattle.grasp_disk.proofs.Bytes.{length-piece, overlaid_same}
use Rattle.grasp_disk.proofs.Lefts.{length-held}
use Rattle.grasp_disk.proofs.Stopping.{next_goes, next_rest}

-- what stood at its place stands there still
pub nothing_written : (m : MemDiskState) (faults : ℕ) (log : DiskLog) (at count : ℕ) → can_go m.left ≡ false → at + count ≤ disk_size → MemStands m log → Spoils (MemStands (record m { left = one_less m.left; faults = faults })) log at count
nothing_written m faults log at count stopped fits stands = record {
  bytes = piece m.bytes at count;
  as_many = long;
  stands = record {
    began = stands.began;
    size = stands.size;
    fit = (omega (arith, long, fits), stands.fit);
    bytes = sym (overlaid_same m.bytes at count (omega (arith, fits, length-held m log stands))) ∙ ap (λ (b : List ℕ). overlaid b at (piece m.bytes at count)) stands.bytes;
    kept = stands.kept;
    torn = stands.torn;
    nothing = (ap (λ (b : List ℕ). piece b at count) stands.bytes ∙ ap (piece (written_by log.start.bytes log.calls) at) (sym long), stands.nothing);
    stops = (sym stopped ∙ ap can_go stands.left ∙ next_goes log.stops (length log.calls), stands.stops);
    left = ap one_less stands.left ∙ next_rest log.stops (length log.calls);
  };
}
  where
    long : length (piece m.bytes at count) ≡ count
    long = omega (arith, length-piece m.bytes at count, fits, length-held m log stands)
