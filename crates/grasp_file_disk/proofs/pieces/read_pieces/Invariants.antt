use Rattle.std.proofs.Common.{length, ◌-◌, ◌≡◌}
use Rattle.grasp_file_disk.proofs.pieces.read_pieces.Given as goal

abbrev pub invariant-loop-done : goal.invariant-loop-done
invariant-loop-done l = length l.into ≡ length l.initial.into

abbrev pub decreases-loop-done : goal.decreases-loop-done
decreases-loop-done l = length l.initial.into - l.done
