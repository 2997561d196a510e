use Rattle.std.proofs.Common.{length, ◌-◌}
use Rattle.grasp_file_disk.proofs.pieces.write_pieces.Given as goal

abbrev pub decreases-loop-done : goal.decreases-loop-done
decreases-loop-done l = length l.bytes - l.done
