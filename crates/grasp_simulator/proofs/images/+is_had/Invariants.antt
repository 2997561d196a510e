use Rattle.std.proofs.Common.{◌-◌}
use Rattle.grasp_simulator.proofs.images.+is_had.Given as goal

abbrev pub decreases-is_had : goal.decreases-is_had
decreases-is_had l = 128 - l.prefix.length
