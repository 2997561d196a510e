use Rattle.std.proofs.Common.{length}
use Rattle.grasp_config.proofs.floodable.+are_floodable.Given as goal

abbrev pub decreases-are_floodable : goal.decreases-are_floodable
decreases-are_floodable l = length l.beacons.now
