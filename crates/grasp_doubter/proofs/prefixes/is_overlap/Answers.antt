use Rattle.grasp_doubter.proofs.Listed.{overlap_so}
use Rattle.grasp_doubter.proofs.prefixes.is_overlap.Goals as goal

pub returns : goal.returns
returns c = overlap_so c.overlaps.result c.args.first c.args.second c.overlaps.ensures
