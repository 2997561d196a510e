use Rattle.grasp_flood.proofs.LawFloods.{last_part_kept}
use Rattle.grasp_flood.proofs.laws.last_part_is_kept.Goals as goal

pub returns : goal.returns
returns c = last_part_kept
