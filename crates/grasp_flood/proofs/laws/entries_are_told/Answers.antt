use Rattle.grasp_flood.proofs.LawFloods.{entries_told}
use Rattle.grasp_flood.proofs.laws.entries_are_told.Goals as goal

pub returns : goal.returns
returns c = entries_told
