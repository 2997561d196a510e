use Rattle.grasp_flood.proofs.LawFloods.{reads_entries}
use Rattle.grasp_flood.proofs.laws.reads_are_entries.Goals as goal

pub returns : goal.returns
returns c = reads_entries
