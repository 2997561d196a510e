use Rattle.grasp_flood.proofs.LawFloods.{only_the_ended}
use Rattle.grasp_flood.proofs.laws.only_the_ended_go.Goals as goal

pub returns : goal.returns
returns c = only_the_ended
