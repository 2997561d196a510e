use Rattle.grasp_flood.proofs.Expiry.{nothing_ended}
use Rattle.grasp_flood.proofs.laws.nothing_ended_stays.Goals as goal

pub returns : goal.returns
returns c = nothing_ended
