use Rattle.grasp_discovery.proofs.Expiry.{nothing_ended}
use Rattle.grasp_discovery.proofs.laws.nothing_ended_stays.Goals as goal

pub returns : goal.returns
returns c = nothing_ended
