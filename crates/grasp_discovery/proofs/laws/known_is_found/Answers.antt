use Rattle.grasp_discovery.proofs.Expiry.{known_found}
use Rattle.grasp_discovery.proofs.laws.known_is_found.Goals as goal

pub returns : goal.returns
returns c = known_found
