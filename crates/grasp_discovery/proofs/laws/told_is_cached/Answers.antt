use Rattle.grasp_discovery.proofs.LawDiscoveries.{told_cached}
use Rattle.grasp_discovery.proofs.laws.told_is_cached.Goals as goal

pub returns : goal.returns
returns c = told_cached
