use Rattle.grasp_laws_discovery.proofs.Finding.{found_are_real}
use Rattle.grasp_laws_discovery.proofs.laws.found_locators_are_real.Goals as goal

pub returns : goal.returns
returns c = found_are_real c.cached_locators_are_real.ensures
