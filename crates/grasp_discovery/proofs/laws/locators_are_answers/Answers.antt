use Rattle.grasp_discovery.proofs.LawDiscoveries.{locators_answers}
use Rattle.grasp_discovery.proofs.laws.locators_are_answers.Goals as goal

pub returns : goal.returns
returns c = locators_answers
