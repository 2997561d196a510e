use Rattle.grasp_laws_network.proofs.GoodPlans as lemmas
use Rattle.grasp_laws_network.proofs.setting_laws.scripts_are_good.Goals as goal

pub returns : goal.returns
returns c = lemmas.scripts_are_good
