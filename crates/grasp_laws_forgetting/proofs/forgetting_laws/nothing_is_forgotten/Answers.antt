use Rattle.grasp_laws_forgetting.proofs.Forgetting as lemmas
use Rattle.grasp_laws_forgetting.proofs.forgetting_laws.nothing_is_forgotten.Goals as goal

pub returns : goal.returns
returns c = lemmas.nothing_is_forgotten
