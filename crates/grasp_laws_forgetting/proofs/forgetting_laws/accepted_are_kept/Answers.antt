use Rattle.grasp_laws_forgetting.proofs.Forgetting as lemmas
use Rattle.grasp_laws_forgetting.proofs.forgetting_laws.accepted_are_kept.Goals as goal

pub returns : goal.returns
returns c = lemmas.accepted_are_kept
