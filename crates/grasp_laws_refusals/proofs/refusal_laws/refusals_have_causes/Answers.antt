use Rattle.grasp_laws_refusals.proofs.Refusals as lemmas
use Rattle.grasp_laws_refusals.proofs.refusal_laws.refusals_have_causes.Goals as goal

pub returns : goal.returns
returns c = lemmas.refusals_have_causes
