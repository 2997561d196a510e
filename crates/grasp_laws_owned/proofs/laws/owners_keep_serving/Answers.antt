use Rattle.grasp_laws_owned.proofs.Steps as lemmas
use Rattle.grasp_laws_owned.proofs.laws.owners_keep_serving.Goals as goal

pub returns : goal.returns
returns c = lemmas.owners_keep_serving
