use Rattle.grasp_laws_store.proofs.Saves as lemmas
use Rattle.grasp_laws_store.proofs.laws.saves_do.Goals as goal

pub returns : goal.returns
returns c = lemmas.saves_do
