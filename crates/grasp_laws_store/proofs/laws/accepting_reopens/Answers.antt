use Rattle.grasp_laws_store.proofs.Reopening as lemmas
use Rattle.grasp_laws_store.proofs.laws.accepting_reopens.Goals as goal

pub returns : goal.returns
returns c = lemmas.accepting_reopens
