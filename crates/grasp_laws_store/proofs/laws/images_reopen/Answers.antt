use Rattle.grasp_laws_store.proofs.Reopening as lemmas
use Rattle.grasp_laws_store.proofs.laws.images_reopen.Goals as goal

pub returns : goal.returns
returns c = lemmas.images_reopen
