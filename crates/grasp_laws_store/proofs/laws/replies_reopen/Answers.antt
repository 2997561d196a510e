use Rattle.grasp_laws_store.proofs.Reopening as lemmas
use Rattle.grasp_laws_store.proofs.laws.replies_reopen.Goals as goal

pub returns : goal.returns
returns c = lemmas.replies_reopen
