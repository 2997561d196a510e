use Rattle.grasp_laws_beginning.proofs.Reading as lemmas
use Rattle.grasp_laws_beginning.proofs.beginning_laws.what_comes_is_read.Goals as goal

pub returns : goal.returns
returns c = lemmas.what_comes_is_read
