use Rattle.grasp_laws_sending.proofs.Draining as lemmas
use Rattle.grasp_laws_sending.proofs.sending_laws.drains_are_exact.Goals as goal

pub returns : goal.returns
returns c = lemmas.drains_are_exact
