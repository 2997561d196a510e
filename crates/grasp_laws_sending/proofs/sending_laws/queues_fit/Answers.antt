use Rattle.grasp_laws_sending.proofs.Fitting.Nodes as lemmas
use Rattle.grasp_laws_sending.proofs.sending_laws.queues_fit.Goals as goal

pub returns : goal.returns
returns c = lemmas.queues_fit
