use Rattle.grasp_laws_beginning.proofs.TimingOut as lemmas
use Rattle.grasp_laws_beginning.proofs.beginning_laws.due_time_out.Goals as goal

pub returns : goal.returns
returns c = lemmas.due_time_out
