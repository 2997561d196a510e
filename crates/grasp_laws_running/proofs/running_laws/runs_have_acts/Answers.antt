use Rattle.grasp_laws_running.proofs.Acts as lemmas
use Rattle.grasp_laws_running.proofs.running_laws.runs_have_acts.Goals as goal

pub returns : goal.returns
returns c = lemmas.runs_have_acts
