use Rattle.grasp_model_script_doubts.proofs.OneRun as lemmas
use Rattle.grasp_model_script_doubts.proofs.laws.doubt_runs_or_stop.Goals as goal

pub returns : goal.returns
returns c = lemmas.doubt_runs_or_stop
