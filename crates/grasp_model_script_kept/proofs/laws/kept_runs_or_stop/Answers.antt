use Rattle.grasp_model_script_kept.proofs.OneRun as lemmas
use Rattle.grasp_model_script_kept.proofs.laws.kept_runs_or_stop.Goals as goal

pub returns : goal.returns
returns c = lemmas.kept_runs_or_stop
