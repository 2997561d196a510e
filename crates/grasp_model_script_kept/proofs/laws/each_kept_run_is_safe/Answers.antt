use Rattle.grasp_model_script_kept.proofs.MoreLines as lemmas
use Rattle.grasp_model_script_kept.proofs.laws.each_kept_run_is_safe.Goals as goal

pub returns : goal.returns
returns c = lemmas.runs_safely c.kept_networks_are_safe.ensures
