use Rattle.grasp_model_script_doubts.proofs.Safely as lemmas
use Rattle.grasp_model_script_doubts.proofs.laws.each_doubt_run_is_safe.Goals as goal

pub returns : goal.returns
returns c = lemmas.runs_safely c.doubted_are_reached.ensures c.settlings_are_of_dead.ensures c.each_network_is_safe.ensures
