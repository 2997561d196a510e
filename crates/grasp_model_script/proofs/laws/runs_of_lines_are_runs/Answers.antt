use Rattle.grasp_model_script.proofs.RunLaws.{runs_are_runs}
use Rattle.grasp_model_script.proofs.laws.runs_of_lines_are_runs.Goals as goal

pub returns : goal.returns
returns c = runs_are_runs
