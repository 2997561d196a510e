use Rattle.grasp_script_kept.proofs.CrashLines as lemmas
use Rattle.grasp_script_kept.proofs.laws.kept_lines_mean_one_thing.Goals as goal

pub returns : goal.returns
returns c = lemmas.kept_lines_mean_one_thing
