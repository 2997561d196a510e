use Rattle.grasp_script.proofs.LineLaws as lemmas
use Rattle.grasp_script.proofs.laws.lines_mean_one_thing.Goals as goal

pub returns : goal.returns
returns c = lemmas.lines_mean_one_thing
