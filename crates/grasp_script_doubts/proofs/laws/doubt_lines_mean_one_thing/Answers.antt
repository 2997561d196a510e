use Rattle.grasp_script_doubts.proofs.DoubtLines as lemmas
use Rattle.grasp_script_doubts.proofs.laws.doubt_lines_mean_one_thing.Goals as goal

pub returns : goal.returns
returns c = lemmas.doubt_lines_mean_one_thing
