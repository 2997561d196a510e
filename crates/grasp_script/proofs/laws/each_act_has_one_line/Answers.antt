use Rattle.grasp_script.proofs.ActLines.{each_has_one}
use Rattle.grasp_script.proofs.laws.each_act_has_one_line.Goals as goal

pub returns : goal.returns
returns c = each_has_one
