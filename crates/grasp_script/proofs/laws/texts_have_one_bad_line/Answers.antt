use Rattle.grasp_script.proofs.ScriptLaws.{one_bad_line}
use Rattle.grasp_script.proofs.laws.texts_have_one_bad_line.Goals as goal

pub returns : goal.returns
returns c = one_bad_line
