use Rattle.grasp_script.proofs.ScriptLaws.{one_script}
use Rattle.grasp_script.proofs.laws.texts_have_one_script.Goals as goal

pub returns : goal.returns
returns c = one_script
