use Rattle.grasp_script.proofs.ScriptLaws.{no_bad_line}
use Rattle.grasp_script.proofs.laws.scripts_have_no_bad_line.Goals as goal

pub returns : goal.returns
returns c = no_bad_line
