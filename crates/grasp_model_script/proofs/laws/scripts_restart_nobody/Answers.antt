use Rattle.grasp_model_script.proofs.RunLaws.{scripts_restart_nobody}
use Rattle.grasp_model_script.proofs.laws.scripts_restart_nobody.Goals as goal

pub returns : goal.returns
returns c = scripts_restart_nobody c.events_keep_lives.ensures
