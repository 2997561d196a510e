use Rattle.grasp_model_script.proofs.RunLaws.{each_network_is_safe}
use Rattle.grasp_model_script.proofs.laws.each_network_is_safe.Goals as goal

pub returns : goal.returns
returns c = each_network_is_safe (record { negotiations = c.talks_are_safe.ensures; floods = c.read_floods_are_real.ensures; prefixes = c.prefixes_stay_apart.ensures })
