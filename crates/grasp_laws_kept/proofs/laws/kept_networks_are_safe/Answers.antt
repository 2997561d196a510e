use Rattle.grasp_laws_kept.proofs.Runs as lemmas
use Rattle.grasp_laws_kept.proofs.laws.kept_networks_are_safe.Goals as goal

pub returns : goal.returns
returns c = lemmas.kept_networks_are_safe c.each_network_is_safe.ensures
