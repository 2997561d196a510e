use Rattle.grasp_laws_lives.proofs.Networks as lemmas
use Rattle.grasp_laws_lives.proofs.lives_laws.kept_lives_are_safe.Goals as goal

pub returns : goal.returns
returns c = lemmas.kept_lives_are_safe c.members_take_turns.ensures c.each_network_is_safe.ensures
