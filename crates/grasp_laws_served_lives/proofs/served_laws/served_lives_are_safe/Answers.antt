use Rattle.grasp_laws_served_lives.proofs.Networks as lemmas
use Rattle.grasp_laws_served_lives.proofs.served_laws.served_lives_are_safe.Goals as goal

pub returns : goal.returns
returns c = lemmas.served_lives_are_safe c.nodes_open_as_seats.ensures c.kept_lives_are_safe.ensures
