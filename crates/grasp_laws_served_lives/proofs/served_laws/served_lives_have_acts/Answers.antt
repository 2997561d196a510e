use Rattle.grasp_laws_served_lives.proofs.Stores as lemmas
use Rattle.grasp_laws_served_lives.proofs.served_laws.served_lives_have_acts.Goals as goal

pub returns : goal.returns
returns c = lemmas.served_lives_have_acts c.nodes_open_as_seats.ensures
