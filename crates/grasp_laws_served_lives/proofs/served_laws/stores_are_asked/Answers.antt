use Rattle.grasp_laws_served_lives.proofs.Stores as lemmas
use Rattle.grasp_laws_served_lives.proofs.served_laws.stores_are_asked.Goals as goal

pub returns : goal.returns
returns c = lemmas.stores_are_asked c.nodes_open_as_seats.ensures
