use Rattle.grasp_laws_serving.proofs.Holding as lemmas
use Rattle.grasp_laws_serving.proofs.serving_laws.serving_nodes_hold_apart.Goals as goal

pub returns : goal.returns
returns c = lemmas.serving_nodes_hold_apart c.nodes_open_as_seats.ensures c.serving_nodes_are_safe.ensures
