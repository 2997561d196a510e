use Rattle.grasp_laws_serving.proofs.Networks as lemmas
use Rattle.grasp_laws_serving.proofs.serving_laws.serving_nodes_are_safe.Goals as goal

pub returns : goal.returns
returns c = lemmas.serving_nodes_are_safe c.members_take_turns.ensures c.each_network_is_safe.ensures c.nodes_open_as_seats.ensures
