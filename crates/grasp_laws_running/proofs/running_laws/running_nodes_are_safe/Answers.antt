use Rattle.grasp_laws_running.proofs.Networks as lemmas
use Rattle.grasp_laws_running.proofs.running_laws.running_nodes_are_safe.Goals as goal

pub returns : goal.returns
returns c = lemmas.running_nodes_are_safe c.members_take_turns.ensures c.each_network_is_safe.ensures c.nodes_open_as_seats.ensures
