use Rattle.grasp_laws_running.proofs.Holding as lemmas
use Rattle.grasp_laws_running.proofs.running_laws.running_nodes_hold_apart.Goals as goal

pub returns : goal.returns
returns c = lemmas.running_nodes_hold_apart c.nodes_open_as_seats.ensures c.running_nodes_are_safe.ensures
