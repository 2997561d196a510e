use Rattle.grasp_node_main.proofs.Networks.{nodes_open_as_seats}
use Rattle.grasp_node_main.proofs.laws.nodes_open_as_seats.Goals as goal

pub returns : goal.returns
returns c = nodes_open_as_seats
