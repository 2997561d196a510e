use Rattle.grasp_laws_node.proofs.StreamsAlone.{peers_leave}
use Rattle.grasp_laws_node.proofs.peer_laws.peers_leave_the_rest.Goals as goal

pub returns : goal.returns
returns c = peers_leave
