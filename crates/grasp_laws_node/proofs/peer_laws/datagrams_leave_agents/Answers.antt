use Rattle.grasp_laws_node.proofs.DatagramsAlone.{datagrams_leave}
use Rattle.grasp_laws_node.proofs.peer_laws.datagrams_leave_agents.Goals as goal

pub returns : goal.returns
returns c = datagrams_leave
