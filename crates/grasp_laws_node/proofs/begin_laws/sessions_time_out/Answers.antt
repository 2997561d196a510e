use Rattle.grasp_laws_node.proofs.Beginning as lemmas
use Rattle.grasp_laws_node.proofs.begin_laws.sessions_time_out.Goals as goal

pub returns : goal.returns
returns c = lemmas.sessions_time_out
