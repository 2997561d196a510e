use Rattle.grasp_laws_running.proofs.Others as lemmas
use Rattle.grasp_laws_running.proofs.running_laws.others_call_as_others.Goals as goal

pub returns : goal.returns
returns c = lemmas.others_call_as_others c.nodes_open_as_seats.ensures
