use Rattle.grasp_laws_serving.proofs.Lives as lemmas
use Rattle.grasp_laws_serving.proofs.serving_laws.services_have_acts.Goals as goal

pub returns : goal.returns
returns c = lemmas.services_have_acts c.nodes_open_as_seats.ensures
