use Rattle.grasp_laws_delivery.proofs.Present as lemmas
use Rattle.grasp_laws_delivery.proofs.stream_laws.steps_are_present.Goals as goal

pub returns : goal.returns
returns c = lemmas.steps_are_present c.ties_are_kept.ensures
