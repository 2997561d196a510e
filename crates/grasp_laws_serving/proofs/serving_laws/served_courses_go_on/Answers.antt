use Rattle.grasp_laws_serving.proofs.Going as lemmas
use Rattle.grasp_laws_serving.proofs.serving_laws.served_courses_go_on.Goals as goal

pub returns : goal.returns
returns c = lemmas.served_courses_go_on c.members_may_call.ensures
