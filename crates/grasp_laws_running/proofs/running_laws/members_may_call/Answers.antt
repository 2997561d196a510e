use Rattle.grasp_laws_running.proofs.Going as lemmas
use Rattle.grasp_laws_running.proofs.running_laws.members_may_call.Goals as goal

pub returns : goal.returns
returns c = lemmas.members_may_call c.events_come_out.ensures
