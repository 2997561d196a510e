use Rattle.grasp_laws_owned.proofs.Steps as lemmas
use Rattle.grasp_laws_owned.proofs.laws.owners_leave_by_polls.Goals as goal

pub returns : goal.returns
returns c = lemmas.owners_leave_by_polls c.poll_means.ensures
