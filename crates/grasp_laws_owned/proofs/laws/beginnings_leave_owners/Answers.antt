use Rattle.grasp_laws_owned.proofs.Steps as lemmas
use Rattle.grasp_laws_owned.proofs.laws.beginnings_leave_owners.Goals as goal

pub returns : goal.returns
returns c = lemmas.beginnings_leave_owners
