use Rattle.grasp_laws_session.proofs.Unstepped.{unstepped_hear_none}
use Rattle.grasp_laws_session.proofs.laws.unstepped_hear_none.Goals as goal

pub returns : goal.returns
returns c = unstepped_hear_none
