use Rattle.grasp_laws_session.proofs.Ends.{agree}
use Rattle.grasp_laws_session.proofs.laws.both_agree.Goals as goal

pub returns : goal.returns
returns c = agree
