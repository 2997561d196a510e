use Rattle.grasp_laws_session.proofs.Ends.{legal, bounded}
use Rattle.grasp_laws_session.proofs.laws.runs_are_legal.Goals as goal

pub returns : goal.returns
returns c = record { legal = legal; bounded = bounded }
