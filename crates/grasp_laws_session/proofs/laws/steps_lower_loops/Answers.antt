use Rattle.grasp_laws_session.proofs.Follows.{legal_counts}
use Rattle.grasp_laws_session.proofs.laws.steps_lower_loops.Goals as goal

pub returns : goal.returns
returns c = λ said legal. (legal_counts said legal).sum
