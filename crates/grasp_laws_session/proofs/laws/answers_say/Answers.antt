use Rattle.grasp_laws_session.proofs.Says.{starts_say, checks_say}
use Rattle.grasp_laws_session.proofs.laws.answers_say.Goals as goal

pub returns : goal.returns
returns c = record { start = starts_say; check = checks_say }
