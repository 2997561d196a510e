use Rattle.grasp_laws_session.proofs.Outcomes.{outcomes_say}
use Rattle.grasp_laws_session.proofs.Built.{outcome_stays}
use Rattle.grasp_laws_session.proofs.laws.outcomes_say.Goals as goal

pub returns : goal.returns
returns c = record { says = outcomes_say; stay = outcome_stays }
