use Rattle.grasp_laws_agent.proofs.LawGains.{gains_accepted}
use Rattle.grasp_laws_agent.proofs.laws.gains_are_accepted.Goals as goal

pub returns : goal.returns
returns c = gains_accepted
