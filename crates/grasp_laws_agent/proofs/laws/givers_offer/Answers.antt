use Rattle.grasp_agent.proofs.Deciding.{givers_offer}
use Rattle.grasp_laws_agent.proofs.laws.givers_offer.Goals as goal

pub returns : goal.returns
returns c = givers_offer
