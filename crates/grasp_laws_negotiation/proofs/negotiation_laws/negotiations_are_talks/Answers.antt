use Rattle.grasp_laws_negotiation.proofs.Talking.{all_talks}
use Rattle.grasp_laws_negotiation.proofs.negotiation_laws.negotiations_are_talks.Goals as goal

pub returns : goal.returns
returns c = all_talks c.grounds_hold.ensures
