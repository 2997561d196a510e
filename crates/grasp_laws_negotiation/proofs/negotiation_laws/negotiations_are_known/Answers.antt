use Rattle.grasp_laws_negotiation.proofs.Lawful.{all_known}
use Rattle.grasp_laws_negotiation.proofs.negotiation_laws.negotiations_are_known.Goals as goal

pub returns : goal.returns
returns c = all_known c.negotiations_are_talks.ensures
