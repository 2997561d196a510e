use Rattle.grasp_laws_negotiation.proofs.Lawful.{all_in_order}
use Rattle.grasp_laws_negotiation.proofs.negotiation_laws.negotiations_are_in_order.Goals as goal

pub returns : goal.returns
returns c = all_in_order c.negotiations_are_talks.ensures
