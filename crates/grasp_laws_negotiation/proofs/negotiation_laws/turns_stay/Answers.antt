use Rattle.grasp_laws_negotiation.proofs.Lawful.{all_turns}
use Rattle.grasp_laws_negotiation.proofs.negotiation_laws.turns_stay.Goals as goal

pub returns : goal.returns
returns c = all_turns c.negotiations_go_on.ensures
