use Rattle.grasp_laws_negotiation.proofs.Talking.{all_go_on}
use Rattle.grasp_laws_negotiation.proofs.negotiation_laws.negotiations_go_on.Goals as goal

pub returns : goal.returns
returns c = all_go_on c.grounds_hold.ensures
