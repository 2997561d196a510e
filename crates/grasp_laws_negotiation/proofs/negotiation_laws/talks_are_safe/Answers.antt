use Rattle.grasp_laws_negotiation.proofs.Lawful.{talks_safe}
use Rattle.grasp_laws_negotiation.proofs.negotiation_laws.talks_are_safe.Goals as goal

pub returns : goal.returns
returns c = talks_safe c.negotiations_are_talks.ensures
