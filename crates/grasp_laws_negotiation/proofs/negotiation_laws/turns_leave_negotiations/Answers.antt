use Rattle.grasp_laws_negotiation.proofs.Left as lemmas
use Rattle.grasp_laws_negotiation.proofs.negotiation_laws.turns_leave_negotiations.Goals as goal

pub returns : goal.returns
returns c = lemmas.turns_leave_negotiations
