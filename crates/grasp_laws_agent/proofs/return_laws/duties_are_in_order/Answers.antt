use Rattle.grasp_laws_agent.proofs.LawReturns as lemmas
use Rattle.grasp_laws_agent.proofs.return_laws.duties_are_in_order.Goals as goal

pub returns : goal.returns
returns c = lemmas.duties_are_in_order
