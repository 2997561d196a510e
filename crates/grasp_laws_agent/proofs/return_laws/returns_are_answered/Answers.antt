use Rattle.grasp_laws_agent.proofs.LawReturns as lemmas
use Rattle.grasp_laws_agent.proofs.return_laws.returns_are_answered.Goals as goal

pub returns : goal.returns
returns c = lemmas.returns_are_answered
