use Rattle.grasp_laws_agent.proofs.LawDuties.{there_is_a_duty}
use Rattle.grasp_laws_agent.proofs.LawKept.{agents_are_kept}
use Rattle.grasp_laws_agent.proofs.laws.agents_are_kept.Goals as goal

pub returns-clause-kept : goal.returns-clause-kept
returns-clause-kept c = agents_are_kept

pub returns-clause-duty : goal.returns-clause-duty
returns-clause-duty c = there_is_a_duty
