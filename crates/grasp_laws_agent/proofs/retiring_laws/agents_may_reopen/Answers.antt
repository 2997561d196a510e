use Rattle.grasp_laws_agent.proofs.Reopening as lemmas
use Rattle.grasp_laws_agent.proofs.retiring_laws.agents_may_reopen.Goals as goal

pub returns-clause-now : goal.returns-clause-now
returns-clause-now c = lemmas.kept_agents_may_reopen

pub returns-clause-retired : goal.returns-clause-retired
returns-clause-retired c = lemmas.may_reopen_retired
