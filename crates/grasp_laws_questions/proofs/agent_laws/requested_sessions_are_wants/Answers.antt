use Rattle.grasp_laws_questions.proofs.Wanting as lemmas
use Rattle.grasp_laws_questions.proofs.agent_laws.requested_sessions_are_wants.Goals as goal

pub returns : goal.returns
returns c = lemmas.requested_sessions_are_wants c.agents_give.ensures c.own_sessions_are_duties.ensures
