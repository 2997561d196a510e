use Rattle.grasp_laws_questions.proofs.Leaving as lemmas
use Rattle.grasp_laws_questions.proofs.agent_laws.agents_leave_by_polls.Goals as goal

pub returns : goal.returns
returns c = lemmas.agents_leave_by_polls c.agents_serve.ensures c.nodes_are_sound.ensures c.owners_leave_by_polls.ensures
