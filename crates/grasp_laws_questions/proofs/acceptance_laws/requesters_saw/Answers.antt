use Rattle.grasp_laws_questions.proofs.Agreeing as lemmas
use Rattle.grasp_laws_questions.proofs.acceptance_laws.requesters_saw.Goals as goal

pub returns : goal.returns
returns c = lemmas.requesters_saw c.grounds_hold.ensures
