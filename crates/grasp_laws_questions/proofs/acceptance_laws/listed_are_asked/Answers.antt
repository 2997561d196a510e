use Rattle.grasp_laws_questions.proofs.Agreeing as lemmas
use Rattle.grasp_laws_questions.proofs.acceptance_laws.listed_are_asked.Goals as goal

pub returns : goal.returns
returns c = lemmas.listed_are_asked c.grounds_hold.ensures
