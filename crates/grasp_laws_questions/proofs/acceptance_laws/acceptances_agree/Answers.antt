use Rattle.grasp_laws_questions.proofs.Agreeing as lemmas
use Rattle.grasp_laws_questions.proofs.acceptance_laws.acceptances_agree.Goals as goal

pub returns : goal.returns
returns c = lemmas.acceptances_agree c.grounds_hold.ensures
