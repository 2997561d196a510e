use Rattle.grasp_laws_questions.proofs.Opening as lemmas
use Rattle.grasp_laws_questions.proofs.opening_laws.questions_begin.Goals as goal

pub returns : goal.returns
returns c = lemmas.questions_begin
