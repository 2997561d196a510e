use Rattle.grasp_laws_events.proofs.Doubting as lemmas
use Rattle.grasp_laws_events.proofs.doubter_laws.questions_are_answered.Goals as goal

pub returns : goal.returns
returns c = lemmas.questions_are_answered
