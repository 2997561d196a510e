use Rattle.grasp_laws_events.proofs.Doubting as lemmas
use Rattle.grasp_laws_events.proofs.doubter_laws.questions_end.Goals as goal

pub returns : goal.returns
returns c = lemmas.questions_end
