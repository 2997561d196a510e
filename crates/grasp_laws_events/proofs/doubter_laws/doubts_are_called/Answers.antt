use Rattle.grasp_laws_events.proofs.Doubting as lemmas
use Rattle.grasp_laws_events.proofs.doubter_laws.doubts_are_called.Goals as goal

pub returns : goal.returns
returns c = lemmas.doubts_are_called
