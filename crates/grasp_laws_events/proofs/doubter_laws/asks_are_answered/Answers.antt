use Rattle.grasp_laws_events.proofs.Doubting as lemmas
use Rattle.grasp_laws_events.proofs.doubter_laws.asks_are_answered.Goals as goal

pub returns : goal.returns
returns c = lemmas.asks_are_answered
