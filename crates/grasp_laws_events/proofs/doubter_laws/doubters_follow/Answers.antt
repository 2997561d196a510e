use Rattle.grasp_laws_events.proofs.Following as lemmas
use Rattle.grasp_laws_events.proofs.doubter_laws.doubters_follow.Goals as goal

pub returns : goal.returns
returns c = lemmas.doubters_follow
