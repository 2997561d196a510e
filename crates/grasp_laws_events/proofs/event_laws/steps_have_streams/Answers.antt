use Rattle.grasp_laws_events.proofs.Steps as lemmas
use Rattle.grasp_laws_events.proofs.event_laws.steps_have_streams.Goals as goal

pub returns : goal.returns
returns c = lemmas.steps_have_streams
