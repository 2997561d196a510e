use Rattle.grasp_laws_events.proofs.Steps as lemmas
use Rattle.grasp_laws_events.proofs.event_laws.events_make_steps.Goals as goal

pub returns : goal.returns
returns c = lemmas.events_make_steps c.streams_are_ready.ensures
