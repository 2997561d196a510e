use Rattle.grasp_laws_events.proofs.Stopping as lemmas
use Rattle.grasp_laws_events.proofs.event_laws.stops_have_causes.Goals as goal

pub returns : goal.returns
returns c = lemmas.stops_have_causes
