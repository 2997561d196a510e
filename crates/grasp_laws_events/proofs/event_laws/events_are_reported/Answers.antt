use Rattle.grasp_laws_events.proofs.Reporting as lemmas
use Rattle.grasp_laws_events.proofs.event_laws.events_are_reported.Goals as goal

pub returns : goal.returns
returns c = lemmas.events_are_reported
