use Rattle.grasp_laws_events.proofs.Sides as lemmas
use Rattle.grasp_laws_events.proofs.event_laws.sides_stand_so.Goals as goal

pub returns : goal.returns
returns c = lemmas.sides_stand_so c.streams_are_ready.ensures
