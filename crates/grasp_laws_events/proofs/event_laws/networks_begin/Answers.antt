use Rattle.grasp_laws_events.proofs.Steps as lemmas
use Rattle.grasp_laws_events.proofs.event_laws.networks_begin.Goals as goal

pub returns : goal.returns
returns c = lemmas.networks_begin
