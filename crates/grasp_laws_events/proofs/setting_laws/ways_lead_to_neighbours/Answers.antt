use Rattle.grasp_laws_events.proofs.Ways as lemmas
use Rattle.grasp_laws_events.proofs.setting_laws.ways_lead_to_neighbours.Goals as goal

pub returns : goal.returns
returns c = lemmas.ways_lead_to_neighbours
