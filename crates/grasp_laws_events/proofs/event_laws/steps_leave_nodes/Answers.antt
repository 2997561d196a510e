use Rattle.grasp_laws_events.proofs.Steps as lemmas
use Rattle.grasp_laws_events.proofs.event_laws.steps_leave_nodes.Goals as goal

pub returns : goal.returns
returns c = lemmas.steps_leave_nodes
