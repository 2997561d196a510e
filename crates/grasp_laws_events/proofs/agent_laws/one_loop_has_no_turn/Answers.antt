use Rattle.grasp_laws_events.proofs.OneLoop as lemmas
use Rattle.grasp_laws_events.proofs.agent_laws.one_loop_has_no_turn.Goals as goal

pub returns : goal.returns
returns c = lemmas.one_loop_has_no_turn
