use Rattle.grasp_laws_agent.proofs.LawCursors as lemmas
use Rattle.grasp_laws_agent.proofs.laws.cursors_turn.Goals as goal

pub returns : goal.returns
returns c = lemmas.cursors_turn
