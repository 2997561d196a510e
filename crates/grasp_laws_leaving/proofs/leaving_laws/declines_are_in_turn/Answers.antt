use Rattle.grasp_laws_leaving.proofs.InTurn as lemmas
use Rattle.grasp_laws_leaving.proofs.leaving_laws.declines_are_in_turn.Goals as goal

pub returns : goal.returns
returns c = lemmas.declines_are_in_turn
