use Rattle.grasp_laws_delivery.proofs.Fronts.{fronts_are_cut, pieces_add}
use Rattle.grasp_laws_delivery.proofs.byte_laws.pieces_give_what_was_said.Goals as goal

pub returns : goal.returns
returns c = record { cut = fronts_are_cut; add = pieces_add }
