use Rattle.grasp_wire.proofs.Pieces.{any_pieces_begin, any_pieces_give_all}
use Rattle.grasp_wire.proofs.laws.any_pieces_cut_alike.Goals as goal

pub returns : goal.returns
returns c = record { begin = any_pieces_begin; all = any_pieces_give_all }
