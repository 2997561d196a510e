use Rattle.grasp_recorder.proofs.Took.{no_piece, piece_taken}
use Rattle.grasp_recorder.proofs.traffic.piece.Goals as goal

pub returns-in_ok-of-in-Some : goal.returns-in_ok-of-in-Some
returns-in_ok-of-in-Some c = piece_taken c.args.world.now c.args.stream c.args.far c.args.count c.args.hold c.in-Some.side c.next_bytes.result.now _ c.in-Some.ensures c.next_bytes.ensures c.in_ok-of-in-Some.ensures

pub returns-in-None : goal.returns-in-None
returns-in-None c = no_piece c.args.world.now c.args.stream c.args.far c.args.count c.args.hold c.in-None.ensures
