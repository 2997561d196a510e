use Rattle.std.proofs.Common.{rules, ◌≤◌, ◌+◌, length}
use Rattle.grasp_wire.specs.Stands.{fed_count}
use Rattle.grasp_model_node.specs.Bytes.{most_bytes}
use Rattle.grasp_core.specs.Feeding.{with_piece}
use Rattle.grasp_core.proofs.FedPieces.{fed_hears, left_open, left_shut, unfed}
use Rattle.grasp_core.proofs.node_core.NodeCore.feed.Goals as goal

pub returns-in-Err : goal.returns-in-Err
returns-in-Err c f x =
    let room : fed_count c.args.cutter + length c.args.piece.now ≤ most_bytes = search rules in
    unfed c.args.stream c.args.self.now c.args.cutter c.args.piece.now f x room

pub returns-in-Open : goal.returns-in-Open
returns-in-Open c f x =
    let room : fed_count c.args.cutter + length c.args.piece.now ≤ most_bytes = search rules in
    left_open c.args.stream c.args.self.now c.hear_all.new.self c.args.cutter c.hear_all.new.cutter c.args.piece.now f x room
    (c.in-Open.ensures (with_piece c.args.piece.now f) (fed_hears c.args.self.now c.args.cutter c.feed.new.self c.args.piece.now f x c.in-Ok.ensures.ok c.feed.ensures.limit))

pub returns-in-Shut : goal.returns-in-Shut
returns-in-Shut c f x =
    let room : fed_count c.args.cutter + length c.args.piece.now ≤ most_bytes = search rules in
    left_shut c.args.stream c.args.self.now c.hear_all.new.self c.args.cutter c.args.piece.now f x room
    (c.in-Shut.ensures (with_piece c.args.piece.now f) (fed_hears c.args.self.now c.args.cutter c.feed.new.self c.args.piece.now f x c.in-Ok.ensures.ok c.feed.ensures.limit))
