use Rattle.std.proofs.Common.{arith, get_or}
use Rattle.std.proofs.lemmas.Option.{slice_get-get_or}
use Rattle.grasp_node_main.proofs.Passing.{splits_more}
use Rattle.grasp_node_main.proofs.passes.split_all.Goals as goal

pub loop-seat-preserved : goal.loop-seat-preserved
loop-seat-preserved c =
    let i = c.loop-seat.seat-index in
    let seats = c.loop-seat.seats in
    let d = c.seat-item.result in
    splits_more i c.args.shared.now c.args.root.now c.loop-seat.root c.split_one.new.root c.args.seats.now seats (get_or seats i d) c.split_one.new.seat c.loop-seat.invariant
    (slice_get-get_or seats i d (omega (arith, c.loop-seat-test.true, c.loop-seat.auto.seats))) c.split_one.ensures
