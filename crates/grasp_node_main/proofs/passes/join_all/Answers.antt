use Rattle.std.proofs.Common.{arith, get_or}
use Rattle.std.proofs.lemmas.Option.{slice_get-get_or}
use Rattle.grasp_node_main.proofs.Passing.{waits_with_pass, joins_more}
use Rattle.grasp_node_main.proofs.passes.join_all.Goals as goal

pub join_one-requires-clause-pass : goal.join_one-requires-clause-pass
join_one-requires-clause-pass c =
    let seats = c.loop-seat.seats in
    waits_with_pass c.loop-seat.seat-index c.args.shared.now c.args.root.now c.loop-seat.root c.args.seats.now seats c.seat-item.result c.loop-seat.invariant c.requires.passes (omega (arith, c.loop-seat-test.true, c.loop-seat.auto.seats))

pub loop-seat-preserved : goal.loop-seat-preserved
loop-seat-preserved c =
    let i = c.loop-seat.seat-index in
    let seats = c.loop-seat.seats in
    let d = c.seat-item.result in
    joins_more i c.args.shared.now c.args.root.now c.loop-seat.root c.join_one.new.root c.args.seats.now seats (get_or seats i d) c.join_one.new.seat c.loop-seat.invariant
    (slice_get-get_or seats i d (omega (arith, c.loop-seat-test.true, c.loop-seat.auto.seats))) c.join_one.ensures
