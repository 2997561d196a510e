use Rattle.std.proofs.Common.{refl, length, string_bytes}
use Rattle.std.proofs.lemmas.Option.{slice_get_read}
use Rattle.grasp_node_main.proofs.Lining.{seat_pushed}
use Rattle.grasp_node_main.proofs.lines.push_crew.Goals as goal

pub loop-seat-preserved : goal.loop-seat-preserved
loop-seat-preserved c =
    let seats = c.args.seats.now in
    let i = c.loop-seat.seat-index in
    seat_pushed seats i c.seat-item.result (string_bytes c.args.out.now) (string_bytes c.loop-seat.out) (string_bytes c.push_worker.new.out)
    (slice_get_read seats (length seats) i c.seat-item.result refl c.loop-seat-test.true c.seat-item.is) c.loop-seat.invariant c.in_ok-push_worker.ensures
