use Rattle.std.proofs.Common.{◌≡◌, length, refl, slice_get, Some}
use Rattle.std.proofs.lemmas.Option.{slice_get_read}
use Rattle.grasp_service.proofs.Events.{line_more}
use Rattle.grasp_service.proofs.round.add_line.Goals as goal

pub loop-seat-preserved : goal.loop-seat-preserved
loop-seat-preserved c =
    let all = c.args.seats.now in
    let i = c.loop-seat.seat-index in
    let one = c.seat-item.result in
    let at : slice_get all i ≡ Some one = slice_get_read all (length all) i one refl c.loop-seat-test.true c.seat-item.is in
    line_more all c.args.event.now i one c.args.lines.now c.loop-seat.lines c.add_heard.new.lines at c.loop-seat.invariant c.in_ok-add_heard.ensures
