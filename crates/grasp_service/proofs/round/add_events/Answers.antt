use Rattle.std.proofs.Common.{◌≡◌, length, refl, slice_get, Some}
use Rattle.std.proofs.lemmas.Option.{slice_get_read}
use Rattle.grasp_service.proofs.Events.{events_more}
use Rattle.grasp_service.proofs.round.add_events.Goals as goal

pub loop-event-preserved : goal.loop-event-preserved
loop-event-preserved c =
    let all = c.args.events.now in
    let i = c.loop-event.event-index in
    let one = c.event-item.result in
    let at : slice_get all i ≡ Some one = slice_get_read all (length all) i one refl c.loop-event-test.true c.event-item.is in
    events_more c.args.seats.now all i one c.args.lines.now c.loop-event.lines c.add_line.new.lines at c.loop-event.invariant c.in_ok-add_line.ensures
