use Rattle.std.proofs.Common.{◌≡◌, ◌++◌, ◌∙◌, refl, ap, length, map, slice_get, Some}
use Rattle.std.proofs.lemmas.List.{take_all}
use Rattle.std.proofs.lemmas.Option.{slice_get_read}
use Rattle.grasp_node_main.specs.Crew.{beacons_from}
use Rattle.grasp_node_main.specs.Seats.{first_seat}
use Rattle.grasp_node_main.proofs.Begins.{beacon_added}
use Rattle.grasp_node_main.proofs.opening.add_beacons.Goals as goal

pub loop-place-preserved : goal.loop-place-preserved
loop-place-preserved c =
    let bs = c.args.beacons.now in
    let place = c.loop-place.place in
    let b = c.index-beacons-place.result in
    let at : slice_get bs place ≡ Some b = slice_get_read bs (length bs) place b refl c.loop-place-test.true c.index-beacons-place.is in
    let more = beacon_added c.args.seats.now.items c.loop-place.seats.items bs place b at c.loop-place.invariant in
    let pushed = c.in_ok-push.ensures.items in
    let seat = c.of.ensures in
    let opened = c.open-opened.ensures in
    let name = c.in_ok-name.ensures in
    let value = c.in_ok-value.ensures in
    cc

pub returns : goal.returns
returns c = c.loop-place.invariant ∙ ap (λ l. c.args.seats.now.items ++ map first_seat (beacons_from 1 l)) (take_all c.loop-place.place c.args.beacons.now c.loop-place-test.false)
