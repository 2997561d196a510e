use Rattle.std.proofs.Common.{◌≡◌, ◌++◌, ◌∙◌, refl, ap, length, map, slice_get, Some}
use Rattle.std.proofs.lemmas.List.{take_all}
use Rattle.std.proofs.lemmas.Option.{slice_get_read}
use Rattle.grasp_node_main.specs.Crew.{readers_from}
use Rattle.grasp_node_main.specs.Seats.{first_seat}
use Rattle.grasp_node_main.proofs.Begins.{reader_added}
use Rattle.grasp_node_main.proofs.opening.add_readers.Goals as goal

pub loop-place-preserved : goal.loop-place-preserved
loop-place-preserved c =
    let names = c.args.readers.now in
    let place = c.loop-place.place in
    let name = c.index-readers-place.result in
    let at : slice_get names place ≡ Some name = slice_get_read names (length names) place name refl c.loop-place-test.true c.index-readers-place.is in
    let more = reader_added c.args.seats.now.items c.loop-place.seats.items names place name at c.loop-place.invariant in
    let pushed = c.in_ok-push.ensures.items in
    let seat = c.of.ensures in
    let opened = c.in_ok-opened.ensures in
    let copied = c.in_ok-copy.ensures in
    cc

pub returns : goal.returns
returns c = c.loop-place.invariant ∙ ap (λ l. c.args.seats.now.items ++ map first_seat (readers_from 1 l)) (take_all c.loop-place.place c.args.readers.now c.loop-place-test.false)
