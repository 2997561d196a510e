use Rattle.std.proofs.Common.{◌≡◌, ◌++◌, ◌∙◌, refl, ap, length, slice_get, Some}
use Rattle.std.proofs.lemmas.List.{take_all}
use Rattle.std.proofs.lemmas.Option.{slice_get_read}
use Rattle.grasp_service.specs.Plans.{listeners_from}
use Rattle.grasp_service.proofs.Crews.{listener_added}
use Rattle.grasp_service.proofs.crew.add_listeners.Goals as goal

pub loop-place-preserved : goal.loop-place-preserved
loop-place-preserved c =
    let all = c.args.readers.now in
    let place = c.loop-place.place in
    let one = c.index-readers-place.result in
    let at : slice_get all place ≡ Some one = slice_get_read all (length all) place one refl c.loop-place-test.true c.index-readers-place.is in
    listener_added c.args.crew.now.items c.loop-place.crew.items c.add_listener.new.crew.items all place one at c.loop-place.invariant c.in_ok-add_listener.ensures

pub returns : goal.returns
returns c = c.loop-place.invariant ∙ ap (λ l. c.args.crew.now.items ++ listeners_from 1 l) (take_all c.loop-place.place c.args.readers.now c.loop-place-test.false)
