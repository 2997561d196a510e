use Rattle.std.proofs.Common.{◌≡◌, ◌++◌, ◌∙◌, refl, ap, length, slice_get, Some}
use Rattle.std.proofs.lemmas.List.{take_all}
use Rattle.std.proofs.lemmas.Option.{slice_get_read}
use Rattle.grasp_service.specs.Plans.{heralds_from}
use Rattle.grasp_service.proofs.Crews.{herald_added}
use Rattle.grasp_service.proofs.crew.add_heralds.Goals as goal

pub loop-place-preserved : goal.loop-place-preserved
loop-place-preserved c =
    let all = c.args.heralds.now in
    let place = c.loop-place.place in
    let one = c.index-heralds-place.result in
    let at : slice_get all place ≡ Some one = slice_get_read all (length all) place one refl c.loop-place-test.true c.index-heralds-place.is in
    herald_added c.args.crew.now.items c.loop-place.crew.items c.add_herald.new.crew.items all place one at c.loop-place.invariant c.in_ok-add_herald.ensures

pub returns : goal.returns
returns c = c.loop-place.invariant ∙ ap (λ l. c.args.crew.now.items ++ heralds_from 1 l) (take_all c.loop-place.place c.args.heralds.now c.loop-place-test.false)
