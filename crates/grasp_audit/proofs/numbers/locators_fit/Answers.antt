use Rattle.std.proofs.Common.{◌≡◌, length, Some, refl}
use Rattle.std.specs.List.{slice_get}
use Rattle.std.proofs.lemmas.Option.{slice_get_read}
use Rattle.grasp_text.proofs.Pushed.{all_step}
use Rattle.grasp_audit.specs.Numbers.{LocatorFits}
use Rattle.grasp_audit.proofs.numbers.locators_fit.Goals as goal

pub loop-locator-preserved : goal.loop-locator-preserved
loop-locator-preserved c =
    let items = c.slice-locator-items.result.now in
    let i = c.loop-locator.locator-index in
    let at : slice_get c.args.locators.now i ≡ Some c.locator-item.result = cc (slice_get_read items (length items) i c.locator-item.result refl c.loop-locator-test.true c.locator-item.is, c.slice-locator-items.ensures.value) in
    all_step LocatorFits c.args.locators.now i c.locator-item.result at c.loop-locator.invariant c.locator_fits.ensures
