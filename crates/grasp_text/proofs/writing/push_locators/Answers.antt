use Rattle.std.proofs.Common.{◌≡◌, length, Some, refl, string_bytes}
use Rattle.std.specs.List.{slice_get}
use Rattle.std.proofs.lemmas.Option.{slice_get_read}
use Rattle.grasp_types.specs.Address.{IsLocator}
use Rattle.grasp_text.proofs.Pushed.{locators_step, all_step}
use Rattle.grasp_text.proofs.writing.push_locators.Goals as goal

pub loop-locator-preserved : goal.loop-locator-preserved
loop-locator-preserved c =
    let items = c.slice-locator-items.result.now in
    let i = c.loop-locator.locator-index in
    let at : slice_get c.args.locators.now i ≡ Some c.locator-item.result = cc (slice_get_read items (length items) i c.locator-item.result refl c.loop-locator-test.true c.locator-item.is, c.slice-locator-items.ensures.value) in record {
      text = locators_step c.args.locators.now i c.locator-item.result (string_bytes c.args.out.now) (string_bytes c.loop-locator.out) (string_bytes c.push_locator.new.out) at c.loop-locator.invariant.text c.in_ok-push_locator.ensures.text;
      ranges = all_step IsLocator c.args.locators.now i c.locator-item.result at c.loop-locator.invariant.ranges c.in_ok-push_locator.ensures.ranges;
    }
