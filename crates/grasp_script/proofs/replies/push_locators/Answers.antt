use Rattle.std.proofs.Common.{◌≡◌, Some, sym, string_bytes}
use Rattle.std.specs.List.{slice_get}
use Rattle.grasp_text.proofs.Pushed.{locators_step}
use Rattle.grasp_script.proofs.replies.push_locators.Goals as goal

pub loop-i-preserved : goal.loop-i-preserved
loop-i-preserved c =
    let at : slice_get c.args.locators.now c.loop-i.i ≡ Some c.in-Some.locator.now = sym c.in-Some.ensures in
    locators_step c.args.locators.now c.loop-i.i c.in-Some.locator.now (string_bytes c.args.out.now) (string_bytes c.loop-i.out) (string_bytes c.push_locator.new.out) at c.loop-i.invariant c.in_ok-push_locator.ensures.text
