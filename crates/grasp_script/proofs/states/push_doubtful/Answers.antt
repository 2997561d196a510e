use Rattle.std.proofs.Common.{◌≡◌, Some, sym, string_bytes}
use Rattle.std.specs.List.{slice_get}
use Rattle.grasp_script.proofs.Pushed.{prefixes_step}
use Rattle.grasp_script.proofs.states.push_doubtful.Goals as goal

pub loop-i-preserved : goal.loop-i-preserved
loop-i-preserved c =
    let at : slice_get c.args.pool.now.doubtful c.loop-i.i ≡ Some c.in-Some.prefix = sym c.in-Some.ensures.at in
    prefixes_step c.args.pool.now.doubtful c.loop-i.i c.in-Some.prefix (string_bytes c.args.out.now) (string_bytes c.loop-i.out) (string_bytes c.push_prefix.new.out) at c.loop-i.invariant c.in_ok-push_prefix-in-Some.ensures.text
