use Rattle.std.proofs.Common.{◌≡◌, Some, sym, string_bytes}
use Rattle.std.specs.List.{slice_get}
use Rattle.grasp_script.proofs.Pushed.{prefixes_step}
use Rattle.grasp_script_kept.proofs.reports.push_all.Goals as goal

pub loop-i-preserved : goal.loop-i-preserved
loop-i-preserved c =
    let at : slice_get c.args.prefixes.now c.loop-i.i ≡ Some c.in-Some.prefix.now = sym c.in-Some.ensures in
    prefixes_step c.args.prefixes.now c.loop-i.i c.in-Some.prefix.now (string_bytes c.args.out.now) (string_bytes c.loop-i.out) (string_bytes c.push_prefix.new.out) at c.loop-i.invariant c.in_ok-push_prefix.ensures.text
