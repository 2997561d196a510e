use Rattle.std.proofs.Common.{◌≡◌, Some, sym, string_bytes}
use Rattle.std.specs.List.{slice_get}
use Rattle.grasp_script.proofs.Pushed.{reads_step}
use Rattle.grasp_script.proofs.replies.push_flood_reads.Goals as goal

pub loop-i-preserved : goal.loop-i-preserved
loop-i-preserved c =
    let at : slice_get c.args.reads.now c.loop-i.i ≡ Some c.in-Some.read.now = sym c.in-Some.ensures in
    reads_step c.args.reads.now c.loop-i.i c.in-Some.read.now (string_bytes c.args.out.now) (string_bytes c.loop-i.out) (string_bytes c.push_flood_read.new.out) at c.loop-i.invariant c.in_ok-push_flood_read.ensures.text
