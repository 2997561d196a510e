use Rattle.std.proofs.Common.{◌≡◌, Some, sym, string_bytes}
use Rattle.std.specs.List.{slice_get}
use Rattle.grasp_record.proofs.Pushed.{outputs_step}
use Rattle.grasp_record.proofs.writing.push_outputs.Goals as goal

pub loop-i-preserved : goal.loop-i-preserved
loop-i-preserved c =
    let at : slice_get c.args.outputs.now c.loop-i.i ≡ Some c.in-Some.output.now = sym c.in-Some.ensures in
    outputs_step c.args.outputs.now c.loop-i.i c.in-Some.output.now (string_bytes c.args.out.now) (string_bytes c.loop-i.out) (string_bytes c.push_output.new.out) at c.loop-i.invariant c.in_ok-push_output.ensures.text
