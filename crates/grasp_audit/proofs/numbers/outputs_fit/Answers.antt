use Rattle.std.proofs.Common.{◌≡◌, length, Some, refl}
use Rattle.std.specs.List.{slice_get}
use Rattle.std.proofs.lemmas.Option.{slice_get_read}
use Rattle.grasp_text.proofs.Pushed.{all_step}
use Rattle.grasp_audit.specs.Numbers.{OutputFits}
use Rattle.grasp_audit.proofs.numbers.outputs_fit.Goals as goal

pub loop-output-preserved : goal.loop-output-preserved
loop-output-preserved c =
    let items = c.slice-output-items.result.now in
    let i = c.loop-output.output-index in
    let at : slice_get c.args.outputs.now i ≡ Some c.output-item.result = cc (slice_get_read items (length items) i c.output-item.result refl c.loop-output-test.true c.output-item.is, c.slice-output-items.ensures) in
    all_step OutputFits c.args.outputs.now i c.output-item.result at c.loop-output.invariant c.output_fits.ensures
