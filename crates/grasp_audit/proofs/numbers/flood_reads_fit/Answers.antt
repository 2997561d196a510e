use Rattle.std.proofs.Common.{◌≡◌, length, Some, refl}
use Rattle.std.specs.List.{slice_get}
use Rattle.std.proofs.lemmas.Option.{slice_get_read}
use Rattle.grasp_text.proofs.Pushed.{all_step}
use Rattle.grasp_audit.specs.Numbers.{FloodReadFits}
use Rattle.grasp_audit.proofs.numbers.flood_reads_fit.Goals as goal

pub loop-read-preserved : goal.loop-read-preserved
loop-read-preserved c =
    let items = c.slice-read-items.result.now in
    let i = c.loop-read.read-index in
    let at : slice_get c.args.reads.now i ≡ Some c.read-item.result = cc (slice_get_read items (length items) i c.read-item.result refl c.loop-read-test.true c.read-item.is, c.slice-read-items.ensures) in
    all_step FloodReadFits c.args.reads.now i c.read-item.result at c.loop-read.invariant c.flood_read_fits.ensures
