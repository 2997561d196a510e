use Rattle.std.proofs.Common.{arith, ◌≡◌, Some, sym}
use Rattle.std.specs.List.{slice_get}
use Rattle.grasp_script.proofs.Members.{links_step}
use Rattle.grasp_script.proofs.fits.links_with.Goals as goal

pub loop-i-preserved : goal.loop-i-preserved
loop-i-preserved c =
    let at : slice_get c.args.links.now c.loop-i.i ≡ Some c.in-Some.members.now = sym c.in-Some.ensures in
    let least = c.counted-count.ensures.least in
    let few = c.loop-i.invariant.few in record {
      count = links_step c.args.links.now c.loop-i.i c.in-Some.members.now c.args.node c.loop-i.count c.counted-count.result at c.loop-i.invariant.count c.counted-count.ensures.value;
      few = omega (arith, least, few);
    }
