use Rattle.std.proofs.Common.{arith, ◌≡◌, ◌<◌, ◌≤◌, length, Some, refl, sym}
use Rattle.std.specs.List.{slice_get}
use Rattle.grasp_model_network.specs.Setting.{lines_of}
use Rattle.grasp_script.proofs.Members.{all_next, all_taken}
use Rattle.grasp_script.proofs.fits.has_room.Goals as goal

pub loop-i-preserved : goal.loop-i-preserved
loop-i-preserved c =
    let at : slice_get c.args.members.now c.loop-i.i ≡ Some c.in-Some.node.now = sym c.in-Some.ensures in
    let less : length (lines_of c.in-Some.node.now c.args.links.now) < 16 = omega arith in
    all_next (λ node. length (lines_of node c.args.links.now) < 16) c.args.members.now c.loop-i.i c.in-Some.node.now at c.loop-i.invariant less

pub returns : goal.returns
returns c =
    let over : length c.args.members.now ≤ c.loop-i.i = omega arith in
    (λ _. all_taken (λ node. length (lines_of node c.args.links.now) < 16) c.args.members.now c.loop-i.i over c.loop-i.invariant, λ _. refl)
