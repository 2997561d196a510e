use Rattle.std.proofs.Common.{◌≡◌, ◌≤◌, length, take}
use Rattle.grasp_model_network.specs.Setting.{lines_of}
use Rattle.grasp_script.proofs.fits.links_with.Given as goal

abbrev pub invariant-loop-i : goal.invariant-loop-i
invariant-loop-i l = record {
  count : l.count ≡ length (lines_of l.node (take l.i l.links));
  few : l.count ≤ l.i;
}
