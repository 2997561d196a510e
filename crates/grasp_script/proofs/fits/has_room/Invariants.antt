use Rattle.std.proofs.Common.{◌<◌, length, take}
use Rattle.std.specs.Prelude.{All}
use Rattle.grasp_model_network.specs.Setting.{lines_of}
use Rattle.grasp_script.proofs.fits.has_room.Given as goal

abbrev pub invariant-loop-i : goal.invariant-loop-i
invariant-loop-i l = All (λ node. length (lines_of node l.links) < 16) (take l.i l.members)
