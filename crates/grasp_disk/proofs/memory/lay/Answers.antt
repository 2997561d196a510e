use Rattle.std.proofs.Common.{arith, length}
use Rattle.std.proofs.lemmas.List.{drop-drop}
use Rattle.grasp_disk.specs.Calls.{overlaid}
use Rattle.grasp_disk.proofs.memory.lay.Goals as goal

pub returns : goal.returns
unfolding overlaid
returns c = let more = drop-drop (length c.args.new.now) c.args.at c.args.over.now in grind (arith, drop-drop)
