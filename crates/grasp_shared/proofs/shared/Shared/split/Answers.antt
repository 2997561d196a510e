use Rattle.std.proofs.Common.{arith}
use Rattle.grasp_shared.specs.Calls.{LedTo}
use Rattle.grasp_shared.proofs.Keeps.{splits}
use Rattle.grasp_shared.proofs.shared.Shared.split.Goals as goal

pub split_seat-seat-requires : goal.split_seat-seat-requires
split_seat-seat-requires c = let r = c.args.root.now in (c.requires.own, omega (arith, c.args.self.now.sized.0), splits LedTo _ _ _ r.idle.1 r.is_root.0 r.idle.2)
