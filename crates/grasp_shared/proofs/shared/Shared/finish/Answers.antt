use Rattle.std.proofs.Common.{arith}
use Rattle.grasp_shared.proofs.Turns.{ends_at}
use Rattle.grasp_shared.proofs.shared.Shared.finish.Goals as goal

pub fetch_add-requires : goal.fetch_add-requires
fetch_add-requires g c = let t = c.requires.turn in (c.requires.own, omega (arith, c.args.self.now.sized.0), ends_at _ _ _ _ t.0 g.J.Calling.call t.1 t.2 t.3 t.4)
