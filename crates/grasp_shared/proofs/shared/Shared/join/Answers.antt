use Rattle.std.proofs.Common.{arith, ap, ◌∙◌}
use Rattle.grasp_shared.specs.Calls.{LedTo}
use Rattle.grasp_shared.specs.Plays.{Sat}
use Rattle.grasp_shared.proofs.Keeps.{joins, meets}
use Rattle.grasp_shared.proofs.shared.Shared.join.Goals as goal

pub join_seat-requires : goal.join_seat-requires
join_seat-requires c = let r = c.args.root.now in let p = c.args.pass in
    (c.requires.own.0, c.requires.own.1, p.idle.0, omega (arith, c.args.self.now.sized.0), joins LedTo _ _ _ _ _ r.idle.1 r.is_root.0 r.idle.2 p.idle.1 p.idle.2)

pub load-requires : goal.load-requires
load-requires c = (c.join_seat.ensures.0 ∙ c.requires.own.0, omega (arith, c.args.self.now.sized.0), meets LedTo _ _ _ _ (ap (λ (m : Sat). m.0.live) c.join_seat.ensures.2 ∙ c.args.root.now.idle.1))
