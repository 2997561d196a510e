use Rattle.std.proofs.Common.{◌≤◌, refl, arith}
use Rattle.grasp_service.proofs.Making.{cut_at_once, round_through}
use Rattle.grasp_service.proofs.service.Service.round.Goals as goal

pub returns-then-turn : goal.returns-then-turn
returns-then-turn g c = cut_at_once g.B.Disk.stands g.B.Disk.faults _ _ _ c.args.shelf.now c.args.shelf.now _ _ _ _ c.make_turn-turn.ensures refl

pub returns : goal.returns
returns g c =
    let within : c.min-wait.result ≤ c.args.self.now.tick = omega arith in
    round_through g.B.Disk.stands g.B.Disk.faults c.follow.result _ _ _ _ _ _ _ _ _ _ _ _ c.make_turn-turn.ensures c.follow.ensures
    c.if-turn.false within refl refl
