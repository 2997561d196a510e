use Rattle.std.proofs.Common.{rules, ◌∙◌, sym}
use Rattle.grasp_simulator.proofs.Dying.{unowned_asks, other_asks, own_asks}
use Rattle.grasp_simulator.proofs.ImageParts.{never}
use Rattle.grasp_simulator.proofs.world.World.is_asking.Goals as goal

pub returns-in_default : goal.returns-in_default
returns-in_default c = λ s w t goes near. never (unowned_asks c.grounds_hold.ensures c.args.self.now s w goes t c.args.end.life c.args.end.number near (sym c.owner.ensures ∙ c.in_default.is))

pub returns-then-seat-end : goal.returns-then-seat-end
returns-then-seat-end c = λ s w t goes near. never
    (other_asks c.grounds_hold.ensures c.args.self.now s w goes t c.args.end.life c.args.end.number near c.in-Some.node c.from.result c.index-seat.result.now (sym c.owner.ensures ∙ c.in-Some.is) c.from.ensures c.index-seat.ensures (search rules))

pub returns : goal.returns
returns c = λ s w t goes near.
    own_asks c.grounds_hold.ensures c.args.self.now s w goes t c.args.end.life c.args.end.number near c.in-Some.node c.from.result c.index-seat.result.now (sym c.owner.ensures ∙ c.in-Some.is) c.from.ensures c.index-seat.ensures
    (search rules) c.goes_on.result c.goes_on.ensures
