use Rattle.std.proofs.Common.{rules, ◌<◌}
use Rattle.grasp_pool.specs.Pools.{room_of}
use Rattle.grasp_pool.proofs.Gaining.{can_gain_is}
use Rattle.grasp_pool.proofs.pool.Pool.can_gain.Goals as goal

pub returns-then-room-gt0 : goal.returns-then-room-gt0
returns-then-room-gt0 c =
    let room : 0 < room_of c.args.self.now = search rules
    in can_gain_is c.args.self.now c.args.prefix c.first_kept.result c.is_none.result c.first_kept.ensures.first room c.is_none.ensures
