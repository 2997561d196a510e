use Rattle.std.proofs.Common.{rules, ◌≤◌, length, arith}
use Rattle.grasp_quick.proofs.Rooms.{head_set}
use Rattle.grasp_quick.proofs.room.Room.set_array_head.Goals as goal

pub returns : goal.returns
returns c =
    let long : c.self.inside.len ≤ length c.self.inside.bytes = first_of (search rules, omega arith) in
    rw (← c.self.view_is) (head_set c.self.inside.bytes c.self.inside.len c.args.at c.args.count (omega arith) long (omega arith))
