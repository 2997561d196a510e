use Rattle.std.proofs.Common.{rules, ◌≤◌, length, arith}
use Rattle.grasp_quick.proofs.Rooms.{unhexed}
use Rattle.grasp_quick.proofs.room.Room.put_front_bytes.Goals as goal

pub returns : goal.returns
returns c =
    let long : c.self.inside.len ≤ length c.self.inside.bytes = first_of (search rules, omega arith) in
    let read = c.front_bytes-count.ensures in
    rw (← c.self.view_is)
    (unhexed c.args.digits.now c.front_bytes-count.new.out c.self.inside.bytes _ c.self.inside.len c.front_bytes-count.result long read.room
    read.inside read.digits read.fits)
