use Rattle.std.proofs.Common.{◌/◌, ◌%◌, sym, arith}
use Rattle.grasp_cbor.proofs.Levels.{length-levels_in}
use Rattle.grasp_cbor.proofs.Rooms.{begins_with_room}
use Rattle.grasp_cbor.specs.Walking.{open_levels}
use Rattle.grasp_cbor.proofs.walker.Walk.start.Goals as goal

pub start_head-requires : goal.start_head-requires
start_head-requires c =
    let range = c.args.self.now.in_range in
    rw c.of.ensures (begins_with_room (open_levels c.args.self.now) c.args.self.now.string c.args.self.now.depth (c.args.byte / 32) (c.args.byte % 32) (length-levels_in c.args.self.now.depth c.args.self.now.levels) (omega arith) (omega arith) (omega arith) (sym c.in-None.ensures))
