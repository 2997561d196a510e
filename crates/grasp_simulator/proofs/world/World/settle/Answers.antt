use Rattle.std.proofs.Common.{arith, length, ◌≤◌}
use Rattle.grasp_model_network.specs.Plans.{IsNode}
use Rattle.grasp_simulator.proofs.Settles.{dead_node, dead_doubt, settles}
use Rattle.grasp_simulator.proofs.world.World.settle.Goals as goal

pub overflow_sub-node : goal.overflow_sub-node
overflow_sub-node c = (dead_node c.args.self.now c.args.node c.args.prefix c.requires c.in_default.is).least

pub index_mut-requires : goal.index_mut-requires
index_mut-requires c =
    let there : IsNode (length c.args.self.now.seats.items) c.args.node = dead_node c.args.self.now c.args.node c.args.prefix c.requires c.in_default.is in
    let least : 1 ≤ c.args.node = there.least in
    let most : c.args.node ≤ length c.args.self.now.seats.items = there.most in
    let place = c.from.ensures in
    omega (arith, least, most, place)

pub settle-requires : goal.settle-requires
settle-requires c = dead_doubt c.args.self.now c.args.node c.from.result c.args.prefix c.index_mut.result.now c.requires c.in_default.is c.from.ensures c.index_mut.ensures.value

pub returns : goal.returns
returns c =
    settles c.grounds_hold.ensures c.args.self.now c.args.node c.from.result c.args.prefix c.index_mut.result.now c.settle.new.self c.settle.ensures.life c.from.ensures c.index_mut.ensures.value c.settle.ensures.stands c.in_default.is
