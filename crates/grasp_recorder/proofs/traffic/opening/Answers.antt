use Rattle.grasp_recorder.proofs.Took.{no_opening, opening_taken}
use Rattle.grasp_recorder.proofs.traffic.opening.Goals as goal

pub returns-in-Some : goal.returns-in-Some
returns-in-Some c = opening_taken c.streams_are_ready.ensures c.args.world.now c.args.stream c.args.hold c.in-Some.waiting c.far_number.result c.address_of.result c.in-Some.ensures c.far_number.ensures c.address_of.ensures

pub returns-in-None : goal.returns-in-None
returns-in-None c = no_opening c.args.world.now c.args.stream c.args.hold c.in-None.ensures
