use Rattle.grasp_recorder.proofs.Took.{closing_taken, no_closing}
use Rattle.grasp_recorder.proofs.traffic.closing.Goals as goal

pub returns-in-Some : goal.returns-in-Some
returns-in-Some c = closing_taken c.args.world.now c.args.stream c.args.far c.args.hold c.in-Some.side c.in-Some.ensures

pub returns-in-None : goal.returns-in-None
returns-in-None c = no_closing c.args.world.now c.args.stream c.args.far c.args.hold c.in-None.ensures
