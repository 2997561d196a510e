use Rattle.grasp_recorder.proofs.Took.{datagram_taken, no_datagram}
use Rattle.grasp_recorder.proofs.traffic.datagram.Goals as goal

pub returns-in_ok-copy-in-Some : goal.returns-in_ok-copy-in-Some
returns-in_ok-copy-in-Some c = datagram_taken c.args.world.now c.args.index c.args.hold c.in-Some.parcel.now _ c.in-Some.ensures c.in_ok-copy-in-Some.ensures

pub returns-in-None : goal.returns-in-None
returns-in-None c = no_datagram c.args.world.now c.args.index c.args.hold c.in-None.ensures
