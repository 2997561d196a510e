use Rattle.std.proofs.Common.{[]}
use Rattle.grasp_model_node.specs.Node.{first_node}
use Rattle.grasp_node_main.specs.Crew.{crew_with}
use Rattle.grasp_node_main.proofs.Begins.{seats_begin}
use Rattle.grasp_node_main.proofs.daemon.Daemon.open.Goals as goal

pub returns : goal.returns
returns c = record {
  core = c.in_ok-seats.ensures.calls (first_node c.args.node) [] c.in_ok-core.ensures;
  seats = seats_begin (crew_with c.args.roots.now c.args.wants c.args.beacons.now c.args.readers.now) c.in_ok-seats.seats.items c.in_ok-seats.ensures.agents;
}
