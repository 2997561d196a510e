use Rattle.grasp_model_network.specs.World.{end_of}
use Rattle.grasp_simulator.proofs.StreamUnseen.{ended_stays}
use Rattle.grasp_simulator.proofs.streams.Streams.close.Goals as goal

pub returns : goal.returns
returns c = record { stands = λ begins ts dials s. ended_stays c.args.self.now.list.items c.args.self.now.near.entries begins (end_of c.args.life c.args.number) ts dials s }
