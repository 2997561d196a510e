use Rattle.grasp_simulator.proofs.StreamTalks.{talk_at}
use Rattle.grasp_simulator.proofs.streams.Streams.get.Goals as goal

pub returns-then-k-eq0-clause-stands : goal.returns-then-k-eq0-clause-stands
returns-then-k-eq0-clause-stands c = λ begins ts dials s. talk_at c.args.self.now.list.items c.args.self.now.near.entries begins ts dials s c.args.k

pub returns-clause-stands : goal.returns-clause-stands
returns-clause-stands c = λ begins ts dials s. talk_at c.args.self.now.list.items c.args.self.now.near.entries begins ts dials s c.args.k
