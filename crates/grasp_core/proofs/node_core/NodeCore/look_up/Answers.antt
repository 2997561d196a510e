use Rattle.grasp_discovery.specs.Topic.{topic_of}
use Rattle.grasp_core.proofs.Finding.{cached_found}
use Rattle.grasp_core.proofs.node_core.NodeCore.look_up.Goals as goal

pub returns-in-Err-clause-known : goal.returns-in-Err-clause-known
returns-in-Err-clause-known c = λ n h.
    let sound = rw c.in-Err.ensures.err at c.in-Err.ensures.sound in
    rw h.discoveries at (cached_found c.args.self.now.discovery c.args.asa (topic_of c.args.name.now c.args.kind) sound c.in-Err.ensures.wanted)
