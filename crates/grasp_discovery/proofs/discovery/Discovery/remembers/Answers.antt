use Rattle.std.proofs.Common.{refl, sym}
use Rattle.grasp_types.specs.Origin.{origin_of}
use Rattle.grasp_discovery.proofs.Memories.{remembered_is}
use Rattle.grasp_discovery.proofs.discovery.Discovery.remembers.Goals as goal

pub returns : goal.returns
returns c =
    rw (← c.self.view_is)
    (sym (remembered_is (origin_of c.args.session c.args.initiator) c.self.inside.memories.entries _ c.contains_key.result c.contains_key.ensures refl))
