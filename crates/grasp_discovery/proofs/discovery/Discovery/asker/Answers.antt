use Rattle.std.proofs.Common.{◌≡◌, Some, None, sym, ap, subst}
use Rattle.std.specs.Map.{lookup}
use Rattle.grasp_types.specs.Origin.{origin_of}
use Rattle.grasp_types.specs.Same.{same_origin}
use Rattle.grasp_discovery.specs.Discoveries.{answered_reply}
use Rattle.grasp_discovery.proofs.Memories.{asker_relay, asker_none}
use Rattle.grasp_discovery.proofs.discovery.Discovery.asker.Goals as goal

pub returns-in-None-Some : goal.returns-in-None-Some
returns-in-None-Some c =
    let origin = origin_of c.args.session c.args.initiator in
    let is = subst (λ all. Some c.in-None-Some.memory.now ≡ lookup (same_origin origin) all.memories) c.self.view_is c.in-None-Some.ensures'.value in
    sym (ap answered_reply (asker_relay c.args.self.now c.args.own origin c.in-None-Some.memory.now c.in-None-Some.ensures is))

pub returns-in-None-None : goal.returns-in-None-None
returns-in-None-None c =
    let origin = origin_of c.args.session c.args.initiator in
    let is = subst (λ all. None ≡ lookup (same_origin origin) all.memories) c.self.view_is c.in-None-None.ensures'.value in
    sym (ap answered_reply (asker_none c.args.self.now c.args.own origin c.in-None-None.ensures is))
