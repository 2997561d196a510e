use Rattle.std.proofs.Common.{◌≡◌, Some, None, refl, sym, subst}
use Rattle.std.specs.Prelude.{IsSome}
use Rattle.std.specs.Map.{lookup}
use Rattle.grasp_cbor.proofs.Facts.Options.{on_err}
use Rattle.grasp_types.specs.Same.{same_origin}
use Rattle.grasp_discovery.proofs.Memories.{asker_relay, asker_none}
use Rattle.grasp_discovery.proofs.discovery.Discovery.asker_of.Goals as goal

pub returns-in_err-copy-in-None-Some-clause-wanted : goal.returns-in_err-copy-in-None-Some-clause-wanted
returns-in_err-copy-in-None-Some-clause-wanted c =
    let is = subst (λ all. Some c.in-None-Some.memory.now ≡ lookup (same_origin c.args.origin) all.memories) c.self.view_is c.in-None-Some.ensures'.value in
    on_err _ (subst IsSome (sym (asker_relay c.args.self.now c.args.own c.args.origin c.in-None-Some.memory.now c.in-None-Some.ensures is)) refl)

pub returns-in_ok-copy-in-None-Some-clause-asker : goal.returns-in_ok-copy-in-None-Some-clause-asker
returns-in_ok-copy-in-None-Some-clause-asker c =
    let is = subst (λ all. Some c.in-None-Some.memory.now ≡ lookup (same_origin c.args.origin) all.memories) c.self.view_is c.in-None-Some.ensures'.value in
    rw c.in_ok-copy-in-None-Some.ensures (sym (asker_relay c.args.self.now c.args.own c.args.origin c.in-None-Some.memory.now c.in-None-Some.ensures is))

pub returns-in-None-None-clause-asker : goal.returns-in-None-None-clause-asker
returns-in-None-None-clause-asker c =
    let is = subst (λ all. None ≡ lookup (same_origin c.args.origin) all.memories) c.self.view_is c.in-None-None.ensures'.value in
    sym (asker_none c.args.self.now c.args.own c.args.origin c.in-None-None.ensures is)
