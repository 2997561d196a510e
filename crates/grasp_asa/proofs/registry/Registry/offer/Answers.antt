use Rattle.std.proofs.Common.{sym, ap, ◌∙◌}
use Rattle.std.specs.Prelude.{map}
use Rattle.grasp_asa.specs.Answers.{offering}
use Rattle.grasp_asa.proofs.Kept.{with_objectives, kept_offering, change_at}
use Rattle.grasp_asa.proofs.Places.{named_at_place}
use Rattle.grasp_asa.proofs.registry.Registry.offer.Goals as goal

pub invariant_of-self : goal.invariant_of-self
invariant_of-self c =
    let place = named_at_place _ _ _ _ _ c.self.view_is c.in_ok-i.ensures.place in
    record {
      registry = kept_offering _ c.args.name.now c.in_ok-i.i _ _ c.args.value c.self.invariant.registry place (record { read = c.index.ensures; written = c.index_mut.ensures.value }) (sym c.if-not-has_synch.ensures);
      agents = c.self.invariant.agents;
      objectives = c.self.invariant.objectives;
    }

pub returns-clause-after : goal.returns-clause-after
returns-clause-after c =
    let place = named_at_place _ _ _ _ _ c.self.view_is c.in_ok-i.ensures.place in
    let change = change_at _ c.args.name.now (λ o. record o { offered = c.args.value }) c.in_ok-i.i _ _ c.self.invariant.registry place (record { read = c.index.ensures; written = c.index_mut.ensures.value }) in
    change ∙ ap (λ r. with_objectives r (map (offering c.args.name.now c.args.value) r.objectives)) c.self.view_is
