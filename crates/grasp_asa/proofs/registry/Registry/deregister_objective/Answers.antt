use Rattle.std.proofs.Common.{sym, ap, rules, arith}
use Rattle.std.specs.Prelude.{not, filter}
use Rattle.std.proofs.lemmas.Fn.{filter_same}
use Rattle.grasp_asa.specs.Registrations.{is_of}
use Rattle.grasp_asa.proofs.Kept.{kept_with_fewer, with_objectives}
use Rattle.grasp_asa.proofs.Places.{owner_at_place}
use Rattle.grasp_asa.proofs.registry.Registry.deregister_objective.Goals as goal

pub invariant_of-self : goal.invariant_of-self
invariant_of-self c =
    let objectives = filter_same _ (λ o. not (is_of c.args.asa c.args.name.now o)) _ (λ x b f' k. search rules) _ _ c.retain.ensures.filtered in
    record {
      registry = rw objectives (kept_with_fewer _ (λ o. not (is_of c.args.asa c.args.name.now o)) c.self.invariant.registry);
      agents = c.self.invariant.agents;
      objectives = omega (arith, c.self.invariant.objectives);
    }

pub returns-clause-answer : goal.returns-clause-answer
returns-clause-answer c = sym (owner_at_place _ _ _ _ c.in_ok-place_of.ensures.place)

pub returns-clause-after : goal.returns-clause-after
returns-clause-after c =
    let objectives = filter_same _ (λ o. not (is_of c.args.asa c.args.name.now o)) _ (λ x b f' k. search rules) _ _ c.retain.ensures.filtered in
    rw objectives (ap (λ r. with_objectives r (filter (λ o. not (is_of c.args.asa c.args.name.now o)) r.objectives)) c.self.view_is)

pub returns-clause-registry : goal.returns-clause-registry
returns-clause-registry c =
    let objectives = filter_same _ (λ o. not (is_of c.args.asa c.args.name.now o)) _ (λ x b f' k. search rules) _ _ c.retain.ensures.filtered in
    rw objectives (kept_with_fewer _ (λ o. not (is_of c.args.asa c.args.name.now o)) c.self.invariant.registry)
