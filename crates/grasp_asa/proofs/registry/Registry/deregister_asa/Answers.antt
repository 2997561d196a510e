use Rattle.std.proofs.Common.{ap, rules, arith}
use Rattle.std.specs.Prelude.{not}
use Rattle.std.proofs.lemmas.Fn.{filter_same}
use Rattle.grasp_asa.specs.Registrations.{is_numbered, is_owned_by}
use Rattle.grasp_asa.proofs.Kept.{kept_without_agent, without_agent}
use Rattle.grasp_asa.proofs.registry.Registry.deregister_asa.Goals as goal

pub invariant_of-self : goal.invariant_of-self
invariant_of-self c =
    let objectives = filter_same _ (λ o. not (is_owned_by c.args.asa o)) _ (λ x b f' k. search rules) _ _ c.retain.ensures.filtered in
    let agents = filter_same _ (λ a. not (is_numbered c.args.asa a)) _ (λ x b f' k. search rules) _ _ c.retain-2.ensures.filtered in
    record {
      registry = rw (agents, objectives) (kept_without_agent _ c.args.asa c.self.invariant.registry);
      agents = omega (arith, c.self.invariant.agents);
      objectives = omega (arith, c.self.invariant.objectives);
    }

pub returns-clause-after : goal.returns-clause-after
returns-clause-after c =
    let objectives = filter_same _ (λ o. not (is_owned_by c.args.asa o)) _ (λ x b f' k. search rules) _ _ c.retain.ensures.filtered in
    let agents = filter_same _ (λ a. not (is_numbered c.args.asa a)) _ (λ x b f' k. search rules) _ _ c.retain-2.ensures.filtered in
    rw (agents, objectives) (ap (without_agent c.args.asa) c.self.view_is)

pub returns-clause-registry : goal.returns-clause-registry
returns-clause-registry c =
    let objectives = filter_same _ (λ o. not (is_owned_by c.args.asa o)) _ (λ x b f' k. search rules) _ _ c.retain.ensures.filtered in
    let agents = filter_same _ (λ a. not (is_numbered c.args.asa a)) _ (λ x b f' k. search rules) _ _ c.retain-2.ensures.filtered in
    rw (agents, objectives) (kept_without_agent _ c.args.asa c.self.invariant.registry)
