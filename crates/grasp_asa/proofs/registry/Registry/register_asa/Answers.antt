use Rattle.std.proofs.Common.{◌≡◌, false, sym, ◌∙◌, subst, arith}
use Rattle.grasp_asa.specs.Registrations.{is_agent_name}
use Rattle.grasp_asa.proofs.Kept.{kept_with_agent}
use Rattle.grasp_asa.proofs.registry.Registry.register_asa.Goals as goal

pub invariant_of-self : goal.invariant_of-self
invariant_of-self c =
    let apart = subst (λ r. is_agent_name r c.args.name ≡ false) (sym c.self.view_is) (sym c.is_agent_name.ensures ∙ c.if-is_agent_name.false) in
    record {
      registry = rw c.in-Ok.ensures.items (kept_with_agent _ c.args.name c.self.invariant.registry (omega arith) (omega arith) apart);
      agents = omega arith;
      objectives = c.self.invariant.objectives;
    }

pub returns-clause-registry : goal.returns-clause-registry
returns-clause-registry c =
    let apart = subst (λ r. is_agent_name r c.args.name ≡ false) (sym c.self.view_is) (sym c.is_agent_name.ensures ∙ c.if-is_agent_name.false) in
    rw c.in-Ok.ensures.items (kept_with_agent _ c.args.name c.self.invariant.registry (omega arith) (omega arith) apart)
