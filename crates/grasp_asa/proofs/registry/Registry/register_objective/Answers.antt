use Rattle.std.proofs.Common.{◌≡◌, true, false, sym, ◌∙◌, subst, arith}
use Rattle.grasp_asa.specs.Registrations.{is_registered, is_taken}
use Rattle.grasp_asa.proofs.Kept.{kept_with_objective, sound_new}
use Rattle.grasp_asa.proofs.registry.Registry.register_objective.Goals as goal

pub invariant_of-self : goal.invariant_of-self
invariant_of-self c =
    let apart = subst (λ r. is_taken r c.args.name ≡ false) (sym c.self.view_is) (sym c.is_taken.ensures ∙ c.if-is_taken.false) in
    let owner = subst (λ r. is_registered r c.args.asa ≡ true) (sym c.self.view_is) (sym c.knows.ensures.knows ∙ c.if-not-knows.false) in
    let sound = sound_new c.args.asa c.args.name c.args.flags (sym c.is_both_or_neither.ensures ∙ c.if-is_both_or_neither.false) (sym c.is_dry_alone.ensures ∙ c.if-is_dry_alone.false) in
    record {
      registry = rw c.in-Ok.ensures.items (kept_with_objective _ _ c.self.invariant.registry (omega arith) apart owner sound);
      agents = c.self.invariant.agents;
      objectives = omega arith;
    }

pub returns-clause-registry : goal.returns-clause-registry
returns-clause-registry c =
    let apart = subst (λ r. is_taken r c.args.name ≡ false) (sym c.self.view_is) (sym c.is_taken.ensures ∙ c.if-is_taken.false) in
    let owner = subst (λ r. is_registered r c.args.asa ≡ true) (sym c.self.view_is) (sym c.knows.ensures.knows ∙ c.if-not-knows.false) in
    let sound = sound_new c.args.asa c.args.name c.args.flags (sym c.is_both_or_neither.ensures ∙ c.if-is_both_or_neither.false) (sym c.is_dry_alone.ensures ∙ c.if-is_dry_alone.false) in
    rw c.in-Ok.ensures.items (kept_with_objective _ _ c.self.invariant.registry (omega arith) apart owner sound)
