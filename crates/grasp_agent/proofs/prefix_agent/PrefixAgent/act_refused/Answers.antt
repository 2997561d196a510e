use Rattle.std.proofs.Common.{◌≡◌, ◌∙◌, Some, sym, ap, subst}
use Rattle.grasp_agent.specs.Kept.{IsKept}
use Rattle.grasp_agent.specs.Replies.{after_dropping}
use Rattle.grasp_agent.specs.States.{AgentState}
use Rattle.grasp_agent.specs.Stored.{state_of}
use Rattle.grasp_agent.specs.declared.act.Act.TheVariants as act
use Rattle.grasp_agent.proofs.Keeping.{kept_dropped}
use Rattle.grasp_agent.proofs.KeepForms.{act_reserved, dropped_is}
use Rattle.grasp_agent.proofs.prefix_agent.PrefixAgent.act_refused.Goals as goal

pub give_back-requires : goal.give_back-requires
give_back-requires c =
    let e : c.self.inside.act ≡ Some (act.Offer c.in-Offer.place c.in-Offer.handle c.in-Offer.prefix) = ap (λ (s : AgentState). s.act) c.self.view_is ∙ c.requires ∙ ap Some c.in-Offer.is
    in act_reserved (state_of c.self.inside) c.in-Offer.place c.in-Offer.handle c.in-Offer.prefix e c.self.invariant.kept

pub invariant_of-self : goal.invariant_of-self
invariant_of-self c =
    let s : AgentState = state_of c.self.inside
    in let e : s.act ≡ Some (act.Offer c.in-Offer.place c.in-Offer.handle c.in-Offer.prefix) = ap (λ (s : AgentState). s.act) c.self.view_is ∙ c.requires ∙ ap Some c.in-Offer.is
    in record {
      kept = subst IsKept
          (sym (dropped_is s c.in-Offer.place c.in-Offer.handle c.in-Offer.prefix c.give_back.new.self c.index.result.now c.without_offer.result e c.self.invariant.kept c.give_back.ensures.after c.index.ensures c.without_offer.ensures))
          (kept_dropped s c.in-Offer.place c.in-Offer.handle c.in-Offer.prefix e c.self.invariant.kept);
      giving = c.self.invariant.giving;
      cursor = c.self.invariant.cursor;
    }

pub returns-in-Offer : goal.returns-in-Offer
returns-in-Offer c =
    let s : AgentState = state_of c.self.inside
    in let e : s.act ≡ Some (act.Offer c.in-Offer.place c.in-Offer.handle c.in-Offer.prefix) = ap (λ (s : AgentState). s.act) c.self.view_is ∙ c.requires ∙ ap Some c.in-Offer.is
    in dropped_is s c.in-Offer.place c.in-Offer.handle c.in-Offer.prefix c.give_back.new.self c.index.result.now c.without_offer.result e c.self.invariant.kept c.give_back.ensures.after c.index.ensures c.without_offer.ensures
    ∙ (λ i. after_dropping (c.self.view_is i) (sym c.in-Offer.is i))
