use Rattle.std.proofs.Common.{rules, ◌≡◌, ◌∙◌, Some, None, sym, ap, subst}
use Rattle.grasp_pool.specs.Holdings.{Holding}
use Rattle.grasp_agent.specs.Kept.{IsKept, returned}
use Rattle.grasp_agent.specs.States.{AgentState}
use Rattle.grasp_agent.specs.Stored.{state_of}
use Rattle.grasp_agent.proofs.Returning.{returned_reserved, kept_heard}
use Rattle.grasp_agent.proofs.prefix_agent.PrefixAgent.take_return_progress.Goals as goal

pub settle_offer-requires : goal.settle_offer-requires
settle_offer-requires c =
    let s : AgentState = state_of c.self.inside
    in let is : returned s.back ≡ Some c.in-Some.prefix = search rules
    in returned_reserved s c.in-Some.prefix is c.self.invariant.kept

pub invariant_of-self : goal.invariant_of-self
invariant_of-self c =
    let s : AgentState = state_of c.self.inside
    in let is : returned s.back ≡ Some c.in-Some.prefix = search rules
    in let none : s.act ≡ None = ap (λ (x : AgentState). x.act) c.self.view_is ∙ c.requires.none
    in record {
      kept = subst (λ (h : Holding). IsKept (record s { pool = h; back = None })) (sym c.settle_offer.ensures)
          (kept_heard s c.in-Some.prefix is c.self.invariant.kept c.in-Ended.outcome none);
      giving = c.self.invariant.giving;
      cursor = c.self.invariant.cursor;
    }
