use Rattle.std.proofs.Common.{rules, ◌≡◌, ◌∙◌, Some, None, sym, ap, subst}
use Rattle.grasp_pool.specs.Holdings.{Holding}
use Rattle.grasp_agent.specs.Kept.{IsKept, returned}
use Rattle.grasp_agent.specs.States.{AgentState}
use Rattle.grasp_agent.specs.Stored.{state_of}
use Rattle.grasp_agent.proofs.Returning.{returned_reserved, kept_unsent}
use Rattle.grasp_agent.proofs.prefix_agent.PrefixAgent.return_unsent.Goals as goal

pub give_back-requires : goal.give_back-requires
give_back-requires c =
    let s : AgentState = state_of c.self.inside
    in let is : returned s.back ≡ Some c.in-Some.prefix = search rules
    in returned_reserved s c.in-Some.prefix is c.self.invariant.kept

pub invariant_of-self : goal.invariant_of-self
invariant_of-self c =
    let s : AgentState = state_of c.self.inside
    in let is : returned s.back ≡ Some c.in-Some.prefix = search rules
    in let none : s.act ≡ None = ap (λ (x : AgentState). x.act) c.self.view_is ∙ c.requires.none
    in record {
      kept = subst (λ (h : Holding). IsKept (record s { pool = h; back = None })) (sym c.give_back.ensures.after)
          (kept_unsent s c.in-Some.prefix is c.self.invariant.kept none);
      giving = c.self.invariant.giving;
      cursor = c.self.invariant.cursor;
    }
