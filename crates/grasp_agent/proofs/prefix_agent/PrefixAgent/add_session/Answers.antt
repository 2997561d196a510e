use Rattle.std.proofs.Common.{◌≡◌, ◌∙◌, true, rules, sym, ap, subst}
use Rattle.grasp_agent.specs.Kept.{IsKept}
use Rattle.grasp_agent.specs.Stored.{state_of}
use Rattle.grasp_agent.specs.States.{AgentState, is_open}
use Rattle.grasp_agent.proofs.Keeping.{kept_begun}
use Rattle.grasp_agent.proofs.prefix_agent.PrefixAgent.add_session.Goals as goal

pub invariant_of-self : goal.invariant_of-self
invariant_of-self c =
    let s : AgentState = state_of c.self.inside
    in let serves : is_open s.stage ≡ true = ap (λ (x : AgentState). is_open x.stage) c.self.view_is ∙ c.requires
    in record {
      kept = subst (λ gs. IsKept (record s { giving = gs })) (sym c.in-Ok.ensures.items) (kept_begun s c.in-Some.handle (search rules) serves c.self.invariant.kept);
      giving = search rules;
      cursor = c.self.invariant.cursor;
    }
