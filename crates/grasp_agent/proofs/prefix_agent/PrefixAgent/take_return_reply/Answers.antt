use Rattle.std.proofs.Common.{rules, ◌≡◌, ◌∙◌, true, None, ap}
use Rattle.grasp_agent.specs.States.{AgentState, is_open}
use Rattle.grasp_agent.specs.Stored.{state_of}
use Rattle.grasp_agent.proofs.Returning.{kept_handed}
use Rattle.grasp_agent.proofs.prefix_agent.PrefixAgent.take_return_reply.Goals as goal

pub invariant_of-self : goal.invariant_of-self
invariant_of-self c =
    let s : AgentState = state_of c.self.inside
    in let none : s.act ≡ None = ap (λ (x : AgentState). x.act) c.self.view_is ∙ c.requires.none
    in let serves : is_open s.stage ≡ true = ap (λ (x : AgentState). is_open x.stage) c.self.view_is ∙ c.requires.serves
    in record {
      kept = kept_handed s c.in-Some-back.back c.in-Some.handle (search rules) none serves c.self.invariant.kept;
      giving = c.self.invariant.giving;
      cursor = c.self.invariant.cursor;
    }
