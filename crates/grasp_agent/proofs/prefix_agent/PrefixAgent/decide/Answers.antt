use Rattle.std.proofs.Common.{◌≡◌, ◌∙◌, true, Some, sym, ap, subst, slice_get}
use Rattle.grasp_agent.specs.Kept.{IsKept}
use Rattle.grasp_agent.specs.Replies.{after_giver_turn}
use Rattle.grasp_agent.specs.States.{AgentState, is_open}
use Rattle.grasp_agent.specs.Stored.{state_of}
use Rattle.grasp_agent.proofs.Keeping.{offer_reserved, kept_giver_turn}
use Rattle.grasp_agent.proofs.KeepForms.{decided_is}
use Rattle.grasp_agent.proofs.prefix_agent.PrefixAgent.decide.Goals as goal

pub decision_of-decision-requires : goal.decision_of-decision-requires
decision_of-decision-requires c =
    let at : slice_get c.self.inside.giving.items c.args.place ≡ Some c.args.giving = ap (λ (x : AgentState). slice_get x.giving c.args.place) c.self.view_is ∙ c.requires.place
    in offer_reserved (state_of c.self.inside) c.args.place c.args.giving at c.self.invariant.kept

pub invariant_of-self : goal.invariant_of-self
invariant_of-self c =
    let s : AgentState = state_of c.self.inside
    in let at : slice_get s.giving c.args.place ≡ Some c.args.giving = ap (λ (x : AgentState). slice_get x.giving c.args.place) c.self.view_is ∙ c.requires.place
    in let serves : is_open s.stage ≡ true = ap (λ (x : AgentState). is_open x.stage) c.self.view_is ∙ c.requires.serves
    in record {
      kept = subst IsKept
          (sym (decided_is s c.args.place c.args.giving c.args.objective.now c.decision_of-decision.new.pool c.decision_of-decision.result c.after.result c.of_giver.result
          c.decision_of-decision.ensures.decides c.decision_of-decision.ensures.after c.after.ensures c.of_giver.ensures))
          (kept_giver_turn s c.args.place c.args.giving c.args.objective.now at serves c.self.invariant.kept);
      giving = c.self.invariant.giving;
      cursor = c.self.invariant.cursor;
    }

pub returns : goal.returns
returns c =
    decided_is (state_of c.self.inside) c.args.place c.args.giving c.args.objective.now c.decision_of-decision.new.pool c.decision_of-decision.result c.after.result c.of_giver.result
    c.decision_of-decision.ensures.decides c.decision_of-decision.ensures.after c.after.ensures c.of_giver.ensures
    ∙ ap (λ (x : AgentState). after_giver_turn x c.args.place c.args.giving c.args.objective.now) c.self.view_is
