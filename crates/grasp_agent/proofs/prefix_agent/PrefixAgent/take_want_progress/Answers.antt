use Rattle.std.proofs.Common.{◌≡◌, ◌∙◌, true, Some, sym, ap, subst}
use Rattle.grasp_agent.specs.Decisions.{requester_decision}
use Rattle.grasp_agent.specs.Kept.{IsKept}
use Rattle.grasp_agent.specs.Replies.{want_act}
use Rattle.grasp_agent.specs.States.{AgentState, is_open, want_session, want_length}
use Rattle.grasp_agent.specs.Stored.{state_of}
use Rattle.grasp_agent.specs.declared.act.Act.{Act}
use Rattle.grasp_agent.specs.declared.decision.RequesterDecision.{RequesterDecision}
use Rattle.grasp_agent.proofs.KeepDecisions.{ask_asked}
use Rattle.grasp_agent.proofs.Keeping.{kept_asked}
use Rattle.grasp_agent.proofs.prefix_agent.PrefixAgent.take_want_progress.Goals as goal

pub invariant_of-self : goal.invariant_of-self
invariant_of-self c =
    let s : AgentState = state_of c.self.inside
    in let at : want_session s.want ≡ Some c.args.handle = ap (λ (x : AgentState). want_session x.want) c.self.view_is ∙ c.requires.session
    in let serves : is_open s.stage ≡ true = ap (λ (x : AgentState). is_open x.stage) c.self.view_is ∙ c.requires.serves
    in let bits : want_length s.want ≡ Some c.in-Some.want.length = ap want_length c.in-Some.is
    in let d : RequesterDecision = requester_decision s.pool c.in-Some.want.length c.in-Some.want.longest c.in-Turn.objective.value c.in-Turn.objective.loops
    in let e : c.of_want.result ≡ want_act c.args.handle d = c.of_want.ensures ∙ ap (want_act c.args.handle) c.ask-decision.ensures
    in record {
      kept = subst (λ (a : Act). IsKept (record s { act = Some a })) (sym e)
          (kept_asked s c.args.handle c.in-Some.want.length d serves at bits
          (ask_asked s.pool c.in-Some.want.length c.in-Some.want.longest c.in-Turn.objective.value c.in-Turn.objective.loops) c.self.invariant.kept);
      giving = c.self.invariant.giving;
      cursor = c.self.invariant.cursor;
    }
