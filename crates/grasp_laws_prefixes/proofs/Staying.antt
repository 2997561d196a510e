-- What is no longer live stays so after the next call of the agent of prefixes.
use Rattle.std.proofs.Common.{◌≡◌, refl, sym, ap, ◌∙◌, subst, ℕ, Bool, true, false, List, Contains, Option, Some, None, Ok}
use Rattle.std.proofs.lemmas.Bool.{false≢true}
use Rattle.grasp_laws_agent.proofs.LawNext.{next_calls_are}
use Rattle.grasp_laws_agent.specs.Next.{NextIs, opens, acts, requests, hands_back, does}
use Rattle.grasp_agent.specs.Calls.{act_call, next_call, objective_name, reason_text}
use Rattle.grasp_agent.specs.States.{AgentState, is_open}
use Rattle.grasp_agent.specs.Values.{length_value, prefix_value, return_value}
use Rattle.grasp_agent.specs.declared.act.Act.{Act}
use Rattle.grasp_agent.specs.declared.act.Act.TheVariants as act
use Rattle.grasp_agent.specs.declared.duty.Duty.TheVariants as duty
use Rattle.grasp_agent.specs.declared.stage.Stage.TheVariants.{Serving}
use Rattle.grasp_laws_node.specs.Means.{ListenTells, PollFacts}
use Rattle.grasp_model_node.specs.Node.{NodeState}
use Rattle.grasp_model_node.specs.BoundedNodes.{IsBoundedNode}
use Rattle.grasp_model_node.specs.Step.{Calls, MayCall, after_call}
use Rattle.grasp_session.specs.Sessions.{SessionState}
use Rattle.grasp_session.specs.Transcript.{is_mine, outcome_of}
use Rattle.grasp_types.specs.declared.address.Locator.{Locator}
use Rattle.grasp_types.specs.declared.call.Call.{Call}
use Rattle.grasp_types.specs.declared.call.Call.TheVariants as call
use Rattle.grasp_types.specs.declared.message.Verdict.TheVariants as verdict
use Rattle.grasp_types.specs.declared.reply.ApiAnswer.{ApiAnswer}
use Rattle.grasp_types.specs.declared.reply.ApiAnswer.TheVariants as answer
use Rattle.grasp_types.specs.declared.reply.Reply.{Reply}
use Rattle.grasp_types.specs.declared.reply.Reply.TheVariants as reply
use Rattle.grasp_types.specs.declared.session.Handle.{Handle}
use Rattle.grasp_types.specs.declared.session.Outcome.{Outcome}
use Rattle.grasp_laws_agents.specs.Calls.{CallsMean}
use Rattle.grasp_laws_prefixes.proofs.Listing.{more_in}

-- ---- what is no longer live stays so

abbrev pub GoneStay : NodeState → NodeState → Type 0
GoneStay n after = (x : SessionState) → Contains n.sessions.gone x → Contains after.sessions.gone x

module _ (means : CallsMean) (n after : NodeState) (a : AgentState) (sound : IsBoundedNode n) where
  stays : after.sessions.gone ≡ n.sessions.gone → GoneStay n after
  stays e x h = subst (λ (l : List SessionState). Contains l x) (sym e) h

  unmoved : after ≡ n → GoneStay n after
  unmoved e = stays (ap (λ (m : NodeState). m.sessions.gone) e)

  act_stays : (c : Act) (ans : ApiAnswer) → MayCall n 1 (act_call c) (Ok ans) → after ≡ after_call n 1 (act_call c) (Ok ans) → GoneStay n after
  act_stays (act.Offer place h p) ans may same = stays (ap (λ (m : NodeState). m.sessions.gone) (same ∙ (means.steps n 1 h (prefix_value p) ans sound may).leads))
  act_stays (act.Counter h m) ans may same = stays (ap (λ (m : NodeState). m.sessions.gone) (same ∙ (means.steps n 1 h (length_value m) ans sound may).leads))
  act_stays (act.Accept h p) ans may same = stays (ap (λ (m : NodeState). m.sessions.gone) (same ∙ (means.ends n 1 h verdict.Accept ans sound may).leads))
  act_stays (act.Decline h reason) ans may same = stays (ap (λ (m : NodeState). m.sessions.gone) (same ∙ (means.ends n 1 h (verdict.Decline (Some (reason_text reason))) ans sound may).leads))

  act_called : (c : Act) → a.act ≡ Some c → (r : Reply) → Calls n 1 (act_call c) r after → GoneStay n after
  act_called c is (reply.Api ans) t = act_stays c ans t.0 t.1
  act_called c is (reply.Refused x) t = unmoved t.1
  act_called c is _ t = absurd t

  asks : (value : _) (loops : ℕ) (peer : Locator) (r : Reply) → Calls n 1 (call.RequestNegotiate objective_name value loops 60000 false peer) r after → GoneStay n after
  asks value loops peer (reply.Api ans) t =
      let f = means.requests n 1 objective_name value loops 60000 false peer ans sound t.0 in
      stays (ap (λ (m : NodeState). m.sessions.gone) (t.1 ∙ f.leads))
  asks value loops peer (reply.Refused x) t = unmoved t.1
  asks value loops peer _ t = absurd t

  listens : (r : Reply) → Calls n 1 (call.ListenNegotiate objective_name) r after → GoneStay n after
  listens (reply.Api ans) t = by_answer ans (subst (ListenTells n 1 objective_name ans) (sym t.1) (means.listens n 1 objective_name ans t.0).tells) where
    by_answer : (ans : ApiAnswer) → ListenTells n 1 objective_name ans after → GoneStay n after
    by_answer (answer.Incoming h from o) l = stays (ap (λ (m : NodeState). m.sessions.gone) l.leads)
    by_answer answer.NotYet l = stays (ap (λ (m : NodeState). m.sessions.gone) l.1)
    by_answer u l = absurd l
  listens (reply.Refused x) t = unmoved t.1
  listens _ t = absurd t

  polls : (h : Handle) (r : Reply) → Calls n 1 (call.Poll h) r after → GoneStay n after
  polls h (reply.Api ans) t = by_outcome (outcome_of f.session.view) refl where
    f : PollFacts n 1 h ans after
    f = subst (PollFacts n 1 h ans) (sym t.1) (means.polls n 1 h ans t.0)

    by_mine : (b : Bool) → is_mine f.session.view ≡ b → outcome_of f.session.view ≡ None → GoneStay n after
    by_mine true m e = unmoved (f.turn e m).1
    by_mine false m e = unmoved (f.waiting e m).1

    by_outcome : (o : Option Outcome) → outcome_of f.session.view ≡ o → GoneStay n after
    by_outcome None e x has = by_mine (is_mine f.session.view) refl e x has
    by_outcome (Some o) e x has =
        subst (λ (l : List SessionState). Contains l x) (sym (ap (λ (m : NodeState). m.sessions.gone) (f.ended o e).1)) (more_in f.session n.sessions.gone x has)
  polls h (reply.Refused x) t = unmoved t.1
  polls h _ t = absurd t

  by_next : a.stage ≡ Serving → (c : Call) → NextIs a c → (r : Reply) → Calls n 1 c r after → GoneStay n after
  by_next stage _ (opens shut) r t = absurd (false≢true (sym shut ∙ ap is_open stage))
  by_next stage _ (acts c serves is) r t = act_called c is r t
  by_next stage _ (requests w next is none) r t = asks (length_value w.length) 6 w.peer r t
  by_next stage _ (hands_back v next is none) r t = asks (return_value v.prefix) 1 v.peer r t
  by_next stage _ (does duty.Listen next is) r t = listens r t
  by_next stage _ (does (duty.Want h) next is) r t = polls h r t
  by_next stage _ (does (duty.Return h) next is) r t = polls h r t
  by_next stage _ (does (duty.Give place h) next is) r t = polls h r t

  pub gone_stay : a.stage ≡ Serving → (r : Reply) → Calls n 1 (next_call a) r after → GoneStay n after
  gone_stay stage = by_next stage (next_call a) (next_calls_are a)
