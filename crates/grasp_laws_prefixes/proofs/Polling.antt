-- Where the agent learns that the session of a duty has ended, the session is no longer live.
use Rattle.std.proofs.Common.{◌≡◌, refl, sym, ap, ◌∙◌, subst, Bool, true, false, Contains, Option, Some, None}
use Rattle.std.proofs.lemmas.Bool.{false≢true}
use Rattle.grasp_laws_agent.proofs.LawNext.{next_calls_are}
use Rattle.grasp_laws_agent.specs.Next.{NextIs, opens, acts, requests, hands_back, does}
use Rattle.grasp_agent.specs.Calls.{duty_call, next_call}
use Rattle.grasp_laws_agent.specs.Moves.{IsNext}
use Rattle.grasp_agent.specs.Replies.{answer_in, progress_in}
use Rattle.grasp_agent.specs.States.{AgentState}
use Rattle.grasp_agent.specs.declared.duty.Duty.{Duty}
use Rattle.grasp_laws_node.specs.Means.{PollFacts}
use Rattle.grasp_model_node.specs.Node.{NodeState}
use Rattle.grasp_model_node.specs.Step.{Calls}
use Rattle.grasp_session.specs.Sessions.{SessionState, session_at}
use Rattle.grasp_session.specs.Transcript.{is_mine, outcome_of}
use Rattle.grasp_types.specs.declared.call.Call.{Call}
use Rattle.grasp_types.specs.declared.call.Call.TheVariants as call
use Rattle.grasp_types.specs.declared.objective.Objective.{Objective}
use Rattle.grasp_types.specs.declared.reply.ApiAnswer.{ApiAnswer}
use Rattle.grasp_types.specs.declared.reply.Reply.{Reply}
use Rattle.grasp_types.specs.declared.reply.Reply.TheVariants as reply
use Rattle.grasp_types.specs.declared.session.Handle.{Handle}
use Rattle.grasp_types.specs.declared.session.Outcome.{Outcome}
use Rattle.grasp_types.specs.declared.session.Progress.{Progress}
use Rattle.grasp_types.specs.declared.session.Progress.TheVariants as progress
use Rattle.grasp_laws_agents.proofs.Places.{owned_at}
use Rattle.grasp_laws_agents.specs.Calls.{CallsMean}
use Rattle.grasp_laws_prefixes.proofs.Listing.{first_in}

-- the session that had this handle has this outcome, and isn't live any more
pub record HasEnded (n after : NodeState) (h : Handle) (e : Outcome) : Type 0 where
  pub session : SessionState
  pub there : session_at n.sessions h ≡ Some session
  pub outcome : outcome_of session.view ≡ Some e
  pub gone : Contains after.sessions.gone session

-- where this duty is next, the next call does it
next_duty : (a : AgentState) (d : Duty) → IsNext a d → (c : Call) → NextIs a c → c ≡ duty_call d
next_duty a d n _ (opens shut) = absurd (false≢true (sym shut ∙ n.serves))
next_duty a d n _ (acts x serves is) = let idle : a.act ≡ None = n.idle in absurd (cc)
next_duty a d n _ (requests w next is none) = absurd (false≢true (sym n.asked ∙ next.asks))
next_duty a d n _ (hands_back v next is none) = absurd (false≢true (sym n.sent ∙ next.returns))
next_duty a d n _ (does x next is) = ap (λ y. duty_call y) (sym next.duty ∙ n.duty)

module _ (means : CallsMean) (n after : NodeState) (h : Handle) (e : Outcome) where
  same_end : (o : Outcome) → ◌≡◌ {A = Option Progress} (Some (progress.Ended o)) (Some (progress.Ended e)) → o ≡ e
  same_end o f = cc

  answered : (ans : ApiAnswer) → progress_in (Some ans) ≡ Some (progress.Ended e) → PollFacts n 1 h ans after → HasEnded n after h e
  answered ans told f = by_outcome (outcome_of f.session.view) refl where
    turns : (o : Objective) → progress_in (Some ans) ≡ Some (progress.Turn o) → ⊥
    turns o t = let k : Some (progress.Turn o) ≡ Some (progress.Ended e) = sym t ∙ told in cc

    waits : progress_in (Some ans) ≡ Some progress.NotYet → ⊥
    waits t = let k : Some progress.NotYet ≡ Some (progress.Ended e) = sym t ∙ told in cc

    by_mine : (b : Bool) → is_mine f.session.view ≡ b → outcome_of f.session.view ≡ None → ⊥
    by_mine true m none = turns _ (ap (λ (u : ApiAnswer). progress_in (Some u)) (f.turn none m).0)
    by_mine false m none = waits (ap (λ (u : ApiAnswer). progress_in (Some u)) (f.waiting none m).0)

    by_outcome : (o : Option Outcome) → outcome_of f.session.view ≡ o → HasEnded n after h e
    by_outcome None none = absurd (by_mine (is_mine f.session.view) refl none)
    by_outcome (Some o) is =
        let t = f.ended o is in
        record {
          session = f.session;
          there = owned_at n.sessions 1 h f.session f.holds.owned;
          outcome = is ∙ ap (λ u. Some u) (same_end o (sym (ap (λ (u : ApiAnswer). progress_in (Some u)) t.0) ∙ told));
          gone = subst (λ (m : NodeState). Contains m.sessions.gone f.session) (sym t.1) (first_in f.session n.sessions.gone);
        }

  polled : (r : Reply) → progress_in (answer_in r) ≡ Some (progress.Ended e) → Calls n 1 (call.Poll h) r after → HasEnded n after h e
  polled (reply.Api ans) told t = answered ans told (subst (PollFacts n 1 h ans) (sym t.1) (means.polls n 1 h ans t.0))
  polled (reply.Refused x) told t = absurd (cc)
  polled _ told t = absurd t

  pub has_ended : (a : AgentState) (d : Duty) → IsNext a d → duty_call d ≡ call.Poll h → (r : Reply) → progress_in (answer_in r) ≡ Some (progress.Ended e) → Calls n 1 (next_call a) r after → HasEnded n after h e
  has_ended a d next polls r told t = polled r told (subst (λ c. Calls n 1 c r after) (next_duty a d next (next_call a) (next_calls_are a) ∙ polls) t)
