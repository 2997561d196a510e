-- A session in which agent 1 asked and that goes on after its next call went on before it, or is on the stream that the node dialled for it.
use Rattle.std.proofs.Common.{◌≡◌, ◌≢◌, refl, sym, ap, ◌∙◌, subst, ℕ, ◌*◌, Bool, true, false, inl, inr, ◌⊎◌, List, Option, Some, None, Ok, slice_set, slice_index_or}
use Rattle.std.proofs.lemmas.Bool.{false≢true}
use Rattle.std.proofs.lemmas.Option.{none-some}
use Rattle.grasp_laws_agent.proofs.LawNext.{next_calls_are}
use Rattle.grasp_laws_agent.specs.Next.{NextIs, opens, acts, requests, hands_back, does}
use Rattle.grasp_agent.specs.Calls.{act_call, next_call, objective_name, reason_text}
use Rattle.grasp_agent.specs.States.{AgentState, is_open}
use Rattle.grasp_agent.specs.Values.{length_value, prefix_value, return_value}
use Rattle.grasp_agent.specs.declared.act.Act.{Act}
use Rattle.grasp_agent.specs.declared.act.Act.TheVariants as act
use Rattle.grasp_agent.specs.declared.duty.Duty.TheVariants as duty
use Rattle.grasp_agent.specs.declared.stage.Stage.TheVariants.{Serving}
use Rattle.grasp_laws_node.specs.Means.{ListenTells, PollFacts}
use Rattle.grasp_model_node.specs.BoundedNodes.{IsBoundedNode}
use Rattle.grasp_model_node.specs.Node.{NodeState}
use Rattle.grasp_model_node.specs.Step.{Calls, MayCall, after_call}
use Rattle.grasp_laws_session.proofs.Runs.{set_some, some_state}
use Rattle.grasp_session.proofs.Tables.{state_slot}
use Rattle.grasp_session.specs.Made.{AreFresh}
use Rattle.grasp_session.specs.Messages.{Near}
use Rattle.grasp_session.specs.Says.{IsAt}
use Rattle.grasp_session.specs.Sessions.{SessionState, session_at, with_transcript}
use Rattle.grasp_session.specs.Transcript.{Transcript, Saying, SayStep, SayEnd, having_said, is_going, is_mine, outcome_of}
use Rattle.grasp_types.specs.declared.address.Locator.{Locator}
use Rattle.grasp_types.specs.declared.call.Call.{Call}
use Rattle.grasp_types.specs.declared.call.Call.TheVariants as call
use Rattle.grasp_types.specs.declared.message.Verdict.TheVariants as verdict
use Rattle.grasp_types.specs.declared.reply.ApiAnswer.{ApiAnswer}
use Rattle.grasp_types.specs.declared.reply.ApiAnswer.TheVariants as answer
use Rattle.grasp_types.specs.declared.reply.Reply.{Reply}
use Rattle.grasp_types.specs.declared.reply.Reply.TheVariants as reply
use Rattle.grasp_types.specs.declared.session.Handle.{Handle}
use Rattle.grasp_types.specs.declared.session.Outcome.{Outcome}
use Rattle.grasp_laws_agents.proofs.Places.{owned_at}
use Rattle.grasp_laws_agents.specs.Calls.{CallsMean}
use Rattle.grasp_laws_prefixes.proofs.Asking.{near_far}
use Rattle.grasp_laws_prefixes.proofs.Standing.{IsGoingOn}

-- the session of this stream went on before, or the stream is the next one that the node dials
abbrev WentOn : NodeState → ℕ → Type 0
WentOn n stream = IsGoingOn n.sessions stream ⊎ (stream ≡ 2 * n.streams.dialled)

abbrev pub StillLive : NodeState → NodeState → Type 0
StillLive n after = (place : ℕ) (y : SessionState) → IsAt after.sessions place y → y.view.role ≡ Near → is_going y.view ≡ true → WentOn n y.stream

module _ (means : CallsMean) (n after : NodeState) (a : AgentState) (sound : IsBoundedNode n) (fresh : AreFresh n.sessions) where
  was_there : (place : ℕ) (y : SessionState) → IsAt n.sessions place y → is_going y.view ≡ true → WentOn n y.stream
  was_there place y at going = inl (record { place = place; session = y; at = at; on = refl; going = going })

  unmoved : after ≡ n → StillLive n after
  unmoved e place y at near going = was_there place y (subst (λ (m : NodeState). IsAt m.sessions place y) e at) going

  -- one place is set
  by_set : (p : ℕ) (v : Option SessionState) → after.sessions.places ≡ slice_set n.sessions.places p v → ((y : SessionState) → v ≡ Some y → y.view.role ≡ Near → WentOn n y.stream) → StillLive n after
  by_set p v set new place y at near going =
      by_place (set_some n.sessions.places p v place y (subst (λ (l : List (Option SessionState)). slice_index_or l place None ≡ Some y) set at)) where
        by_place : ((place ≡ p) × (v ≡ Some y)) ⊎ ((place ≢ p) × IsAt n.sessions place y) → WentOn n y.stream
        by_place (inl e) = new y e.1 near
        by_place (inr e) = was_there place y e.1 going

  -- a session that went on has said something
  has_said : (h : Handle) (x : SessionState) (now : ℕ) (s : Saying) → session_at n.sessions h ≡ Some x → is_going x.view ≡ true
      → after.sessions.places ≡ slice_set n.sessions.places h.place (Some (with_transcript x (having_said x.view now s))) → StillLive n after
  has_said h x now s at going set = by_set h.place (Some new) set (λ y e near. subst (λ (u : SessionState). WentOn n u.stream) (some_state new y e) was) where
    new : SessionState
    new = with_transcript x (having_said x.view now s)

    was : WentOn n x.stream
    was = was_there h.place x (state_slot n.sessions h x at) going

  act_answered : (c : Act) (ans : ApiAnswer) → MayCall n 1 (act_call c) (Ok ans) → after ≡ after_call n 1 (act_call c) (Ok ans) → StillLive n after
  act_answered (act.Offer place h p) ans may same =
      let f = means.steps n 1 h (prefix_value p) ans sound may in
      has_said h f.session n.reading (SayStep (prefix_value p)) (owned_at n.sessions 1 h f.session f.holds.owned) f.going (ap (λ (m : NodeState). m.sessions.places) (same ∙ f.leads))
  act_answered (act.Counter h m) ans may same =
      let f = means.steps n 1 h (length_value m) ans sound may in
      has_said h f.session n.reading (SayStep (length_value m)) (owned_at n.sessions 1 h f.session f.holds.owned) f.going (ap (λ (m : NodeState). m.sessions.places) (same ∙ f.leads))
  act_answered (act.Accept h p) ans may same =
      let f = means.ends n 1 h verdict.Accept ans sound may in
      has_said h f.session n.reading (SayEnd verdict.Accept) (owned_at n.sessions 1 h f.session f.holds.owned) f.going (ap (λ (m : NodeState). m.sessions.places) (same ∙ f.leads))
  act_answered (act.Decline h reason) ans may same =
      let f = means.ends n 1 h (verdict.Decline (Some (reason_text reason))) ans sound may in
      has_said h f.session n.reading (SayEnd (verdict.Decline (Some (reason_text reason)))) (owned_at n.sessions 1 h f.session f.holds.owned) f.going
      (ap (λ (m : NodeState). m.sessions.places) (same ∙ f.leads))

  act_called : (c : Act) (r : Reply) → Calls n 1 (act_call c) r after → StillLive n after
  act_called c (reply.Api ans) t = act_answered c ans t.0 t.1
  act_called c (reply.Refused x) t = unmoved t.1
  act_called c _ t = absurd t

  asks : (value : _) (loops : ℕ) (peer : Locator) (r : Reply) → Calls n 1 (call.RequestNegotiate objective_name value loops 60000 false peer) r after → StillLive n after
  asks value loops peer (reply.Api ans) t =
      let f = means.requests n 1 objective_name value loops 60000 false peer ans sound t.0 in
      by_set f.handle.place (Some _) (ap (λ (m : NodeState). m.sessions.places) (t.1 ∙ f.leads)) (λ y e near. inr (sym (ap (λ (u : SessionState). u.stream) (some_state _ y e))))
  asks value loops peer (reply.Refused x) t = unmoved t.1
  asks value loops peer _ t = absurd t

  listens : (r : Reply) → Calls n 1 (call.ListenNegotiate objective_name) r after → StillLive n after
  listens (reply.Api ans) t = by_answer ans (subst (ListenTells n 1 objective_name ans) (sym t.1) (means.listens n 1 objective_name ans t.0).tells) where
    by_answer : (ans : ApiAnswer) → ListenTells n 1 objective_name ans after → StillLive n after
    by_answer (answer.Incoming h from o) l =
        by_set h.place (Some _) (ap (λ (m : NodeState). m.sessions.places) l.leads)
        (λ y e near.
        absurd (near_far (sym near ∙ (sym (ap (λ (u : SessionState). u.view.role) (some_state _ y e)) ∙ ap (λ (v : Transcript). v.role) (fresh h.place l.session l.at l.untaken.owner).fresh))))
    by_answer answer.NotYet l = λ place y at near going. was_there place y (subst (λ (m : NodeState). IsAt m.sessions place y) l.1 at) going
    by_answer u l = absurd l
  listens (reply.Refused x) t = unmoved t.1
  listens _ t = absurd t

  polls : (h : Handle) (r : Reply) → Calls n 1 (call.Poll h) r after → StillLive n after
  polls h (reply.Api ans) t = by_outcome (outcome_of f.session.view) refl where
    f : PollFacts n 1 h ans after
    f = subst (PollFacts n 1 h ans) (sym t.1) (means.polls n 1 h ans t.0)

    by_mine : (b : Bool) → is_mine f.session.view ≡ b → outcome_of f.session.view ≡ None → StillLive n after
    by_mine true m e = unmoved (f.turn e m).1
    by_mine false m e = unmoved (f.waiting e m).1

    by_outcome : (o : Option Outcome) → outcome_of f.session.view ≡ o → StillLive n after
    by_outcome None e = by_mine (is_mine f.session.view) refl e
    by_outcome (Some o) e = by_set h.place None (ap (λ (m : NodeState). m.sessions.places) (f.ended o e).1) (λ y none near. absurd (none-some y none))
  polls h (reply.Refused x) t = unmoved t.1
  polls h _ t = absurd t

  by_next : a.stage ≡ Serving → (c : Call) → NextIs a c → (r : Reply) → Calls n 1 c r after → StillLive n after
  by_next stage _ (opens shut) r t = absurd (false≢true (sym shut ∙ ap is_open stage))
  by_next stage _ (acts c serves is) r t = act_called c r t
  by_next stage _ (requests w next is none) r t = asks (length_value w.length) 6 w.peer r t
  by_next stage _ (hands_back v next is none) r t = asks (return_value v.prefix) 1 v.peer r t
  by_next stage _ (does duty.Listen next is) r t = listens r t
  by_next stage _ (does (duty.Want h) next is) r t = polls h r t
  by_next stage _ (does (duty.Return h) next is) r t = polls h r t
  by_next stage _ (does (duty.Give place h) next is) r t = polls h r t

  pub still_live : a.stage ≡ Serving → (r : Reply) → Calls n 1 (next_call a) r after → StillLive n after
  still_live stage = by_next stage (next_call a) (next_calls_are a)
