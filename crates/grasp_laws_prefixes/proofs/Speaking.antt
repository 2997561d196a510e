-- The next call of the agent of prefixes says an acceptance exactly where it is one.
use Rattle.std.proofs.Common.{◌≡◌, ◌≢◌, refl, sym, ap, ◌∙◌, subst, ℕ, ◌||◌, Bool, true, false, inl, inr, ◌⊎◌, List, Contains, Option, Some, None, Ok, slice_set, slice_index_or}
use Rattle.std.proofs.lemmas.Bool.{false≢true}
use Rattle.std.specs.List.{list_any}
use Rattle.grasp_laws_agent.proofs.LawNext.{next_calls_are}
use Rattle.grasp_laws_agent.specs.Next.{NextIs, opens, acts, requests, hands_back, does}
use Rattle.grasp_agent.specs.Calls.{act_call, next_call, objective_name, reason_text}
use Rattle.grasp_agent.specs.States.{AgentState, is_open}
use Rattle.grasp_agent.specs.Values.{length_value, prefix_value, return_value}
use Rattle.grasp_agent.specs.declared.act.Act.{Act}
use Rattle.grasp_agent.specs.declared.act.Act.TheVariants as act
use Rattle.grasp_agent.specs.declared.duty.Duty.TheVariants as duty
use Rattle.grasp_agent.specs.declared.stage.Stage.TheVariants.{Serving}
use Rattle.grasp_laws_node.specs.Means.{ListenTells, PollFacts}
use Rattle.grasp_model_node.specs.Node.{NodeState}
use Rattle.grasp_model_node.specs.BoundedNodes.{IsBoundedNode}
use Rattle.grasp_model_node.specs.Step.{Calls, MayCall, after_call}
use Rattle.grasp_laws_session.proofs.Runs.{some_state, set_some}
use Rattle.grasp_session.proofs.Tables.{state_slot}
use Rattle.grasp_session.specs.Made.{AreFresh, IsFresh}
use Rattle.grasp_session.specs.Messages.{Side, is_acceptance}
use Rattle.grasp_session.specs.Runs.{WasMade}
use Rattle.grasp_session.specs.Says.{IsAt}
use Rattle.grasp_session.specs.Sessions.{SessionState, Sessions, session_at, with_transcript}
use Rattle.grasp_session.specs.Transcript.{Transcript, Saying, SayStep, SayEnd, message_of, having_said, sent_of, is_mine, outcome_of}
use Rattle.grasp_types.specs.Prefix.{AddressBlock as Prefix}
use Rattle.grasp_types.specs.declared.address.Locator.{Locator}
use Rattle.grasp_types.specs.declared.call.Call.{Call}
use Rattle.grasp_types.specs.declared.call.Call.TheVariants as call
use Rattle.grasp_types.specs.declared.message.Verdict.{Verdict}
use Rattle.grasp_types.specs.declared.message.Verdict.TheVariants as verdict
use Rattle.grasp_types.specs.declared.reply.ApiAnswer.{ApiAnswer}
use Rattle.grasp_types.specs.declared.reply.ApiAnswer.TheVariants as answer
use Rattle.grasp_types.specs.declared.reply.Reply.{Reply}
use Rattle.grasp_types.specs.declared.reply.Reply.TheVariants as reply
use Rattle.grasp_types.specs.declared.session.Handle.{Handle}
use Rattle.grasp_types.specs.declared.session.Outcome.{Outcome}
use Rattle.grasp_laws_agents.proofs.GoingOn.{IsHearing, hearing, heard_alike}
use Rattle.grasp_laws_agents.specs.GoingOn.{OnlyHears, OwnGoOn}
use Rattle.grasp_laws_agents.proofs.Making.{Says}
use Rattle.grasp_laws_agents.proofs.Places.{owned_at}
use Rattle.grasp_laws_agents.specs.Calls.{CallsMean}
use Rattle.grasp_laws_prefixes.proofs.Listing.{either_in}

-- ---- acceptances in sessions

-- the transcript has an acceptance that this end said
abbrev pub accepts : Transcript → Bool
accepts v = list_any is_acceptance (sent_of v.entries)

-- a listener's request alone has none
pub fresh_accepts : (v : Transcript) → IsFresh v → accepts v ≡ false
fresh_accepts v f = ap accepts f.fresh

-- agent 1 has accepted in a session on this stream, of which it is this side
pub record HasAccepted (z : Sessions) (side : Side) (stream : ℕ) : Type 0 where
  pub session : SessionState
  pub made : WasMade z session
  pub owner : session.owner ≡ 1
  pub role : session.view.role ≡ side
  pub on : session.stream ≡ stream
  pub said : accepts session.view ≡ true

-- what is only heard changes nothing that was said
abbrev SentSame : Transcript → Transcript → Type 0
SentSame v w = sent_of w.entries ≡ sent_of v.entries

sent_hearing : IsHearing SentSame
sent_hearing = record {
  same = λ v. refl;
  both = λ u v w a b. b ∙ a;
  keeps = λ v now m e f. refl;
  marks = λ v mark e. refl;
}

pub sent_same : (v w : Transcript) → OnlyHears v w → sent_of w.entries ≡ sent_of v.entries
sent_same v w o = hearing SentSame sent_hearing v w o

pub accepted_back : (z w : Sessions) → OwnGoOn z w → (side : Side) (stream : ℕ) → HasAccepted w side stream → HasAccepted z side stream
accepted_back z w g side stream h = by_made h.made where
  by_made : WasMade w h.session → HasAccepted z side stream
  by_made (inl live) =
      let b = g.were live.0 h.session live.1 h.owner in
      record {
        session = b.0;
        made = inl (live.0, b.1);
        owner = sym b.2.owner ∙ h.owner;
        role = sym (heard_alike b.0.view h.session.view b.2.view).role ∙ h.role;
        on = sym b.2.stream ∙ h.on;
        said = ap (list_any is_acceptance) (sym (sent_same b.0.view h.session.view b.2.view)) ∙ h.said;
      }
  by_made (inr gone) = record { session = h.session; made = inr (g.left h.session h.owner gone); owner = h.owner; role = h.role; on = h.on; said = h.said }

-- ---- the call

-- the agent has just accepted in its session on this stream, of which it is this side
pub record NowAccepts (n after : NodeState) (a : AgentState) (r : Reply) (side : Side) (stream : ℕ) : Type 0 where
  pub handle : Handle
  pub prefix : Prefix
  pub act_is : a.act ≡ Some (act.Accept handle prefix)
  pub session : SessionState
  pub says : Says n after handle session n.reading (SayEnd verdict.Accept)
  pub role : session.view.role ≡ side
  pub on : session.stream ≡ stream
  pub reply_is : r ≡ reply.Api answer.Done

abbrev pub Spoke : NodeState → NodeState → AgentState → Reply → Type 0
Spoke n after a r = (side : Side) (stream : ℕ) → HasAccepted after.sessions side stream → HasAccepted n.sessions side stream ⊎ NowAccepts n after a r side stream

module _ (means : CallsMean) (n after : NodeState) (a : AgentState) (sound : IsBoundedNode n) (fresh : AreFresh n.sessions) where
  unspoken : (r : Reply) → after ≡ n → Spoke n after a r
  unspoken r e side stream h = inl (subst (λ (m : NodeState). HasAccepted m.sessions side stream) e h)

  -- one place is set
  by_set : {T : Type 0} (side : Side) (p stream : ℕ) (v : Option SessionState) → after.sessions.places ≡ slice_set n.sessions.places p v
      → ((y : SessionState) → Contains after.sessions.gone y → WasMade n.sessions y) → (HasAccepted n.sessions side stream → T)
      → ((y : SessionState) → v ≡ Some y → y.owner ≡ 1 → y.view.role ≡ side → y.stream ≡ stream → accepts y.view ≡ true → T) → HasAccepted after.sessions side stream → T
  by_set {T} side p stream v set gone old new h = by_made h.made where
    was : WasMade n.sessions h.session → T
    was made = old (record { session = h.session; made = made; owner = h.owner; role = h.role; on = h.on; said = h.said })

    by_place : (q : ℕ) → ((q ≡ p) × (v ≡ Some h.session)) ⊎ ((q ≢ p) × IsAt n.sessions q h.session) → T
    by_place q (inl e) = new h.session e.1 h.owner h.role h.on h.said
    by_place q (inr e) = was (inl (q, e.1))

    by_made : WasMade after.sessions h.session → T
    by_made (inl live) =
        by_place live.0 (set_some n.sessions.places p v live.0 h.session (subst (λ (l : List (Option SessionState)). slice_index_or l live.0 None ≡ Some h.session) set live.1))
    by_made (inr left) = was (gone h.session left)

  same_gone : after.sessions.gone ≡ n.sessions.gone → (y : SessionState) → Contains after.sessions.gone y → WasMade n.sessions y
  same_gone e y h = inr (subst (λ (l : List SessionState). Contains l y) e h)

  -- the session has said something else than an acceptance
  other_said : (r : Reply) (h : Handle) (x : SessionState) (now : ℕ) (s : Saying) → session_at n.sessions h ≡ Some x → is_acceptance (message_of x.view s) ≡ false
      → after.sessions.places ≡ slice_set n.sessions.places h.place (Some (with_transcript x (having_said x.view now s))) → after.sessions.gone ≡ n.sessions.gone → Spoke n after a r
  other_said r h x now s at none set gone side stream =
      by_set side h.place stream (Some new) set (same_gone gone) (λ old. inl old)
      (λ y e owner role on said. inl (was y (some_state new y e) owner role on said)) where
        new : SessionState
        new = with_transcript x (having_said x.view now s)

        was : (y : SessionState) → new ≡ y → y.owner ≡ 1 → y.view.role ≡ side → y.stream ≡ stream → accepts y.view ≡ true → HasAccepted n.sessions side stream
        was y e owner role on said = record {
          session = x;
          made = inl (h.place, state_slot n.sessions h x at);
          owner = ap (λ (u : SessionState). u.owner) e ∙ owner;
          role = ap (λ (u : SessionState). u.view.role) e ∙ role;
          on = ap (λ (u : SessionState). u.stream) e ∙ on;
          said = sym (ap (λ b. b || accepts x.view) none) ∙ (ap (λ (u : SessionState). accepts u.view) e ∙ said);
        }

  act_answered : (c : Act) → a.act ≡ Some c → (ans : ApiAnswer) → MayCall n 1 (act_call c) (Ok ans) → after ≡ after_call n 1 (act_call c) (Ok ans) → Spoke n after a (reply.Api ans)
  act_answered (act.Offer place h p) is ans may same =
      let f = means.steps n 1 h (prefix_value p) ans sound may in
      other_said (reply.Api ans) h f.session n.reading (SayStep (prefix_value p)) (owned_at n.sessions 1 h f.session f.holds.owned) refl
      (ap (λ (m : NodeState). m.sessions.places) (same ∙ f.leads)) (ap (λ (m : NodeState). m.sessions.gone) (same ∙ f.leads))
  act_answered (act.Counter h m) is ans may same =
      let f = means.steps n 1 h (length_value m) ans sound may in
      other_said (reply.Api ans) h f.session n.reading (SayStep (length_value m)) (owned_at n.sessions 1 h f.session f.holds.owned) refl
      (ap (λ (m : NodeState). m.sessions.places) (same ∙ f.leads)) (ap (λ (m : NodeState). m.sessions.gone) (same ∙ f.leads))
  act_answered (act.Decline h reason) is ans may same =
      let v : Verdict = verdict.Decline (Some (reason_text reason)) in
      let f = means.ends n 1 h v ans sound may in
      other_said (reply.Api ans) h f.session n.reading (SayEnd v) (owned_at n.sessions 1 h f.session f.holds.owned) refl
      (ap (λ (m : NodeState). m.sessions.places) (same ∙ f.leads)) (ap (λ (m : NodeState). m.sessions.gone) (same ∙ f.leads))
  act_answered (act.Accept h p) is ans may same =
      let f = means.ends n 1 h verdict.Accept ans sound may in
      let new : SessionState = with_transcript f.session (having_said f.session.view n.reading (SayEnd verdict.Accept)) in
      let set = ap (λ (m : NodeState). m.sessions.places) (same ∙ f.leads) in
      let gone = ap (λ (m : NodeState). m.sessions.gone) (same ∙ f.leads) in
      λ side stream. by_set side h.place stream (Some new) set (same_gone gone) (λ old. inl old)
      (λ y e owner role on said. inr (record {
        handle = h;
        prefix = p;
        act_is = is;
        session = f.session;
        says = record { there = owned_at n.sessions 1 h f.session f.holds.owned; going = f.going; mine = f.mine; set = set; gone = gone };
        role = ap (λ (u : SessionState). u.view.role) (some_state new y e) ∙ role;
        on = ap (λ (u : SessionState). u.stream) (some_state new y e) ∙ on;
        reply_is = ap reply.Api f.done;
      }))

  act_called : (c : Act) → a.act ≡ Some c → (r : Reply) → Calls n 1 (act_call c) r after → Spoke n after a r
  act_called c is (reply.Api ans) t = act_answered c is ans t.0 t.1
  act_called c is (reply.Refused x) t = unspoken (reply.Refused x) t.1
  act_called c is _ t = absurd t

  -- a new session has accepted nothing
  asks : (value : _) (loops : ℕ) (peer : Locator) (r : Reply) → Calls n 1 (call.RequestNegotiate objective_name value loops 60000 false peer) r after → Spoke n after a r
  asks value loops peer (reply.Api ans) t =
      let f = means.requests n 1 objective_name value loops 60000 false peer ans sound t.0 in
      let leads = t.1 ∙ f.leads in
      λ side stream. by_set side f.handle.place stream (Some _) (ap (λ (m : NodeState). m.sessions.places) leads) (same_gone (ap (λ (m : NodeState). m.sessions.gone) leads)) (λ old. inl old)
      (λ y e owner role on said. absurd (false≢true (ap (λ (u : SessionState). accepts u.view) (some_state _ y e) ∙ said)))
  asks value loops peer (reply.Refused x) t = unspoken (reply.Refused x) t.1
  asks value loops peer _ t = absurd t

  listens : (r : Reply) → Calls n 1 (call.ListenNegotiate objective_name) r after → Spoke n after a r
  listens (reply.Api ans) t = by_answer ans (subst (ListenTells n 1 objective_name ans) (sym t.1) (means.listens n 1 objective_name ans t.0).tells) where
    by_answer : (ans : ApiAnswer) → ListenTells n 1 objective_name ans after → Spoke n after a (reply.Api ans)
    by_answer (answer.Incoming h from o) l =
        λ side stream. by_set side h.place stream (Some _) (ap (λ (m : NodeState). m.sessions.places) l.leads) (same_gone (ap (λ (m : NodeState). m.sessions.gone) l.leads)) (λ old. inl old)
        (λ y e owner role on said.
        absurd (false≢true (sym (fresh_accepts l.session.view (fresh h.place l.session l.at l.untaken.owner)) ∙ (ap (λ (u : SessionState). accepts u.view) (some_state _ y e) ∙ said))))
    by_answer answer.NotYet l = λ side stream h. inl (subst (λ (z : Sessions). HasAccepted z side stream) (ap (λ (m : NodeState). m.sessions) l.1) h)
    by_answer u l = absurd l
  listens (reply.Refused x) t = unspoken (reply.Refused x) t.1
  listens _ t = absurd t

  polls : (h : Handle) (r : Reply) → Calls n 1 (call.Poll h) r after → Spoke n after a r
  polls h (reply.Api ans) t = by_outcome (outcome_of f.session.view) refl where
    f : PollFacts n 1 h ans after
    f = subst (PollFacts n 1 h ans) (sym t.1) (means.polls n 1 h ans t.0)

    by_mine : (b : Bool) → is_mine f.session.view ≡ b → outcome_of f.session.view ≡ None → Spoke n after a (reply.Api ans)
    by_mine true m e = unspoken (reply.Api ans) (f.turn e m).1
    by_mine false m e = unspoken (reply.Api ans) (f.waiting e m).1

    left_made : (y : SessionState) → (f.session ≡ y) ⊎ Contains n.sessions.gone y → WasMade n.sessions y
    left_made y (inl e) = subst (WasMade n.sessions) e (inl (h.place, state_slot n.sessions h f.session (owned_at n.sessions 1 h f.session f.holds.owned)))
    left_made y (inr more) = inr more

    by_outcome : (o : Option Outcome) → outcome_of f.session.view ≡ o → Spoke n after a (reply.Api ans)
    by_outcome None e = by_mine (is_mine f.session.view) refl e
    by_outcome (Some o) e =
        let leads = (f.ended o e).1 in
        λ side stream. by_set side h.place stream None (ap (λ (m : NodeState). m.sessions.places) leads)
        (λ y has. left_made y (either_in f.session n.sessions.gone y (subst (λ (l : List SessionState). Contains l y) (ap (λ (m : NodeState). m.sessions.gone) leads) has))) (λ old. inl old)
        (λ y e owner role on said. absurd (nobody y e)) where
          nobody : (y : SessionState) → None ≡ Some y → ⊥
          nobody y e = cc
  polls h (reply.Refused x) t = unspoken (reply.Refused x) t.1
  polls h _ t = absurd t

  by_next : a.stage ≡ Serving → (c : Call) → NextIs a c → (r : Reply) → Calls n 1 c r after → Spoke n after a r
  by_next stage _ (opens shut) r t = absurd (false≢true (sym shut ∙ ap is_open stage))
  by_next stage _ (acts c serves is) r t = act_called c is r t
  by_next stage _ (requests w next is none) r t = asks (length_value w.length) 6 w.peer r t
  by_next stage _ (hands_back v next is none) r t = asks (return_value v.prefix) 1 v.peer r t
  by_next stage _ (does duty.Listen next is) r t = listens r t
  by_next stage _ (does (duty.Want h) next is) r t = polls h r t
  by_next stage _ (does (duty.Return h) next is) r t = polls h r t
  by_next stage _ (does (duty.Give place h) next is) r t = polls h r t

  pub spoke : a.stage ≡ Serving → (r : Reply) → Calls n 1 (next_call a) r after → Spoke n after a r
  spoke stage = by_next stage (next_call a) (next_calls_are a)
