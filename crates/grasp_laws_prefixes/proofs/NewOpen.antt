-- A stream that the agent has just dialled for its return is accepted by nobody.
use Rattle.std.proofs.Common.{◌≡◌, refl, sym, ap, ◌∙◌, subst, arith, ℕ, ◌*◌, ◌<◌, false, inl, inr, ◌⊎◌, None, Some, slice_get}
use Rattle.std.proofs.lemmas.Bool.{false≢true}
use Rattle.std.proofs.lemmas.Option.{none-some, same_Some}
use Rattle.grasp_agent.specs.Calls.{return_call, next_call, objective_name}
use Rattle.grasp_agent.specs.Replies.{answer_in, started_in}
use Rattle.grasp_agent.specs.States.{AgentState}
use Rattle.grasp_agent.specs.Values.{return_value}
use Rattle.grasp_agent.specs.declared.back.Return.{Return}
use Rattle.grasp_laws_agent.proofs.LawNext.{next_calls_are}
use Rattle.grasp_laws_agent.specs.Moves.{IsReturning}
use Rattle.grasp_laws_agent.specs.Next.{NextIs, opens, acts, requests, hands_back, does}
use Rattle.grasp_laws_node.proofs.Beginning.{beginnings_end}
use Rattle.grasp_model_node.specs.Begin.{begin}
use Rattle.grasp_model_node.specs.BoundedNodes.{IsBoundedNode}
use Rattle.grasp_model_node.specs.Node.{NodeState}
use Rattle.grasp_model_node.specs.Step.{Calls}
use Rattle.grasp_session.specs.Messages.{Near, Far}
use Rattle.grasp_session.specs.Sessions.{SessionState, session_at}
use Rattle.grasp_types.specs.declared.call.Call.{Call}
use Rattle.grasp_types.specs.declared.reply.ApiAnswer.{ApiAnswer}
use Rattle.grasp_types.specs.declared.reply.Reply.{Reply}
use Rattle.grasp_types.specs.declared.reply.Reply.TheVariants as reply
use Rattle.grasp_types.specs.declared.session.Handle.{Handle}
use Rattle.grasp_laws_network.specs.Authorities.{IsOpenTalk}
use Rattle.grasp_model_network.specs.Runs.{IsReached}
use Rattle.grasp_model_network.specs.Setting.{Setting}
use Rattle.grasp_model_network.specs.Streams.{StreamEnd, StreamState, end_at}
use Rattle.grasp_model_network.specs.World.{WorldState, end_of}
use Rattle.grasp_laws_agents.proofs.Places.{new_here}
use Rattle.grasp_laws_agents.specs.Calls.{CallsMean}
use Rattle.grasp_laws_negotiation.proofs.Steps.{every_at}
use Rattle.grasp_laws_negotiation.specs.Streams.{HasItsStream}
use Rattle.grasp_laws_prefixes.proofs.AgentSteps.{AgentStep}
use Rattle.grasp_laws_prefixes.proofs.BegunCalls.{IsBegun, AcceptsNow, accepted_now}
use Rattle.grasp_laws_prefixes.proofs.OwnSessions.{one_session}
use Rattle.grasp_laws_prefixes.proofs.OwnSteps.{IsCall}
use Rattle.grasp_laws_prefixes.proofs.Standing.{Stays}
use Rattle.grasp_laws_prefixes.proofs.Talking.{AcceptedBy, GivesAt, open_or, stream_was}
use Rattle.grasp_laws_prefixes.specs.Grounds.{Grounds}

-- where a return is next, the next call requests it
next_return : (a : AgentState) → IsReturning a → (c : Call) → NextIs a c → (v : Return) × (c ≡ return_call v)
next_return a n _ (opens shut) = absurd (false≢true (sym shut ∙ n.serves))
next_return a n _ (acts x serves is) = absurd (none-some x (sym n.idle ∙ is))
next_return a n _ (requests w next is none) = absurd (false≢true (sym n.asked ∙ next.asks))
next_return a n _ (hands_back v next is none) = (v, refl)
next_return a n _ (does d next is) = absurd (false≢true (sym next.sent ∙ n.returns))

-- the session that a return's request began is on the stream that the node dialled for it, the next one
module _ (means : CallsMean) (n after : NodeState) (sound : IsBoundedNode n) (h : Handle) (x : SessionState) (at : session_at after.sessions h ≡ Some x) where
  requested_on : (v : Return) (r : Reply) → started_in (answer_in r) ≡ Some h → Calls n 1 (return_call v) r after → x.stream ≡ 2 * n.streams.dialled
  requested_on v (reply.Api ans) told t =
      let f = means.requests n 1 objective_name (return_value v.prefix) 1 60000 false v.peer ans sound t.0 in
      let leads = t.1 ∙ f.leads in
      let handle : f.handle ≡ h = same_Some f.handle h (sym (ap (λ (u : ApiAnswer). started_in (Some u)) f.told) ∙ told) in
      ap (λ (u : SessionState). u.stream) (one_session after.sessions h x _ at
      (ap (λ k. session_at after.sessions k) (sym handle) ∙ new_here n.sessions after.sessions _ f.handle (ap (λ (m : NodeState). m.sessions.places) leads) f.starts.place (sym f.starts.number)))
  requested_on v (reply.Refused z) told t = absurd (cc)
  requested_on v _ told t = absurd t

  pub dialled_on : (a : AgentState) → IsReturning a → (r : Reply) → started_in (answer_in r) ≡ Some h → Calls n 1 (next_call a) r after → x.stream ≡ 2 * n.streams.dialled
  dialled_on a next r told t =
      let v = next_return a next (next_call a) (next_calls_are a) in
      requested_on v.0 r told (subst (λ c. Calls n 1 c r after) v.1 t)

module _ (l : Grounds) (s : Setting) (w y : WorldState) (r : IsReached s w) (q : IsReached s y) (a : AgentStep w y) (c : IsCall w y a) (b : IsBegun w y a c) where
  -- where the agent had no act, nobody has accepted on the stream that the node dials next
  pub new_open : a.visit.seat.agent.act ≡ None → (place : ℕ) (x : SessionState) → (now : GivesAt y place Near x) → (stream : ℕ) → end_at now.talk Near ≡ Some (end_of a.visit.node stream)
      → stream ≡ 2 * (begin a.visit.seat.core c.now).streams.dialled → IsOpenTalk y.streams place
  new_open idle place x now stream ends dialled = by_case (open_or l s y q place Near x now) where
    below : (u d e n : ℕ) → n < 2 * d → n ≡ u → u ≡ 2 * e → e ≡ d → ⊥
    below u d e n lt f g h = omega (arith, lt, f, g, h)

    -- such a stream wasn't there before
    none_was : (e : AcceptedBy w Far now.talk) → (k : HasItsStream w e.node e.accepted.session) × (k.side ≡ Far) × (k.place ≡ place) → ⊥
    none_was e k =
        let later : Stays y.streams k.0.place k.0.talk = a.streams k.0.place k.0.talk k.0.stands in
        let same : later.after ≡ now.talk = same_Some later.after now.talk (sym later.stands ∙ (ap (λ n. slice_get y.streams n) k.2 ∙ now.stands)) in
        let near : k.0.talk.near ≡ end_of a.visit.node stream =
        same_Some k.0.talk.near (end_of a.visit.node stream) (sym (later.ends Near k.0.talk.near refl) ∙ (ap (λ (u : StreamState). end_at u Near) same ∙ ends)) in
        below stream a.visit.seat.core.streams.dialled (begin a.visit.seat.core c.now).streams.dialled k.0.talk.near.number
        (every_at (λ (t : StreamState). t.near.node ≡ a.visit.node → t.near.number < 2 * a.visit.seat.core.streams.dialled) w.streams k.0.place k.0.talk (l.ready.next s w r a.visit.node a.visit.seat a.here) k.0.stands
        (ap (λ (u : StreamEnd). u.node) near)) (ap (λ (u : StreamEnd). u.number) near) dialled (beginnings_end a.visit.seat.core c.now).0.dialled

    by_now : AcceptedBy w Far now.talk ⊎ AcceptsNow w y a c Far now.talk → ⊥
    by_now (inl e) = none_was e (stream_was l s w y r q a.streams place now.talk now.stands Far e)
    by_now (inr e) = none-some _ (sym idle ∙ e.accepts.act_is)

    by_case : IsOpenTalk y.streams place ⊎ AcceptedBy y Far now.talk → IsOpenTalk y.streams place
    by_case (inl is_open) = is_open
    by_case (inr e) = absurd (by_now (accepted_now w y a c b Far now.talk e))
