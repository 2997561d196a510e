-- After its next call each live session of an agent of prefixes is a duty of the agent, where it was before.
use Rattle.std.proofs.Common.{◌≡◌, ◌≢◌, ◌<◌, ◌≤◌, ◌+◌, ◌*◌, ◌==◌, ◌⊎◌, inl, inr, nat_lt, ℕ, Bool, true, false, cond, List, [], ◌∷◌, length, slice_get, slice_set, Option, None, Some, Ok, refl, sym, ap, ◌∙◌, subst, arith}
use Rattle.std.proofs.lemmas.Bool.{false≢true, eq-eqb, ne_eqb}
use Rattle.std.proofs.lemmas.Bool.Decides.{eqb_tells}
use Rattle.std.proofs.lemmas.Option.{none-some, same_Some}
use Rattle.grasp_agent.proofs.Keeping.{act_stands}
use Rattle.grasp_agent.specs.Calls.{act_call, want_call, return_call, next_call, objective_name, reason_text}
use Rattle.grasp_agent.specs.Kept.{IsKept}
use Rattle.grasp_agent.specs.Replies.{answer_in, is_again, started_in, progress_in, deciding, removed, after_want_progress, after_back_progress, after_give_progress, after_duty, after_serving, after_opening, advanced, after_reply}
use Rattle.grasp_agent.specs.States.{AgentState, is_open, back_session, want_session}
use Rattle.grasp_agent.specs.Values.{length_value, prefix_value, return_value}
use Rattle.grasp_agent.specs.declared.act.Act.{Act}
use Rattle.grasp_agent.specs.declared.act.Act.TheVariants as act
use Rattle.grasp_agent.specs.declared.back.Return.{Return}
use Rattle.grasp_agent.specs.declared.decision.GiverDecision.{GiverDecision}
use Rattle.grasp_agent.specs.declared.decision.GiverDecision.TheVariants as giver
use Rattle.grasp_agent.specs.declared.duty.Duty.{Duty}
use Rattle.grasp_agent.specs.declared.duty.Duty.TheVariants as duty
use Rattle.grasp_agent.specs.declared.giving.Giving.{Giving}
use Rattle.grasp_agent.specs.declared.stage.Stage.TheVariants.{Serving}
use Rattle.grasp_agent.specs.declared.want.Want.{Want}
use Rattle.grasp_cbor.specs.DataItem.{DataItem}
use Rattle.grasp_laws_agent.proofs.LawMoves.{at_duty, moves_are_made}
use Rattle.grasp_laws_agent.proofs.LawNext.{next_calls_are}
use Rattle.grasp_laws_agent.specs.Moves.{comes_in, starts, is_refused, considers, finishes, hands, is_unsent, hears, is_made, is_dropped, gives, leaves, IsNext, IsRequesting, IsReturning, Effect, NothingMoves}
use Rattle.grasp_laws_agent.specs.Next.{NextIs, opens, acts, requests, hands_back, does}
use Rattle.grasp_laws_agents.proofs.Places.{same_handle, one_there, one_handle, set_back}
use Rattle.grasp_laws_agents.specs.Calls.{CallsMean}
use Rattle.grasp_laws_agents.specs.Giving.{Gives}
use Rattle.grasp_laws_node.proofs.Meaning.Acts.{number_at, owned_at as owned_by}
use Rattle.grasp_laws_node.specs.Means.{ListenTells, Takes, PollFacts, StepFacts, EndFacts}
use Rattle.grasp_laws_node.specs.MeansRequests.{RequestFacts, negotiable}
use Rattle.grasp_laws_offers.proofs.Entries.{some_at, still_at, last_at, set_same, set_elsewhere, stays_there}
use Rattle.grasp_laws_offers.proofs.Pigeons.{pigeonhole}
use Rattle.grasp_laws_offers.specs.Duties.{IsEntrys, IsDuty, OwnAreDuties}
use Rattle.grasp_laws_session.proofs.Runs.{at_below, calls_in_order}
use Rattle.grasp_model_node.specs.Draws.{next_session}
use Rattle.grasp_model_node.specs.BoundedNodes.{IsBoundedNode}
use Rattle.grasp_model_node.specs.Node.{NodeState}
use Rattle.grasp_model_node.specs.Step.{Calls, MayCall, after_call}
use Rattle.grasp_pool.proofs.Lists.{lt_tells}
use Rattle.grasp_session.proofs.Tables.{state_slot}
use Rattle.grasp_session.specs.Messages.{Near}
use Rattle.grasp_session.specs.Says.{IsAt}
use Rattle.grasp_session.specs.Sessions.{SessionState, Sessions, session_at, left, with_owner, with_transcript}
use Rattle.grasp_session.specs.Transcript.{Saying, SayStep, SayEnd, having_said, is_mine, opening, outcome_of, peer_offer}
use Rattle.grasp_types.specs.declared.address.Address.{Address}
use Rattle.grasp_types.specs.declared.address.Locator.{Locator}
use Rattle.grasp_types.specs.declared.call.Call.{Call}
use Rattle.grasp_types.specs.declared.call.Call.TheVariants as call
use Rattle.grasp_types.specs.declared.message.Verdict.{Verdict}
use Rattle.grasp_types.specs.declared.message.Verdict.TheVariants as verdict
use Rattle.grasp_types.specs.declared.objective.Objective.{Objective}
use Rattle.grasp_types.specs.declared.refusal.ApiRefused.{ApiRefused}
use Rattle.grasp_types.specs.declared.reply.ApiAnswer.{ApiAnswer}
use Rattle.grasp_types.specs.declared.reply.ApiAnswer.TheVariants as answer
use Rattle.grasp_types.specs.declared.reply.Reply.{Reply}
use Rattle.grasp_types.specs.declared.reply.Reply.TheVariants as reply
use Rattle.grasp_types.specs.declared.session.Handle.{Handle}
use Rattle.grasp_types.specs.declared.session.Kind.TheVariants.{Negotiation}
use Rattle.grasp_types.specs.declared.session.Outcome.{Outcome}
use Rattle.grasp_types.specs.declared.session.Progress.{Progress}
use Rattle.grasp_types.specs.declared.session.Progress.TheVariants as progress

-- ---- duties that stay

-- what was a duty is one
abbrev Stay : AgentState → AgentState → Type 0
Stay a b = (h : Handle) → IsDuty a h → IsDuty b h

entry_in : (a b : AgentState) (h : Handle) → b.giving ≡ a.giving → IsEntrys a h → IsEntrys b h
entry_in a b h e i = record { place = i.place; entry = i.entry; at = ap (λ (l : List Giving). slice_get l i.place) e ∙ i.at; handle = i.handle }

duty_by : (a b : AgentState) (h : Handle) → (want_session a.want ≡ Some h → IsDuty b h) → (back_session a.back ≡ Some h → IsDuty b h) → (IsEntrys a h → IsDuty b h) → IsDuty a h → IsDuty b h
duty_by a b h want back entry (inl e) = want e
duty_by a b h want back entry (inr (inl e)) = back e
duty_by a b h want back entry (inr (inr e)) = entry e

want_stays : (a b : AgentState) (h : Handle) → b.want ≡ a.want → want_session a.want ≡ Some h → IsDuty b h
want_stays a b h same e = inl (ap want_session same ∙ e)

back_stays : (a b : AgentState) (h : Handle) → b.back ≡ a.back → back_session a.back ≡ Some h → IsDuty b h
back_stays a b h same e = inr (inl (ap back_session same ∙ e))

entry_stays : (a b : AgentState) (h : Handle) → b.giving ≡ a.giving → IsEntrys a h → IsDuty b h
entry_stays a b h same e = inr (inr (entry_in a b h same e))

same_stay : (a b : AgentState) → b.want ≡ a.want → b.back ≡ a.back → b.giving ≡ a.giving → Stay a b
same_stay a b want back giving h = duty_by a b h (want_stays a b h want) (back_stays a b h back) (entry_stays a b h giving)

nothing_stays : (a b : AgentState) → NothingMoves a b → Stay a b
nothing_stays a b q = same_stay a b q.want.0 q.back q.giving

-- an entry is another of the same session
slot_stays : (a b : AgentState) (place : ℕ) (g k : Giving) → b.want ≡ a.want → b.back ≡ a.back → slice_get a.giving place ≡ Some g → k.handle ≡ g.handle → b.giving ≡ slice_set a.giving place k → Stay a b
slot_stays a b place g k want back here same giving h = duty_by a b h (want_stays a b h want) (back_stays a b h back) entry where
  entry : IsEntrys a h → IsDuty b h
  entry e = by_place (eqb_tells e.place place) where
    by_place : (((e.place == place) ≡ true) × (e.place ≡ place)) ⊎ (((e.place == place) ≡ false) × (e.place ≢ place)) → IsDuty b h
    by_place (inl i) =
        let it : e.entry ≡ g = same_Some e.entry g (sym e.at ∙ ap (slice_get a.giving) i.1 ∙ here) in
        inr
        (inr (record {
          place = place;
          entry = k;
          at = ap (λ (l : List Giving). slice_get l place) giving ∙ set_same a.giving place g k here;
          handle = same ∙ sym (ap (λ (x : Giving). x.handle) it) ∙ e.handle;
        }))
    by_place (inr i) =
        inr
        (inr (record {
          place = e.place;
          entry = e.entry;
          at = ap (λ (l : List Giving). slice_get l e.place) giving ∙ set_elsewhere a.giving place e.place e.entry k i.1 e.at;
          handle = e.handle;
        }))

-- ---- sessions that stay

abbrev Attends : Sessions → AgentState → Type 0
Attends z a = (h : Handle) (x : SessionState) → session_at z h ≡ Some x → x.owner ≡ 1 → IsDuty a h

attends_still : (z w : Sessions) (a b : AgentState) → w ≡ z → Stay a b → Attends z a → Attends w b
attends_still z w a b same stay d h x at own = stay h (d h x (subst (λ (y : Sessions). session_at y h ≡ Some x) same at) own)

-- one place is set, to a session that is a duty where it is the agent's; what was live elsewhere is one
attends_set : (z w : Sessions) (b : AgentState) (h : Handle) (new : SessionState) → w.places ≡ slice_set z.places h.place (Some new) → new.number ≡ h.number → IsDuty b h
    → ((l : Handle) (x : SessionState) → l.place ≢ h.place → session_at z l ≡ Some x → x.owner ≡ 1 → IsDuty b l) → Attends w b
attends_set z w b h new set number here others l y at own = by_place (set_back z w h.place (Some new) set l y at) where
  by_place : ((l.place ≡ h.place) × (Some new ≡ Some y)) ⊎ ((l.place ≢ h.place) × (session_at z l ≡ Some y)) → IsDuty b l
  by_place (inl i) =
      let same : new ≡ y = same_Some new y i.1 in
      subst (IsDuty b) (same_handle h l (sym i.0) (sym number ∙ (ap (λ (u : SessionState). u.number) same ∙ number_at w l y at))) here
  by_place (inr i) = others l y i.0 i.1 own

-- a session leaves
attends_left : (z : Sessions) (b : AgentState) (h : Handle) (gone : SessionState) → ((l : Handle) (x : SessionState) → l.place ≢ h.place → session_at z l ≡ Some x → x.owner ≡ 1 → IsDuty b l) → Attends (left z h gone) b
attends_left z b h gone others l y at own = by_place (set_back z (left z h gone) h.place None refl l y at) where
  by_place : ((l.place ≡ h.place) × (None ≡ Some y)) ⊎ ((l.place ≢ h.place) × (session_at z l ≡ Some y)) → IsDuty b l
  by_place (inl i) = absurd (none-some y i.1)
  by_place (inr i) = others l y i.0 i.1 own

-- ---- the call

module _ (means : CallsMean) (n after : NodeState) (a : AgentState) (sound : IsBoundedNode n) (kept : IsKept a) (stage : a.stage ≡ Serving) (k : Gives n a) (d : OwnAreDuties n a) where
  serves : is_open a.stage ≡ true
  serves = ap is_open stage

  -- the sessions are as they were, and so are the duties
  unmoved : (b : AgentState) → after ≡ n → Stay a b → OwnAreDuties after b
  unmoved b same stay = attends_still n.sessions after.sessions a b (ap (λ (m : NodeState). m.sessions) same) stay d

  again : (r : Reply) → is_again r ≡ true → after_reply a r ≡ a
  unfolding after_reply
  again r e = ap (λ b. cond b a (cond (is_open a.stage) (after_serving a a.act r) (after_opening a r))) e

  once_more : (r : Reply) → after ≡ n → is_again r ≡ true → OwnAreDuties after (after_reply a r)
  once_more r same e = subst (OwnAreDuties after) (sym (again r e)) (unmoved a same (λ h i. i))

  -- where its duty leaves the agent, only the cursor goes on
  still : (r : Reply) (u : Duty) → IsNext a u → is_again r ≡ false → after_duty a u r ≡ a → Stay a (after_reply a r)
  still r u next last e = nothing_stays a (after_reply a r) (subst (NothingMoves a) (sym (at_duty a r u last next ∙ ap advanced e)) (record { pool = refl; giving = refl; want = (refl, refl); back = refl; act = refl }))

  -- ---- an act

  dropped : (c : Act) → a.act ≡ Some c → (b : AgentState) → Effect a (is_dropped c) b → Stay a b
  dropped (act.Offer place h p) is b e =
      slot_stays a b place (record { handle = h; offer = Some p; first = false }) (record { handle = h; offer = None; first = false }) e.0.0 e.1 (act_stands a (act.Offer place h p) is kept) refl e.3.1
  dropped (act.Counter h m) is b e = same_stay a b e.0.0 e.1 e.3.1
  dropped (act.Accept h p) is b e = same_stay a b e.0.0 e.1 e.3.1
  dropped (act.Decline h reason) is b e = same_stay a b e.0.0 e.1 e.3.1

  act_refused : (c : Act) → a.act ≡ Some c → (x : ApiRefused) → after ≡ n → OwnAreDuties after (after_reply a (reply.Refused x))
  act_refused c is x same = by_again (is_again (reply.Refused x)) refl where
    by_again : (b : Bool) → is_again (reply.Refused x) ≡ b → OwnAreDuties after (after_reply a (reply.Refused x))
    by_again true e = once_more (reply.Refused x) same e
    by_again false e = unmoved (after_reply a (reply.Refused x)) same (dropped c is (after_reply a (reply.Refused x)) (moves_are_made a (reply.Refused x) (is_dropped c) kept (is, (x, refl), e)))

  made : (c : Act) → a.act ≡ Some c → (ans : ApiAnswer) → ans ≡ answer.Done → Stay a (after_reply a (reply.Api ans))
  made c is ans e =
      let f : Effect a (is_made c) (after_reply a (reply.Api ans)) = moves_are_made a (reply.Api ans) (is_made c) kept (is, ap reply.Api e) in
      same_stay a (after_reply a (reply.Api ans)) f.1.0 f.2 f.0

  -- a session in which something was said is still the agent's
  said : (b : AgentState) (h : Handle) (x : SessionState) (now : ℕ) (saying : Saying) → session_at n.sessions h ≡ Some x → x.owner ≡ 1
      → after.sessions.places ≡ slice_set n.sessions.places h.place (Some (with_transcript x (having_said x.view now saying))) → Stay a b → OwnAreDuties after b
  said b h x now saying at own set stay =
      attends_set n.sessions after.sessions b h (with_transcript x (having_said x.view now saying)) set (number_at n.sessions h x at) (stay h (d h x at own)) (λ l y other there owner. stay l (d l y there owner))

  stepped : (h : Handle) (value : DataItem) (ans : ApiAnswer) (f : StepFacts n 1 h value ans (after_call n 1 (call.NegotiateStep h value) (Ok ans))) → after ≡ after_call n 1 (call.NegotiateStep h value) (Ok ans)
      → Stay a (after_reply a (reply.Api ans)) → OwnAreDuties after (after_reply a (reply.Api ans))
  stepped h value ans f same stay =
      let o = owned_by n.sessions 1 h f.session f.holds.owned in
      said (after_reply a (reply.Api ans)) h f.session n.reading (SayStep value) o.0 o.1 (ap (λ (m : NodeState). m.sessions.places) (same ∙ f.leads)) stay

  ended : (h : Handle) (v : Verdict) (ans : ApiAnswer) (f : EndFacts n 1 h v ans (after_call n 1 (call.EndNegotiate h v) (Ok ans))) → after ≡ after_call n 1 (call.EndNegotiate h v) (Ok ans)
      → Stay a (after_reply a (reply.Api ans)) → OwnAreDuties after (after_reply a (reply.Api ans))
  ended h v ans f same stay =
      let o = owned_by n.sessions 1 h f.session f.holds.owned in
      said (after_reply a (reply.Api ans)) h f.session n.reading (SayEnd v) o.0 o.1 (ap (λ (m : NodeState). m.sessions.places) (same ∙ f.leads)) stay

  act_answered : (c : Act) → a.act ≡ Some c → (ans : ApiAnswer) → MayCall n 1 (act_call c) (Ok ans) → after ≡ after_call n 1 (act_call c) (Ok ans) → OwnAreDuties after (after_reply a (reply.Api ans))
  act_answered (act.Offer place h p) is ans may same =
      let f = means.steps n 1 h (prefix_value p) ans sound may in
      stepped h (prefix_value p) ans f same (made (act.Offer place h p) is ans f.done)
  act_answered (act.Counter h m) is ans may same =
      let f = means.steps n 1 h (length_value m) ans sound may in
      stepped h (length_value m) ans f same (made (act.Counter h m) is ans f.done)
  act_answered (act.Accept h p) is ans may same =
      let f = means.ends n 1 h verdict.Accept ans sound may in
      ended h verdict.Accept ans f same (made (act.Accept h p) is ans f.done)
  act_answered (act.Decline h reason) is ans may same =
      let f = means.ends n 1 h (verdict.Decline (Some (reason_text reason))) ans sound may in
      ended h (verdict.Decline (Some (reason_text reason))) ans f same (made (act.Decline h reason) is ans f.done)

  act_called : (c : Act) → a.act ≡ Some c → (r : Reply) → Calls n 1 (act_call c) r after → OwnAreDuties after (after_reply a r)
  act_called c is (reply.Api ans) t = act_answered c is ans t.0 t.1
  act_called c is (reply.Refused x) t = act_refused c is x t.1
  act_called c is _ t = absurd t

  -- ---- a request

  -- no session of the want, where it isn't requested yet
  no_want : (w : Want) → a.want ≡ Some w → w.session ≡ None → {A : Type 0} (h : Handle) → want_session a.want ≡ Some h → A
  no_want w is none h e = absurd (none-some h (sym none ∙ sym (ap want_session is) ∙ e))

  no_back : (v : Return) → a.back ≡ Some v → v.session ≡ None → {A : Type 0} (h : Handle) → back_session a.back ≡ Some h → A
  no_back v is none h e = absurd (none-some h (sym none ∙ sym (ap back_session is) ∙ e))

  begun : (b : AgentState) (value : DataItem) (loops : ℕ) (peer : Locator) (ans : ApiAnswer)
      → (f : RequestFacts n 1 objective_name value loops 60000 false peer ans (after_call n 1 (call.RequestNegotiate objective_name value loops 60000 false peer) (Ok ans)))
      → after ≡ after_call n 1 (call.RequestNegotiate objective_name value loops 60000 false peer) (Ok ans) → IsDuty b f.handle → Stay a b → OwnAreDuties after b
  begun b value loops peer ans f same here stay =
      attends_set n.sessions after.sessions b f.handle
      (record {
        number = n.sessions.made + 1;
        owner = 1;
        stream = 2 * n.streams.dialled;
        view = opening Negotiation Near 60000 n.reading (next_session n) (negotiable objective_name f.negotiates.flags value loops false);
      }) (ap (λ (m : NodeState). m.sessions.places) (same ∙ f.leads)) (sym f.starts.number) here (λ l y other there owner. stay l (d l y there owner))

  told_start : (ans : ApiAnswer) (h : Handle) → ans ≡ answer.Started h → started_in (answer_in (reply.Api ans)) ≡ Some h
  told_start ans h e = ap (λ (u : ApiAnswer). started_in (Some u)) e

  asks : (v : Want) → IsRequesting a → a.want ≡ Some v → v.session ≡ None → (r : Reply) → Calls n 1 (want_call v) r after → OwnAreDuties after (after_reply a r)
  asks v next is none (reply.Api ans) t =
      let f = means.requests n 1 objective_name (length_value v.length) 6 60000 false v.peer ans sound t.0 in
      let e : Effect a (starts f.handle) (after_reply a (reply.Api ans)) = moves_are_made a (reply.Api ans) (starts f.handle) kept (next, told_start ans f.handle f.told) in
      begun (after_reply a (reply.Api ans)) (length_value v.length) 6 v.peer ans f t.1 (inl (ap want_session e.5.2))
      (λ h. duty_by a (after_reply a (reply.Api ans)) h (no_want v is none h) (back_stays a (after_reply a (reply.Api ans)) h e.2) (entry_stays a (after_reply a (reply.Api ans)) h e.1))
  asks v next is none (reply.Refused x) t = by_again (is_again (reply.Refused x)) refl where
    by_again : (b : Bool) → is_again (reply.Refused x) ≡ b → OwnAreDuties after (after_reply a (reply.Refused x))
    by_again true e = once_more (reply.Refused x) t.1 e
    by_again false e =
        let f : Effect a (is_refused x) (after_reply a (reply.Refused x)) = moves_are_made a (reply.Refused x) (is_refused x) kept (next, refl, e) in
        unmoved (after_reply a (reply.Refused x)) t.1
        (λ h. duty_by a (after_reply a (reply.Refused x)) h (no_want v is none h) (back_stays a (after_reply a (reply.Refused x)) h f.2) (entry_stays a (after_reply a (reply.Refused x)) h f.1))
  asks v next is none _ t = absurd t

  hands_over : (v : Return) → IsReturning a → a.back ≡ Some v → v.session ≡ None → (r : Reply) → Calls n 1 (return_call v) r after → OwnAreDuties after (after_reply a r)
  hands_over v next is none (reply.Api ans) t =
      let f = means.requests n 1 objective_name (return_value v.prefix) 1 60000 false v.peer ans sound t.0 in
      let e : Effect a (hands f.handle) (after_reply a (reply.Api ans)) = moves_are_made a (reply.Api ans) (hands f.handle) kept (next, told_start ans f.handle f.told) in
      begun (after_reply a (reply.Api ans)) (return_value v.prefix) 1 v.peer ans f t.1 (inr (inl (ap back_session e.4.2)))
      (λ h. duty_by a (after_reply a (reply.Api ans)) h (want_stays a (after_reply a (reply.Api ans)) h e.2.0) (no_back v is none h) (entry_stays a (after_reply a (reply.Api ans)) h e.1))
  hands_over v next is none (reply.Refused x) t = by_again (is_again (reply.Refused x)) refl where
    by_again : (b : Bool) → is_again (reply.Refused x) ≡ b → OwnAreDuties after (after_reply a (reply.Refused x))
    by_again true e = once_more (reply.Refused x) t.1 e
    by_again false e =
        let f : Effect a (is_unsent x) (after_reply a (reply.Refused x)) = moves_are_made a (reply.Refused x) (is_unsent x) kept (next, refl, e) in
        unmoved (after_reply a (reply.Refused x)) t.1
        (λ h. duty_by a (after_reply a (reply.Refused x)) h (want_stays a (after_reply a (reply.Refused x)) h f.1.0) (no_back v is none h) (entry_stays a (after_reply a (reply.Refused x)) h f.0))
  hands_over v next is none _ t = absurd t

  duty_refused : (u : Duty) → IsNext a u → (x : ApiRefused) → after ≡ n → after_duty a u (reply.Refused x) ≡ a → OwnAreDuties after (after_reply a (reply.Refused x))
  duty_refused u next x same e = by_again (is_again (reply.Refused x)) refl where
    by_again : (b : Bool) → is_again (reply.Refused x) ≡ b → OwnAreDuties after (after_reply a (reply.Refused x))
    by_again true f = once_more (reply.Refused x) same f
    by_again false f = unmoved (after_reply a (reply.Refused x)) same (still (reply.Refused x) u next f e)

  -- ---- to listen

  -- beside an untaken session there are fewer than 64 entries, each with a session at a place of its own
  module _ (place : ℕ) (u : SessionState) (at : IsAt n.sessions place u) (untaken : u.owner ≡ 0) where
    long : length n.sessions.places ≡ 64
    long = (calls_in_order n.sessions sound.sessions).long

    abbrev place_in : Option Giving → ℕ
    place_in None = 0
    place_in (Some g) = g.handle.place

    abbrev pigeon : ℕ → ℕ
    pigeon i = cond (i == 64) place (place_in (slice_get a.giving i))

    which : (i : ℕ) → i < 65 → (i ≡ 64) ⊎ (i < 64)
    which i lt = by (eqb_tells i 64) where
      by : (((i == 64) ≡ true) × (i ≡ 64)) ⊎ (((i == 64) ≡ false) × (i ≢ 64)) → (i ≡ 64) ⊎ (i < 64)
      by (inl e) = inl e.1
      by (inr e) = let no = e.1 in inr (omega (arith, lt, no))

    low_is : (i : ℕ) → i < 64 → (g : Giving) → slice_get a.giving i ≡ Some g → pigeon i ≡ g.handle.place
    low_is i lt g is = ap (λ b. cond b place (place_in (slice_get a.giving i))) (ne_eqb i 64 (λ e. omega (arith, lt, e))) ∙ ap place_in is

    last_is : (i : ℕ) → i ≡ 64 → pigeon i ≡ place
    last_is i e = ap (λ b. cond b place (place_in (slice_get a.giving i))) (eq-eqb i 64 e)

    entry_there : (i : ℕ) (g : Giving) (is : slice_get a.giving i ≡ Some g) → IsAt n.sessions g.handle.place (k.entries i g is).session
    entry_there i g is = state_slot n.sessions g.handle (k.entries i g is).session (k.entries i g is).own.at

    not_here : (i : ℕ) (g : Giving) → slice_get a.giving i ≡ Some g → ¬ (place ≡ g.handle.place)
    not_here i g is same =
        let x = k.entries i g is in
        let one : u ≡ x.session = one_there n.sessions place u x.session at (subst (λ p. IsAt n.sessions p x.session) (sym same) (entry_there i g is)) in
        let clash : 0 ≡ 1 = sym untaken ∙ (ap (λ (y : SessionState). y.owner) one ∙ x.own.owner) in
        absurd (omega (arith, clash))

    few_entries : ¬ (64 ≤ length a.giving)
    few_entries many = let z = pigeonhole 65 64 pigeon into one in absurd (omega (arith, z)) where
      entry_at : (i : ℕ) → i < 64 → (g : Giving) × (slice_get a.giving i ≡ Some g)
      entry_at i lt = some_at a.giving i (omega (arith, lt, many))

      into : (i : ℕ) → i < 65 → pigeon i < 64
      into i lt = by (which i lt) where
        by : (i ≡ 64) ⊎ (i < 64) → pigeon i < 64
        by (inl e) = let same = last_is i e in let below = at_below n.sessions.places place u at in omega (arith, same, below, long)
        by (inr l) =
            let g = entry_at i l in
            let same = low_is i l g.0 g.1 in
            let below = at_below n.sessions.places g.0.handle.place (k.entries i g.0 g.1).session (entry_there i g.0 g.1) in
            omega (arith, same, below, long)

      one : (i j : ℕ) → i < 65 → j < 65 → pigeon i ≡ pigeon j → i ≡ j
      one i j p q e = by (which i p) (which j q) where
        by : (i ≡ 64) ⊎ (i < 64) → (j ≡ 64) ⊎ (j < 64) → i ≡ j
        by (inl v) (inl w) = v ∙ sym w
        by (inl v) (inr w) = let g = entry_at j w in absurd (not_here j g.0 g.1 (sym (last_is i v) ∙ (e ∙ low_is j w g.0 g.1)))
        by (inr v) (inl w) = let g = entry_at i v in absurd (not_here i g.0 g.1 (sym (last_is j w) ∙ (sym e ∙ low_is i v g.0 g.1)))
        by (inr v) (inr w) =
            let g = entry_at i v in
            let f = entry_at j w in
            let x = k.entries i g.0 g.1 in
            let y = k.entries j f.0 f.1 in
            k.apart i j g.0 f.0 g.1 f.1
            (one_handle n.sessions g.0.handle f.0.handle x.session y.session x.own.at y.own.at (sym (low_is i v g.0 g.1) ∙ (e ∙ low_is j w f.0 f.1))).0

  module _ (next : IsNext a duty.Listen) where
    comes : (h : Handle) (from : Address) (o : Objective) → Takes n 1 objective_name h from o after → OwnAreDuties after (after_reply a (reply.Api (answer.Incoming h from o)))
    comes h from o t = by_room (lt_tells (length a.giving) 64) where
      b : AgentState
      b = after_reply a (reply.Api (answer.Incoming h from o))

      by_room : ((nat_lt (length a.giving) 64 ≡ true) × (length a.giving < 64)) ⊎ ((nat_lt (length a.giving) 64 ≡ false) × (64 ≤ length a.giving)) → OwnAreDuties after b
      by_room (inl few) =
          let e : Effect a (comes_in h) b = moves_are_made a (reply.Api (answer.Incoming h from o)) (comes_in h) kept (inr next, refl, few.1) in
          attends_set n.sessions after.sessions b h (with_owner t.session 1) (ap (λ (m : NodeState). m.sessions.places) t.leads) t.number
          (inr (inr (record { place = length a.giving; entry = record { handle = h; offer = None; first = true }; at = ap (λ (l : List Giving). slice_get l (length a.giving)) e.4 ∙ last_at a.giving (record { handle = h; offer = None; first = true }); handle = refl })))
          (λ l y other there owner.
          duty_by a b l (want_stays a b l e.1.0) (back_stays a b l e.2)
          (λ i.
          inr
          (inr (record {
            place = i.place;
            entry = i.entry;
            at = ap (λ (x : List Giving). slice_get x i.place) e.4 ∙ still_at a.giving (record { handle = h; offer = None; first = true } ∷ []) i.place i.entry i.at;
            handle = i.handle;
          })))
          (d l y there owner))
      by_room (inr many) = absurd (few_entries h.place t.session t.at t.untaken.owner many.1)

    listen_called : (r : Reply) → Calls n 1 (call.ListenNegotiate objective_name) r after → OwnAreDuties after (after_reply a r)
    listen_called (reply.Api ans) t = by_answer ans (subst (ListenTells n 1 objective_name ans) (sym t.1) (means.listens n 1 objective_name ans t.0).tells) where
      by_answer : (ans : ApiAnswer) → ListenTells n 1 objective_name ans after → OwnAreDuties after (after_reply a (reply.Api ans))
      by_answer (answer.Incoming h from o) l = comes h from o l
      by_answer answer.NotYet l =
          attends_still n.sessions after.sessions a (after_reply a (reply.Api answer.NotYet)) (ap (λ (m : NodeState). m.sessions) l.1) (still (reply.Api answer.NotYet) duty.Listen next refl refl) d
      by_answer u l = absurd l
    listen_called (reply.Refused x) t = duty_refused duty.Listen next x t.1 refl
    listen_called _ t = absurd t

  -- ---- to ask how a session stands

  -- what the poll tells
  abbrev Told : SessionState → ApiAnswer → Type 0
  Told x ans =
      ((o : Outcome) × (outcome_of x.view ≡ Some o) × (ans ≡ answer.Polled (progress.Ended o)))
      ⊎ (((ans ≡ answer.Polled (progress.Turn (peer_offer x.view))) × (after ≡ n)) ⊎ ((ans ≡ answer.Polled progress.NotYet) × (after ≡ n)))

  told : (h : Handle) (ans : ApiAnswer) (f : PollFacts n 1 h ans after) → Told f.session ans
  told h ans f = by_outcome (outcome_of f.session.view) refl where
    by_mine : (b : Bool) → is_mine f.session.view ≡ b → outcome_of f.session.view ≡ None → Told f.session ans
    by_mine true m e = let p = f.turn e m in inr (inl (p.0, p.1))
    by_mine false m e = let p = f.waiting e m in inr (inr (p.0, p.1))

    by_outcome : (o : Option Outcome) → outcome_of f.session.view ≡ o → Told f.session ans
    by_outcome (Some o) e = inl (o, e, (f.ended o e).0)
    by_outcome None e = by_mine (is_mine f.session.view) refl e

  facts : (h : Handle) (ans : ApiAnswer) → MayCall n 1 (call.Poll h) (Ok ans) → after ≡ after_call n 1 (call.Poll h) (Ok ans) → PollFacts n 1 h ans after
  facts h ans may same = subst (PollFacts n 1 h ans) (sym same) (means.polls n 1 h ans may)

  told_of : (ans : ApiAnswer) (p : Progress) → ans ≡ answer.Polled p → progress_in (answer_in (reply.Api ans)) ≡ Some p
  told_of ans p e = ap (λ (u : ApiAnswer). progress_in (Some u)) e

  -- a poll that tells nothing leaves the agent
  polled_still : (u : Duty) → IsNext a u → (ans : ApiAnswer) (p : Progress) → ans ≡ answer.Polled p → after ≡ n → after_duty a u (reply.Api (answer.Polled p)) ≡ a → OwnAreDuties after (after_reply a (reply.Api ans))
  polled_still u next ans p e same f =
      subst (λ (q : ApiAnswer). OwnAreDuties after (after_reply a (reply.Api q))) (sym e)
      (unmoved (after_reply a (reply.Api (answer.Polled p))) same (still (reply.Api (answer.Polled p)) u next refl f))

  -- its session has left, and no other
  polled_gone : (b : AgentState) (h : Handle) (ans : ApiAnswer) (f : PollFacts n 1 h ans after) (o : Outcome) → outcome_of f.session.view ≡ Some o
      → ((l : Handle) → l.place ≢ h.place → IsDuty a l → IsDuty b l) → OwnAreDuties after b
  polled_gone b h ans f o e others =
      subst (λ (z : Sessions). Attends z b) (sym (ap (λ (m : NodeState). m.sessions) (f.ended o e).1)) (attends_left n.sessions b h f.session (λ l y other there owner. others l other (d l y there owner)))

  -- a duty of another place is another duty
  apart_from : (h l : Handle) → l.place ≢ h.place → {A : Type 0} → Some h ≡ Some l → A
  apart_from h l other e = absurd (other (ap (λ (x : Handle). x.place) (sym (same_Some h l e))))

  want_still : (w : Option Want) (h : Handle) → (after_want_progress a w h None ≡ a) × (after_want_progress a w h (Some progress.NotYet) ≡ a)
  want_still None h = (refl, refl)
  want_still (Some w) h = (refl, refl)

  giving_still : (place : ℕ) (g : Option Giving) → (after_give_progress a place g None ≡ a) × (after_give_progress a place g (Some progress.NotYet) ≡ a)
  giving_still place None = (refl, refl)
  giving_still place (Some g) = (refl, refl)

  back_still : (v : Option Return) → (after_back_progress a v None ≡ a) × (after_back_progress a v (Some progress.NotYet) ≡ a) × ((o : Objective) → after_back_progress a v (Some (progress.Turn o)) ≡ a)
  back_still None = (refl, refl, λ o. refl)
  back_still (Some v) = (refl, refl, λ o. refl)

  -- where the poll is of the session of the agent's want
  module _ (h : Handle) (next : IsNext a (duty.Want h)) (wants : want_session a.want ≡ Some h) where
    want_polled : (ans : ApiAnswer) (f : PollFacts n 1 h ans after) → Told f.session ans → OwnAreDuties after (after_reply a (reply.Api ans))
    want_polled ans f (inl (o, e, is)) =
        let b = after_reply a (reply.Api ans) in
        let m : Effect a (finishes h o) b = moves_are_made a (reply.Api ans) (finishes h o) kept (next, told_of ans (progress.Ended o) is) in
        polled_gone b h ans f o e (λ l other. duty_by a b l (λ q. apart_from h l other (sym wants ∙ q)) (back_stays a b l m.2) (entry_stays a b l m.1))
    want_polled ans f (inr (inl (is, same))) =
        let b = after_reply a (reply.Api ans) in
        let m : Effect a (considers h (peer_offer f.session.view)) b = moves_are_made a (reply.Api ans) (considers h (peer_offer f.session.view)) kept (next, told_of ans (progress.Turn (peer_offer f.session.view)) is) in
        unmoved b same (same_stay a b m.2.0 m.3 m.1)
    want_polled ans f (inr (inr (is, same))) = polled_still (duty.Want h) next ans progress.NotYet is same (want_still a.want h).1

    want_called : (r : Reply) → Calls n 1 (call.Poll h) r after → OwnAreDuties after (after_reply a r)
    want_called (reply.Api ans) t = let f = facts h ans t.0 t.1 in want_polled ans f (told h ans f)
    want_called (reply.Refused x) t = duty_refused (duty.Want h) next x t.1 (want_still a.want h).0
    want_called _ t = absurd t

  -- where it is of the session of the agent's return
  module _ (h : Handle) (next : IsNext a (duty.Return h)) (sent : back_session a.back ≡ Some h) where
    back_polled : (ans : ApiAnswer) (f : PollFacts n 1 h ans after) → Told f.session ans → OwnAreDuties after (after_reply a (reply.Api ans))
    back_polled ans f (inl (o, e, is)) =
        let b = after_reply a (reply.Api ans) in
        let m : Effect a (hears h o) b = moves_are_made a (reply.Api ans) (hears h o) kept (next, told_of ans (progress.Ended o) is) in
        polled_gone b h ans f o e (λ l other. duty_by a b l (want_stays a b l m.1.0) (λ q. apart_from h l other (sym sent ∙ q)) (entry_stays a b l m.0))
    back_polled ans f (inr (inl (is, same))) = polled_still (duty.Return h) next ans (progress.Turn (peer_offer f.session.view)) is same ((back_still a.back).2 (peer_offer f.session.view))
    back_polled ans f (inr (inr (is, same))) = polled_still (duty.Return h) next ans progress.NotYet is same (back_still a.back).1

    back_called : (r : Reply) → Calls n 1 (call.Poll h) r after → OwnAreDuties after (after_reply a r)
    back_called (reply.Api ans) t = let f = facts h ans t.0 t.1 in back_polled ans f (told h ans f)
    back_called (reply.Refused x) t = duty_refused (duty.Return h) next x t.1 (back_still a.back).0
    back_called _ t = absurd t

  -- where it is of the session of an entry
  module _ (place : ℕ) (g : Giving) (next : IsNext a (duty.Give place g.handle)) (here : slice_get a.giving place ≡ Some g) where
    same_handle_there : (c : GiverDecision) → (deciding g c).handle ≡ g.handle
    same_handle_there (giver.Offer p) = refl
    same_handle_there (giver.Accept p) = refl
    same_handle_there (giver.Decline reason) = refl

    -- an entry of another place is another entry, and stays
    other_entry : (b : AgentState) (l : Handle) → l.place ≢ g.handle.place → b.giving ≡ removed a.giving place → IsEntrys a l → IsDuty b l
    other_entry b l other gone i =
        let differ : i.place ≢ place = λ e. other (ap (λ (x : Handle). x.place) (sym (ap (λ (x : Giving). x.handle) (same_Some g i.entry (sym here ∙ (ap (slice_get a.giving) (sym e) ∙ i.at))) ∙ i.handle))) in
        let t = stays_there a.giving place i.place i.entry differ i.at in
        inr (inr (record { place = t.0; entry = i.entry; at = ap (λ (x : List Giving). slice_get x t.0) gone ∙ t.1; handle = i.handle }))

    give_polled : (ans : ApiAnswer) (f : PollFacts n 1 g.handle ans after) → Told f.session ans → OwnAreDuties after (after_reply a (reply.Api ans))
    give_polled ans f (inl (o, e, is)) =
        let b = after_reply a (reply.Api ans) in
        let m : Effect a (leaves place g o) b = moves_are_made a (reply.Api ans) (leaves place g o) kept (next, here, told_of ans (progress.Ended o) is) in
        polled_gone b g.handle ans f o e (λ l other. duty_by a b l (want_stays a b l m.0.0) (back_stays a b l m.1) (other_entry b l other m.4))
    give_polled ans f (inr (inl (is, same))) =
        let b = after_reply a (reply.Api ans) in
        let m : Effect a (gives place g (peer_offer f.session.view)) b
        = moves_are_made a (reply.Api ans) (gives place g (peer_offer f.session.view)) kept (next, here, told_of ans (progress.Turn (peer_offer f.session.view)) is) in
        unmoved b same (slot_stays a b place g (deciding g m.2.decision) m.0.0 m.1 here (same_handle_there m.2.decision) m.2.giving)
    give_polled ans f (inr (inr (is, same))) = polled_still (duty.Give place g.handle) next ans progress.NotYet is same (giving_still place (slice_get a.giving place)).1

    give_called : (r : Reply) → Calls n 1 (call.Poll g.handle) r after → OwnAreDuties after (after_reply a r)
    give_called (reply.Api ans) t = let f = facts g.handle ans t.0 t.1 in give_polled ans f (told g.handle ans f)
    give_called (reply.Refused x) t = duty_refused (duty.Give place g.handle) next x t.1 (giving_still place (slice_get a.giving place)).0
    give_called _ t = absurd t

  -- ---- the call that is next

  by_next : (c : Call) → NextIs a c → (r : Reply) → Calls n 1 c r after → OwnAreDuties after (after_reply a r)
  by_next _ (opens shut) r t = absurd (false≢true (sym shut ∙ serves))
  by_next _ (acts c serving is) r t = act_called c is r t
  by_next _ (requests w next is none) r t = asks w next is none r t
  by_next _ (hands_back v next is none) r t = hands_over v next is none r t
  by_next _ (does duty.Listen next is) r t = listen_called next r t
  by_next _ (does (duty.Want h) next is) r t = want_called h next is r t
  by_next _ (does (duty.Return h) next is) r t = back_called h next is r t
  by_next _ (does (duty.Give place h) next is) r t =
      give_called place is.0 (subst (λ x. IsNext a (duty.Give place x)) (sym is.2) next) is.1 r (subst (λ x. Calls n 1 (call.Poll x) r after) (sym is.2) t)

  pub attended : (r : Reply) → Calls n 1 (next_call a) r after → OwnAreDuties after (after_reply a r)
  attended = by_next (next_call a) (next_calls_are a)
