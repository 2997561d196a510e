-- A poll that tells an outcome tells that of a live session, which leaves with it.
use Rattle.std.proofs.Common.{◌≡◌, refl, sym, ap, ◌∙◌, subst, arith, ℕ, zero, suc, ◌==◌, Bool, true, false, cond, List, [], ◌∷◌, ◌⊎◌, inl, inr, Option, Some, None, Ok, slice_set, slice_index_or}
use Rattle.std.proofs.lemmas.Bool.{eq-eqb, eqb-true}
use Rattle.std.proofs.lemmas.Option.{none-some, same_Some}
use Rattle.grasp_laws_agents.proofs.Places.{owned_at}
use Rattle.grasp_laws_node.proofs.Beginning.{sessions_time_out}
use Rattle.grasp_model_node.specs.Begin.{begin}
use Rattle.grasp_laws_node.specs.Beginnings.{IsDue, TimesOut, timed_out}
use Rattle.grasp_model_node.specs.BoundedNodes.{IsBoundedNode}
use Rattle.grasp_model_node.specs.Streams.{past_of}
use Rattle.grasp_session.specs.Says.{IsAt}
use Rattle.grasp_laws_network.proofs.EachNode.{nodes_are_sound}
use Rattle.grasp_laws_network.proofs.Here.{visits_are_here}
use Rattle.grasp_laws_node.specs.Means.{PollMeans, PollFacts}
use Rattle.grasp_model_node.specs.Node.{NodeState}
use Rattle.grasp_model_node.specs.SessionCalls.{after_polling}
use Rattle.grasp_model_node.specs.Step.{Coming, NodeStep}
use Rattle.grasp_session.specs.Sessions.{SessionState, Sessions, if_number, if_owner, is_leaving, left, session_at, session_owned, with_transcript}
use Rattle.grasp_session.specs.Transcript.{Expired, is_mine, outcome_of, peer_offer, with_mark}
use Rattle.grasp_types.specs.declared.call.Call.TheVariants as call
use Rattle.grasp_types.specs.declared.reply.ApiAnswer.TheVariants as answer
use Rattle.grasp_types.specs.declared.reply.Reply.{Reply}
use Rattle.grasp_types.specs.declared.reply.Reply.TheVariants as reply
use Rattle.grasp_types.specs.declared.session.Handle.{Handle}
use Rattle.grasp_types.specs.declared.session.Outcome.{Outcome}
use Rattle.grasp_types.specs.declared.session.Progress.TheVariants as progress
use Rattle.grasp_types.specs.declared.traffic.Input.{Input}
use Rattle.grasp_types.specs.declared.traffic.Input.TheVariants as input
use Rattle.grasp_model_network.specs.Visits.{VisitStep, MayCome}
use Rattle.grasp_laws_reports.specs.Laws.{PollsTellOutcomes}
use Rattle.grasp_laws_reports.specs.Outcomes.{IsOver, WasLive, WasTold}

-- ---- handles

owned_there : (owner : ℕ) (o : Option SessionState) (x : SessionState) → if_owner (λ y. y.owner) owner o ≡ Some x → (o ≡ Some x) × (x.owner ≡ owner)
owned_there owner None x e = absurd (none-some x e)
owned_there owner (Some y) x e = by_test (y.owner == owner) refl e where
  by_test : (b : Bool) → (y.owner == owner) ≡ b → cond b (Some y) None ≡ Some x → (Some y ≡ Some x) × (x.owner ≡ owner)
  by_test true is f = (f, subst (λ (z : SessionState). z.owner ≡ owner) (same_Some y x f) (eqb-true y.owner owner is))
  by_test false is f = absurd (none-some x f)

numbered_there : (number : ℕ) (o : Option SessionState) (x : SessionState) → if_number (λ y. y.number) number o ≡ Some x → (o ≡ Some x) × (x.number ≡ number)
numbered_there number None x e = absurd (none-some x e)
numbered_there number (Some y) x e = by_test (y.number == number) refl e where
  by_test : (b : Bool) → (y.number == number) ≡ b → cond b (Some y) None ≡ Some x → (Some y ≡ Some x) × (x.number ≡ number)
  by_test true is f = (f, subst (λ (z : SessionState). z.number ≡ number) (same_Some y x f) (eqb-true y.number number is))
  by_test false is f = absurd (none-some x f)

-- a live session is at the place of its handle, and has its number
pub at_handle : (z : Sessions) (h : Handle) (x : SessionState) → session_at z h ≡ Some x → (slice_index_or z.places h.place None ≡ Some x) × (x.number ≡ h.number)
at_handle z h x e = numbered_there h.number (slice_index_or z.places h.place None) x e

-- the session of the step's beginning was live before it
was_live : (n : NodeState) (now asa : ℕ) (h : Handle) (x : SessionState) → IsBoundedNode n → session_owned (begin n now).sessions asa h ≡ Some x → WasLive n now asa h x
was_live n now asa h x i e = by_slot (slice_index_or n.sessions.places h.place None) refl where
  out : TimesOut n (begin n now)
  out = sessions_time_out n now i

  at : slice_index_or (begin n now).sessions.places h.place None ≡ Some x
  at = (at_handle (begin n now).sessions h x (owned_at (begin n now).sessions asa h x e)).0

  number : x.number ≡ h.number
  number = (at_handle (begin n now).sessions h x (owned_at (begin n now).sessions asa h x e)).1

  owner : x.owner ≡ asa
  owner = (owned_there asa (session_at (begin n now).sessions h) x e).1

  own : (y : SessionState) → slice_index_or n.sessions.places h.place None ≡ Some y → y.number ≡ h.number → y.owner ≡ asa → session_owned n.sessions asa h ≡ Some y
  own y slot a b =
      ap (λ o. if_owner (λ (z : SessionState). z.owner) asa (if_number (λ (z : SessionState). z.number) h.number o)) slot
      ∙ (ap (λ c. if_owner (λ (z : SessionState). z.owner) asa (cond c (Some y) None)) (eq-eqb y.number h.number a) ∙ ap (λ c. cond c (Some y) None) (eq-eqb y.owner asa b))

  timed : (y : SessionState) (b : Bool) → Some x ≡ cond b None (Some y) → x ≡ y
  timed y true f = absurd (none-some x (sym f))
  timed y false f = same_Some x y f

  by_slot : (o : Option SessionState) → slice_index_or n.sessions.places h.place None ≡ o → WasLive n now asa h x
  by_slot None slot = absurd (none-some x (sym (out.empty h.place slot) ∙ at))
  by_slot (Some y) slot = by_each (out.each h.place y slot) where
    by_each : IsAt (begin n now).sessions h.place y
        ⊎ (IsDue (begin n now).reading y × (slice_index_or (begin n now).sessions.places h.place None ≡ timed_out (begin n now).reading y) × (past_of (begin n now).streams y.stream ≡ None))
        → WasLive n now asa h x
    by_each (inl stays) =
        let same : x ≡ y = same_Some x y (sym at ∙ stays) in record {
          before = y;
          owned = own y slot (ap (λ (z : SessionState). z.number) (sym same) ∙ number) (ap (λ (z : SessionState). z.owner) (sym same) ∙ owner);
          same = inl same;
        }
    by_each (inr d) =
        let same : x ≡ with_transcript y (with_mark y.view (Expired (begin n now).reading)) =
        timed (with_transcript y (with_mark y.view (Expired (begin n now).reading))) (is_leaving (with_transcript y (with_mark y.view (Expired (begin n now).reading)))) (sym at ∙ d.1) in record {
          before = y;
          owned = own y slot (ap (λ (z : SessionState). z.number) (sym same) ∙ number) (ap (λ (z : SessionState). z.owner) (sym same) ∙ owner);
          same = inr (d.0, same);
        }

-- ---- a session that has left

emptied : (places : List (Option SessionState)) (place : ℕ) → slice_index_or (slice_set places place None) place None ≡ None
emptied [] place = refl
emptied (x ∷ places) zero = refl
emptied (x ∷ places) (suc place) = emptied places place

left_over : (z : Sessions) (h : Handle) (x : SessionState) → IsOver (left z h x) h x
left_over z h x = record {
  gone = (0, omega arith, refl);
  none_live = ap (λ o. if_number (λ (y : SessionState). y.number) h.number o) (emptied z.places h.place);
}

-- ---- what was told

ended_same : (o p : Outcome) → answer.Polled (progress.Ended o) ≡ answer.Polled (progress.Ended p) → p ≡ o
ended_same o p e = cc

module _ (n after : NodeState) (asa : ℕ) (h : Handle) (o : Outcome) (leads : after ≡ after_polling n h (Ok (answer.Polled (progress.Ended o))))
    (f : PollFacts n asa h (answer.Polled (progress.Ended o)) (after_polling n h (Ok (answer.Polled (progress.Ended o))))) where
  record Tells : Type 0 where
    pub outcome : outcome_of f.session.view ≡ Some o
    pub over : IsOver after.sessions h f.session

  tells : Tells
  tells = by_outcome (outcome_of f.session.view) refl where
    by_turn : outcome_of f.session.view ≡ None → (b : Bool) → is_mine f.session.view ≡ b → Tells
    by_turn none true is = let t : answer.Polled (progress.Ended o) ≡ answer.Polled (progress.Turn (peer_offer f.session.view)) = (f.turn none is).0 in absurd (cc)
    by_turn none false is = let t : answer.Polled (progress.Ended o) ≡ answer.Polled progress.NotYet = (f.waiting none is).0 in absurd (cc)

    by_outcome : (p : Option Outcome) → outcome_of f.session.view ≡ p → Tells
    by_outcome None is = by_turn is (is_mine f.session.view) refl
    by_outcome (Some p) is = record {
      outcome = is ∙ ap (λ (q : Outcome). Some q) (ended_same o p (f.ended p is).0);
      over = subst (λ (m : NodeState). IsOver m.sessions h f.session) (sym (leads ∙ (f.ended p is).1)) (left_over n.sessions h f.session);
    }

told : PollMeans → (n after : NodeState) (now asa : ℕ) (h : Handle) (o : Outcome) (x : Coming) → IsBoundedNode n → NodeStep n now (input.Api asa (call.Poll h)) x (reply.Api (answer.Polled (progress.Ended o))) after
    → WasTold n after now asa h o
told means n after now asa h o x i step = made (means (begin n now) asa h (answer.Polled (progress.Ended o)) step.acts.0) where
  made : PollFacts (begin n now) asa h (answer.Polled (progress.Ended o)) (after_polling (begin n now) h (Ok (answer.Polled (progress.Ended o)))) → WasTold n after now asa h o
  made f = let t = tells (begin n now) after asa h o step.acts.1 f in record {
    session = f.session;
    holds = f.holds;
    was = was_live n now asa h f.session i f.holds.owned;
    numbered = (at_handle (begin n now).sessions h f.session (owned_at (begin n now).sessions asa h f.session f.holds.owned)).1;
    outcome = t.outcome;
    over = t.over;
  }

pub polls_tell_outcomes : PollMeans → PollsTellOutcomes
polls_tell_outcomes means s w r e c v asa h o t =
    let came : VisitStep v c = subst (λ z. MayCome z c) t.visits t.occurs.comes in
    told means v.seat.core c.after v.now asa h o c.coming (nodes_are_sound.sound s w r v.node v.seat (visits_are_here s w e v t.visits).stands)
    (subst (λ (i : Input). NodeStep v.seat.core v.now i c.coming (reply.Api (answer.Polled (progress.Ended o))) c.after) t.polls
    (subst (λ (q : Reply). NodeStep v.seat.core v.now v.input c.coming q c.after) t.tells came.steps))
