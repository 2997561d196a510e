-- Who may still act on a stream: a live session there that goes on. On that of an offer it is one of agent 1, which asked there.
use Rattle.std.proofs.Common.{◌≡◌, refl, sym, ap, ◌∙◌, ℕ, Bool, true, false, cond, not, ◌&&◌, inl, inr, ◌⊎◌, List, [], ◌∷◌, Option, Some, None, is_none, slice_get, slice_index_or}
use Rattle.std.proofs.lemmas.Bool.{true≢false, false≢true, cases_eq, not-true}
use Rattle.std.proofs.lemmas.Option.{none-some, same_Some}
use Rattle.grasp_agent.specs.Calls.{objective_name}
use Rattle.grasp_laws_node.proofs.Beginning.{sessions_time_out}
use Rattle.grasp_laws_node.specs.Beginnings.{IsDue, TimesOut, timed_out}
use Rattle.grasp_model_node.specs.Begin.{begin}
use Rattle.grasp_model_node.specs.BoundedNodes.{IsBoundedNode}
use Rattle.grasp_model_node.specs.Node.{NodeState}
use Rattle.grasp_model_node.specs.Streams.{past_of}
use Rattle.grasp_session.specs.Conversation.{requested}
use Rattle.grasp_session.specs.Laws.{IsView}
use Rattle.grasp_session.specs.Made.{AreFresh}
use Rattle.grasp_session.specs.Messages.{Near, Far, is_last}
use Rattle.grasp_session.specs.Says.{IsAt}
use Rattle.grasp_session.specs.Sessions.{SessionState, Sessions, is_leaving, with_transcript}
use Rattle.grasp_session.specs.Transcript.{Transcript, Entry, Mark, Expired, is_going, is_over, outcome_of, entries_outcome, mark_outcome, message_outcome, request_of, with_mark}
use Rattle.grasp_types.specs.declared.message.Message.{Message}
use Rattle.grasp_types.specs.declared.message.Message.TheVariants.{End, Synch, Invalid}
use Rattle.grasp_types.specs.declared.objective.Objective.{Objective}
use Rattle.grasp_laws_network.specs.Views.{view_at, view_in}
use Rattle.grasp_model_network.specs.Runs.{IsReached}
use Rattle.grasp_model_network.specs.Setting.{Setting}
use Rattle.grasp_model_network.specs.Settling.{IsAsking}
use Rattle.grasp_model_network.specs.Streams.{StreamState, end_at}
use Rattle.grasp_model_network.specs.World.{Seat, WorldState, seat_at, end_of, is_present}
use Rattle.grasp_laws_agents.proofs.GoingOn.{IsHearing, hearing}
use Rattle.grasp_laws_agents.proofs.Known.{none_goes_on}
use Rattle.grasp_laws_agents.specs.GoingOn.{OwnGoOn}
use Rattle.grasp_laws_agents.specs.Owning.{IsOwned}
use Rattle.grasp_laws_delivery.proofs.FromReady.{distinct}
use Rattle.grasp_laws_delivery.proofs.Sides.{one_side}
use Rattle.grasp_laws_delivery.proofs.Worlds.{reached_in_order}
use Rattle.grasp_laws_negotiation.specs.Negotiations.{IsNegotiation}
use Rattle.grasp_laws_negotiation.specs.Streams.{HasItsStream}
use Rattle.grasp_laws_prefixes.proofs.Places.{same_place}
use Rattle.grasp_laws_prefixes.proofs.Speech.{same_requested}
use Rattle.grasp_laws_prefixes.proofs.Standing.{IsGoingOn}
use Rattle.grasp_laws_prefixes.specs.Grounds.{Grounds}

pub near_far : Near ≡ Far → ⊥
near_far e = absurd (cc)

-- ---- what goes on has no outcome

message_goes : (v : Transcript) (sent : Bool) (m : Message) → is_last m ≡ false → message_outcome v sent m ≡ None
message_goes v sent (End n d) e = absurd (true≢false e)
message_goes v sent (Synch n o) e = absurd (true≢false e)
message_goes v sent (Invalid n d) e = absurd (true≢false e)
message_goes v sent m e = refl

entries_go : (v : Transcript) (es : List Entry) → is_over es ≡ false → entries_outcome v es ≡ None
entries_go v [] e = refl
entries_go v (x ∷ es) e = message_goes v x.sent x.message e

mark_goes : (v : Transcript) (mark : Option Mark) → (is_none mark && not (is_over v.entries)) ≡ true → mark_outcome v mark ≡ None
mark_goes v None e = entries_go v v.entries (not-true (is_over v.entries) e)
mark_goes v (Some mark) e = absurd (false≢true e)

pub going_none : (v : Transcript) → is_going v ≡ true → outcome_of v ≡ None
going_none v e = mark_goes v v.mark e

-- ---- what goes on went on before

-- where this end has only heard
abbrev WentOn : Transcript → Transcript → Type 0
WentOn v w = is_going w ≡ true → is_going v ≡ true

went_hearing : IsHearing WentOn
went_hearing = record {
  same = λ v g. g;
  both = λ u v w a b g. a (b g);
  keeps = λ v now m e f g. e;
  marks = λ v mark e g. e;
}

pub heard_going : (z w : Sessions) → OwnGoOn z w → (stream : ℕ) → (g : IsGoingOn w stream) → g.session.owner ≡ 1 → IsGoingOn z stream
heard_going z w goes stream g owner =
    let b = goes.were g.place g.session g.at owner in
    record { place = g.place; session = b.0; at = b.1; on = sym b.2.stream ∙ g.on; going = hearing WentOn went_hearing b.0.view g.session.view b.2.view g.going }

-- where a step has begun
module _ (n : NodeState) (now : ℕ) (sound : IsBoundedNode n) (stream : ℕ) (g : IsGoingOn (begin n now).sessions stream) where
  times : TimesOut n (begin n now)
  times = sessions_time_out n now sound

  as_before : (x : SessionState) → IsAt n.sessions g.place x → g.session ≡ x → IsGoingOn n.sessions stream
  as_before x at same = record {
    place = g.place;
    session = x;
    at = at;
    on = ap (λ (u : SessionState). u.stream) (sym same) ∙ g.on;
    going = ap (λ (u : SessionState). is_going u.view) (sym same) ∙ g.going;
  }

  none_expired : (x : SessionState) (b : Bool) (reading : ℕ) → cond b None (Some (with_transcript x (with_mark x.view (Expired reading)))) ≡ Some g.session → ⊥
  none_expired x true reading e = none-some g.session e
  none_expired x false reading e =
      true≢false (sym g.going ∙ sym (ap (λ (u : SessionState). is_going u.view) (same_Some (with_transcript x (with_mark x.view (Expired reading))) g.session e)))

  pub begun_going : IsGoingOn n.sessions stream
  begun_going = by_slot (slice_index_or n.sessions.places g.place None) refl where
    by_each : (x : SessionState) → IsAt n.sessions g.place x → IsAt (begin n now).sessions g.place x
        ⊎ (IsDue (begin n now).reading x × (slice_index_or (begin n now).sessions.places g.place None ≡ timed_out (begin n now).reading x) × (past_of (begin n now).streams x.stream ≡ None))
        → IsGoingOn n.sessions stream
    by_each x at (inl i) = as_before x at (same_Some g.session x (sym g.at ∙ i))
    by_each x at (inr d) =
        absurd (none_expired x (is_leaving (with_transcript x (with_mark x.view (Expired (begin n now).reading)))) (begin n now).reading (sym d.1 ∙ g.at))

    by_slot : (o : Option SessionState) → slice_index_or n.sessions.places g.place None ≡ o → IsGoingOn n.sessions stream
    by_slot None e = absurd (none-some g.session (sym (times.empty g.place e) ∙ g.at))
    by_slot (Some x) e = by_each x e (times.each g.place x e)

-- ---- the side that dialled

pub is_asking : (w : WorldState) (t : StreamState) → is_present w t.near.node ≡ true → (seat : Seat) → seat_at w t.near.node ≡ Some seat → IsGoingOn seat.core.sessions t.near.number → IsAsking w t
is_asking w t present seat here g = record {
  present = present;
  seat = seat;
  here = here;
  place = g.place;
  session = g.session;
  at = g.at;
  stream = g.on;
  going = going_none g.session.view g.going;
}

abbrev pub asking_on : (w : WorldState) (t : StreamState) (a : IsAsking w t) → IsGoingOn a.seat.core.sessions t.near.number
asking_on w t a = record { place = a.place; session = a.session; at = a.at; on = a.stream; going = none_goes_on a.session.view a.going }

-- on a stream of an offer it is agent 1
module _ (l : Grounds) (s : Setting) (w : WorldState) (r : IsReached s w) (place : ℕ) (t : StreamState) (stands : slice_get w.streams place ≡ Some t) (negotiation : IsNegotiation t)
    (name : (requested t.said).name ≡ objective_name) (a : IsAsking w t) where
  near_is : t.near ≡ end_of t.near.node a.session.stream
  near_is = ap (end_of t.near.node) (sym a.stream)

  has : HasItsStream w t.near.node a.session
  has = l.streams.each s w r t.near.node a.seat a.here a.session (inl (a.place, a.at))

  end_is : end_at has.talk has.side ≡ Some t.near
  end_is = has.ends ∙ ap (λ e. Some e) (sym near_is)

  talk_is : has.talk ≡ t
  talk_is =
      same_Some has.talk t
      (sym has.stands ∙ (ap (λ n. slice_get w.streams n) (same_place l.ready s w r t.near has.place place has.talk t has.side Near has.stands end_is stands refl) ∙ stands))

  side_is : has.side ≡ Near
  side_is = one_side t t.near has.side Near (distinct l.ready s w r place t stands) (ap (λ (x : StreamState). end_at x has.side) (sym talk_is) ∙ end_is) refl

  pub asking_role : a.session.view.role ≡ Near
  asking_role = has.role ∙ side_is

  asking_view : IsView Near t.said a.session.view
  asking_view = (l.known s w r place t stands negotiation).views Near a.session.view saw where
    saw : view_at w t Near ≡ Some a.session.view
    saw = ap (λ i. view_at w t i) (sym side_is) ∙ (ap (λ (x : StreamState). view_at w x has.side) (sym talk_is) ∙ ap (λ o. view_in o) has.found)

  pub asking_owner : a.session.owner ≡ 1
  asking_owner = by_owner (cases_eq a.session.owner 1) (cases_eq a.session.owner 0) where
    owned : IsOwned a.session
    owned = l.owned s w r t.near.node a.seat a.here a.place a.session a.at

    fresh : AreFresh a.seat.core.sessions
    fresh = ((reached_in_order l.ties s w r).sound t.near.node a.seat a.here).1.fresh

    named : (request_of a.session.view).name ≡ objective_name
    named = ap (λ (o : Objective). o.name) asking_view.same_request ∙ (ap (λ (o : Objective). o.name) (same_requested t.said) ∙ name)

    by_owner : (a.session.owner ≡ 1) ⊎ (a.session.owner ≡ 1 → ⊥) → (a.session.owner ≡ 0) ⊎ (a.session.owner ≡ 0 → ⊥) → a.session.owner ≡ 1
    by_owner (inl own) u = own
    by_owner (inr differs) (inl none) = absurd (near_far (sym asking_role ∙ ap (λ (v : Transcript). v.role) (fresh a.place a.session a.at none).fresh))
    by_owner (inr differs) (inr taken) = absurd (owned.foreign taken differs named)
