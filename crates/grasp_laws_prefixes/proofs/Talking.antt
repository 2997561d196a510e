-- An acceptance on the stream of an offer is that of a session of agent 1.
use Rattle.std.proofs.Common.{◌≡◌, ◌≢◌, refl, sym, ap, ◌∙◌, subst, ℕ, ◌||◌, ◌&&◌, Bool, true, false, cond, inl, inr, ◌⊎◌, List, [], ◌∷◌, Option, Some, None, slice_get}
use Rattle.std.proofs.lemmas.Bool.{true≢false, cases_eq}
use Rattle.std.proofs.lemmas.Option.{same_Some}
use Rattle.std.specs.List.{list_any}
use Rattle.grasp_agent.specs.Calls.{objective_name}
use Rattle.grasp_session.specs.Conversation.{Said, strip, requested, spoken}
use Rattle.grasp_session.specs.Laws.{IsView, IsSilent}
use Rattle.grasp_session.specs.Made.{AreFresh}
use Rattle.grasp_session.specs.Messages.{Side, other, is_side, is_acceptance}
use Rattle.grasp_session.specs.Runs.{WasMade}
use Rattle.grasp_session.specs.Sessions.{SessionState}
use Rattle.grasp_session.specs.Talk.{Stage, party}
use Rattle.grasp_session.specs.Transcript.{request_of}
use Rattle.grasp_types.specs.declared.message.Message.{Message}
use Rattle.grasp_types.specs.declared.objective.Objective.{Objective}
use Rattle.grasp_types.specs.declared.session.Kind.TheVariants.{Negotiation}
use Rattle.grasp_laws_network.specs.Authorities.{IsOpenTalk}
use Rattle.grasp_model_network.specs.Accepting.{has_accepted, is_accepted, is_return, offering_by, offering_side}
use Rattle.grasp_model_network.specs.Runs.{IsReached}
use Rattle.grasp_model_network.specs.Setting.{Setting}
use Rattle.grasp_model_network.specs.Streams.{StreamEnd, StreamState, end_at}
use Rattle.grasp_laws_network.specs.Views.{has_ended, stage_by, session_of_end, view_at, view_in}
use Rattle.grasp_model_network.specs.World.{Seat, WorldState, seat_at, end_of}
use Rattle.grasp_laws_agents.proofs.GoingOn.{heard_alike}
use Rattle.grasp_laws_agents.specs.Giving.{IsOffering}
use Rattle.grasp_laws_agents.specs.GoingOn.{OnlyHeard}
use Rattle.grasp_laws_negotiation.specs.Streams.{HasItsStream}
use Rattle.grasp_laws_delivery.proofs.Worlds.{reached_in_order}
use Rattle.grasp_laws_negotiation.specs.Negotiations.{IsNegotiation, IsTalk}
use Rattle.grasp_laws_prefixes.proofs.OwnSessions.{IsSessionAt, session_there, IsTalkOf, talk_of}
use Rattle.grasp_laws_prefixes.proofs.Places.{end_stays, same_place}
use Rattle.grasp_laws_prefixes.proofs.Speech.{same_requested}
use Rattle.grasp_laws_prefixes.proofs.Standing.{IsEndAt, Stays, AllStay, WorldGoesOn}
use Rattle.grasp_laws_prefixes.specs.Grounds.{Grounds}
use Rattle.grasp_laws_prefixes.proofs.Speaking.{HasAccepted, accepts, accepted_back, fresh_accepts}

-- ---- what a side has said

-- a side has accepted exactly if one of its messages is an acceptance
spoken_accepts : (side : Side) (c : List Said) → has_accepted side c ≡ list_any is_acceptance (spoken side c)
spoken_accepts side [] = refl
spoken_accepts side (x ∷ c) = by_side (is_side side x.side) (spoken_accepts side c) where
  by_side : (b : Bool) → has_accepted side c ≡ list_any is_acceptance (spoken side c)
      → ((b && is_acceptance x.message) || has_accepted side c) ≡ list_any is_acceptance (cond b (x.message ∷ spoken side c) (spoken side c))
  by_side true e = ap (λ r. is_acceptance x.message || r) e
  by_side false e = e

-- ---- the stream of an offer

-- a session of agent 1 at this side of a negotiation of PrefixManager, the offering one, with its stream at this place
pub record IsGiver (w : WorldState) (node : ℕ) (seat : Seat) (side : Side) (place : ℕ) (x : SessionState) : Type 0 where
  pub made : WasMade seat.core.sessions x
  pub owner : x.owner ≡ 1
  pub role : x.view.role ≡ side
  pub kind : x.view.kind ≡ Negotiation
  pub name : (request_of x.view).name ≡ objective_name
  pub offering : IsOffering x.view
  pub at : IsEndAt w.streams place side (end_of node x.stream)

-- where its end has only heard, a session is one still
pub giver_on : (w y : WorldState) → AllStay w.streams y.streams → (node : ℕ) (seat new : Seat) → (side : Side) (place : ℕ) (x z : SessionState) → OnlyHeard x z
    → WasMade new.core.sessions z → IsGiver w node seat side place x → IsGiver y node new side place z
giver_on w y stay node seat new side place x z over made g =
    let alike = heard_alike x.view z.view over.view in
    record {
      made = made;
      owner = over.owner ∙ g.owner;
      role = alike.role ∙ g.role;
      kind = alike.kind ∙ g.kind;
      name = ap (λ (o : Objective). o.name) alike.request ∙ g.name;
      offering = ap (λ (o : Objective). offering_by (is_return o.value)) alike.request ∙ (g.offering ∙ sym alike.role);
      at = subst (λ e. IsEndAt y.streams place side e) (sym (ap (end_of node) over.stream))
          (end_stays w.streams y.streams stay place side (end_of node x.stream) g.at);
    }

-- the negotiation for which the offer is listed, as this session at its offering side saw it
pub record GivesAt (w : WorldState) (place : ℕ) (side : Side) (x : SessionState) : Type 0 where
  pub talk : StreamState
  pub stands : slice_get w.streams place ≡ Some talk
  pub negotiation : IsNegotiation talk
  pub offering : offering_side talk ≡ side
  pub saw : view_at w talk side ≡ Some x.view
  pub view : IsView side talk.said x.view
  pub name : (requested (strip talk.said)).name ≡ objective_name

module _ (l : Grounds) (s : Setting) (w : WorldState) (r : IsReached s w) where
  pub gives_at : (node : ℕ) (seat : Seat) → seat_at w node ≡ Some seat → (side : Side) (place : ℕ) (x : SessionState) → IsGiver w node seat side place x → GivesAt w place side x
  gives_at node seat here side place x g = from (talk_of l.streams s w r node seat here x g.made side g.role g.kind) where
    from : IsTalkOf w node x side → GivesAt w place side x
    from t =
        let same : t.place ≡ place = same_place l.ready s w r (end_of node x.stream) t.place place t.talk g.at.talk side side t.stands t.ends g.at.stands g.at.end_is in
        let view : IsView side t.talk.said x.view = (l.known s w r t.place t.talk t.stands t.negotiation).views side x.view t.saw in
        record {
          talk = t.talk;
          stands = ap (λ k. slice_get w.streams k) (sym same) ∙ t.stands;
          negotiation = t.negotiation;
          offering = ap (λ (o : Objective). offering_by (is_return o.value)) (sym (same_requested t.talk.said) ∙ sym view.same_request) ∙ (g.offering ∙ g.role);
          saw = t.saw;
          view = view;
          name = ap (λ (o : Objective). o.name) (sym view.same_request) ∙ g.name;
        }

-- ---- who accepts

-- a session of agent 1 has accepted at this side of the stream
pub record AcceptedBy (w : WorldState) (side : Side) (t : StreamState) : Type 0 where
  pub node : ℕ
  pub seat : Seat
  pub here : seat_at w node ≡ Some seat
  pub stream : ℕ
  pub ends : end_at t side ≡ Some (end_of node stream)
  pub accepted : HasAccepted seat.core.sessions side stream

-- where no agent did anything, one that has accepted had so before
pub quiet_accepted : (w y : WorldState) → WorldGoesOn w y → (side : Side) (u : StreamState) → AcceptedBy y side u → AcceptedBy w side u
quiet_accepted w y g side u a =
    let b = g.seats a.node a.seat a.here in
    record {
      node = a.node;
      seat = b.0;
      here = b.1;
      stream = a.stream;
      ends = a.ends;
      accepted = accepted_back b.0.core.sessions a.seat.core.sessions b.2.sessions side a.stream a.accepted;
    }

module _ (l : Grounds) (s : Setting) (w : WorldState) (r : IsReached s w) (place : ℕ) (t : StreamState) (stands : slice_get w.streams place ≡ Some t)
    (negotiation : IsNegotiation t) (name : (requested (strip t.said)).name ≡ objective_name) (side : Side) (accepted : has_accepted side t.said ≡ true) where
  says_it : list_any is_acceptance (spoken side t.said) ≡ true
  says_it = sym (spoken_accepts side t.said) ∙ accepted

  says_not : (ms : List Message) → spoken side t.said ≡ ms → list_any is_acceptance ms ≡ false → ⊥
  says_not ms e none = true≢false (sym says_it ∙ (ap (list_any is_acceptance) e ∙ none))

  module _ (e : StreamEnd) (at : end_at t side ≡ Some e) (x : SessionState) (found : session_of_end w (Some e) ≡ Some x) where
    there : IsSessionAt w e x
    there = session_there w e x found

    view : IsView side t.said x.view
    view = (l.known s w r place t stands negotiation).views side x.view (ap (λ o. view_in (session_of_end w o)) at ∙ ap view_in found)

    said : accepts x.view ≡ true
    said = ap (list_any is_acceptance) (sym view.own) ∙ says_it

    -- in a session of another agent another objective is negotiated, and in one that no agent has taken nothing is accepted
    by_owner : (x.owner ≢ 0 → x.owner ≢ 1 → (request_of x.view).name ≢ objective_name) → (x.owner ≡ 0 → accepts x.view ≡ false) → x.owner ≡ 1
    by_owner foreign untaken = by_case (cases_eq x.owner 1) (cases_eq x.owner 0) where
      by_case : (x.owner ≡ 1) ⊎ (x.owner ≡ 1 → ⊥) → (x.owner ≡ 0) ⊎ (x.owner ≡ 0 → ⊥) → x.owner ≡ 1
      by_case (inl own) u = own
      by_case (inr differs) (inl none) = absurd (true≢false (sym said ∙ untaken none))
      by_case (inr differs) (inr taken) = absurd (foreign taken differs (ap (λ (o : Objective). o.name) view.same_request ∙ name))

    owner : WasMade there.seat.core.sessions x → x.owner ≡ 1
    owner (inl live) = by_owner (l.owned s w r e.node there.seat there.here live.0 x live.1).foreign (λ none. fresh_accepts x.view (fresh live.0 x live.1 none)) where
      fresh : AreFresh there.seat.core.sessions
      fresh = ((reached_in_order l.ties s w r).sound e.node there.seat there.here).1.fresh
    owner (inr gone) = let owned = l.gone_owned s w r e.node there.seat there.here x gone in by_owner owned.foreign owned.unaccepted

    by_session : AcceptedBy w side t
    by_session = record {
      node = e.node;
      seat = there.seat;
      here = there.here;
      stream = x.stream;
      ends = at ∙ ap (λ k. Some k) there.end_is;
      accepted = record {
        session = x;
        made = there.made;
        owner = owner there.made;
        role = view.role;
        on = refl;
        said = said;
      };
    }

  by_ended : (b : Bool) → IsSilent side t.said (cond b Stage.Refused Stage.Absent) → ⊥
  by_ended true h = says_not _ h.2 refl
  by_ended false h = says_not [] h refl

  by_found : (e : StreamEnd) → end_at t side ≡ Some e → (o : Option SessionState) → session_of_end w (Some e) ≡ o → IsSilent side t.said (stage_by t side o) → AcceptedBy w side t
  by_found e at None found h = absurd (by_ended (has_ended side t.said) h)
  by_found e at (Some x) found h = by_session e at x found

  by_end : (o : Option StreamEnd) → end_at t side ≡ o → IsSilent side t.said (stage_by t side (session_of_end w o)) → AcceptedBy w side t
  by_end None at h = absurd (by_ended (has_ended side t.said) h)
  by_end (Some e) at h = by_found e at (session_of_end w (Some e)) refl h

  pub accepted_by : AcceptedBy w side t
  accepted_by = from (l.negotiations s w r place t stands negotiation) where
    from : IsTalk w t → AcceptedBy w side t
    from k =
        by_end (end_at t side) refl
        (subst (λ g. IsSilent side t.said g) (k.stages side) (subst (λ (c : List Said). IsSilent side c (party k.talk side).stage) k.said (l.unseen k.talk k.reached side)))

-- ---- where nobody accepts

-- the offer of a stream may be accepted still, or a session of agent 1 has accepted it
pub open_or : (l : Grounds) (s : Setting) (y : WorldState) → IsReached s y → (place : ℕ) (side : Side) (z : SessionState) → (now : GivesAt y place side z)
    → IsOpenTalk y.streams place ⊎ AcceptedBy y (other side) now.talk
open_or l s y q place side z now = by_test (is_accepted now.talk) refl where
  by_test : (b : Bool) → is_accepted now.talk ≡ b → IsOpenTalk y.streams place ⊎ AcceptedBy y (other side) now.talk
  by_test false is = inl (record { talk = now.talk; here = now.stands; open_still = is })
  by_test true is =
      inr (accepted_by l s y q place now.talk now.stands now.negotiation now.name (other side) (ap (λ k. has_accepted (other k) now.talk.said) (sym now.offering) ∙ is))

module _ (l : Grounds) (s : Setting) (w y : WorldState) (r : IsReached s w) (q : IsReached s y) (stay : AllStay w.streams y.streams) where
  -- the stream at this place, where a session of agent 1 had accepted at this side of it, was at this place
  pub stream_was : (place : ℕ) (u : StreamState) → slice_get y.streams place ≡ Some u → (side : Side) → (a : AcceptedBy w side u)
      → (k : HasItsStream w a.node a.accepted.session) × (k.side ≡ side) × (k.place ≡ place)
  stream_was place u now side a = from (l.streams.each s w r a.node a.seat a.here a.accepted.session a.accepted.made) where
    from : HasItsStream w a.node a.accepted.session → (k : HasItsStream w a.node a.accepted.session) × (k.side ≡ side) × (k.place ≡ place)
    from k =
        let later : Stays y.streams k.place k.talk = stay k.place k.talk k.stands in (
          k,
          sym k.role ∙ a.accepted.role,
          same_place l.ready s y q (end_of a.node a.accepted.session.stream) k.place place later.after u k.side side later.stands
              (later.ends k.side (end_of a.node a.accepted.session.stream) k.ends) now (a.ends ∙ ap (λ n. Some (end_of a.node n)) (sym a.accepted.on)),
        )

  -- and there the side had accepted
  pub side_accepted : (place : ℕ) (t u : StreamState) → slice_get w.streams place ≡ Some t → IsNegotiation t → slice_get y.streams place ≡ Some u → (side : Side) → AcceptedBy w side u → has_accepted side t.said ≡ true
  side_accepted place t u stands negotiation now side a =
      let k = stream_was place u now side a in
      let same : k.0.talk ≡ t = same_Some k.0.talk t (sym k.0.stands ∙ (ap (λ n. slice_get w.streams n) k.2 ∙ stands)) in
      let saw : view_at w t side ≡ Some a.accepted.session.view =
      ap (λ (z : StreamState). view_at w z side) (sym same) ∙ (ap (λ i. view_at w k.0.talk i) (sym k.1) ∙ ap view_in k.0.found) in
      let view : IsView side t.said a.accepted.session.view = (l.known s w r place t stands negotiation).views side a.accepted.session.view saw in
      spoken_accepts side t.said ∙ (ap (list_any is_acceptance) view.own ∙ a.accepted.said)

  -- a stream on which the taking side hadn't accepted: it hasn't still, where a session that has accepted had so before
  pub open_on : {T : Type 0} (place : ℕ) (side : Side) (x z : SessionState) → GivesAt w place side x → (now : GivesAt y place side z) → IsOpenTalk w.streams place
      → (AcceptedBy y (other side) now.talk → AcceptedBy w (other side) now.talk ⊎ T) → IsOpenTalk y.streams place ⊎ T
  open_on {T} place side x z before now is_open step = by_case (open_or l s y q place side z now) where
    was_open : has_accepted (other side) before.talk.said ≡ false
    was_open =
        ap (λ k. has_accepted (other k) before.talk.said) (sym before.offering)
        ∙ (ap (λ (t : StreamState). is_accepted t) (same_Some before.talk is_open.talk (sym before.stands ∙ is_open.here)) ∙ is_open.open_still)

    by_old : AcceptedBy w (other side) now.talk ⊎ T → IsOpenTalk y.streams place ⊎ T
    by_old (inl a) = absurd (true≢false (sym (side_accepted place before.talk now.talk before.stands before.negotiation now.stands (other side) a) ∙ was_open))
    by_old (inr t) = inr t

    by_case : IsOpenTalk y.streams place ⊎ AcceptedBy y (other side) now.talk → IsOpenTalk y.streams place ⊎ T
    by_case (inl is_open) = inl is_open
    by_case (inr e) = by_old (step e)
