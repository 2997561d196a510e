-- An acceptance on the stream of a question is that of a session of agent 2.
use Rattle.std.proofs.Common.{◌≡◌, ◌≢◌, ◌⊎◌, inl, inr, refl, sym, ap, ◌∙◌, subst, ℕ, ◌&&◌, ◌||◌, Bool, true, false, cond, List, [], ◌∷◌, Option, None, Some, slice_get}
use Rattle.std.proofs.lemmas.Bool.{cases_eq, true≢false}
use Rattle.std.proofs.lemmas.Option.{same_Some}
use Rattle.std.specs.List.{list_any}
use Rattle.grasp_doubter.specs.Questions.{doubt_name}
use Rattle.grasp_types.specs.declared.message.Message.{Message}
use Rattle.grasp_types.specs.declared.objective.Objective.{Objective}
use Rattle.grasp_session.specs.Conversation.{Said, requested, spoken, strip}
use Rattle.grasp_session.specs.Laws.{IsSilent, IsView}
use Rattle.grasp_session.specs.Messages.{Far, Near, Side, is_acceptance, is_side}
use Rattle.grasp_session.specs.Runs.{WasMade}
use Rattle.grasp_session.specs.Sessions.{SessionState}
use Rattle.grasp_session.specs.Talk.{Stage, party}
use Rattle.grasp_session.specs.Transcript.{request_of}
use Rattle.grasp_model_network.specs.Accepting.{has_accepted}
use Rattle.grasp_model_network.specs.Runs.{IsReached}
use Rattle.grasp_model_network.specs.Setting.{Setting}
use Rattle.grasp_model_network.specs.Streams.{StreamEnd, StreamState, end_at}
use Rattle.grasp_model_network.specs.World.{Seat, WorldState, end_of, seat_at}
use Rattle.grasp_laws_negotiation.specs.Negotiations.{IsNegotiation, IsTalk}
use Rattle.grasp_laws_negotiation.specs.Streams.{HasItsStream}
use Rattle.grasp_laws_network.specs.Views.{has_ended, session_of_end, stage_by, view_at, view_in}
use Rattle.grasp_laws_owned.specs.Owned.{IsOwnedBy}
use Rattle.grasp_laws_prefixes.proofs.OwnSessions.{IsSessionAt, session_there}
use Rattle.grasp_laws_prefixes.proofs.Places.{same_place}
use Rattle.grasp_laws_prefixes.proofs.Speaking.{accepts}
use Rattle.grasp_laws_prefixes.proofs.Standing.{AllStay, Stays}
use Rattle.grasp_laws_doubts.specs.Grounds.{Grounds}
use Rattle.grasp_laws_doubts.specs.Standing.{ServeStand}

-- a side has accepted exactly if one of its messages is an acceptance
spoken_accepts : (side : Side) (c : List Said) → has_accepted side c ≡ list_any is_acceptance (spoken side c)
spoken_accepts side [] = refl
spoken_accepts side (x ∷ c) = by_side (is_side side x.side) (spoken_accepts side c) where
  by_side : (b : Bool) → has_accepted side c ≡ list_any is_acceptance (spoken side c)
      → ((b && is_acceptance x.message) || has_accepted side c) ≡ list_any is_acceptance (cond b (x.message ∷ spoken side c) (spoken side c))
  by_side true e = ap (λ r. is_acceptance x.message || r) e
  by_side false e = e

-- a session of agent 2 at the end where the stream was opened
pub record IsAnswering (w : WorldState) (t : StreamState) : Type 0 where
  pub node : ℕ
  pub seat : Seat
  pub here : seat_at w node ≡ Some seat
  pub session : SessionState
  pub made : WasMade seat.core.sessions session
  pub owner : session.owner ≡ 2
  pub role : session.view.role ≡ Far
  pub far : t.far ≡ Some (end_of node session.stream)

-- it has accepted there
pub record HasAnswered (w : WorldState) (t : StreamState) : Type 0 where
  pub by : IsAnswering w t
  pub said : accepts by.session.view ≡ true

module _ (l : Grounds) (s : Setting) (w : WorldState) (r : IsReached s w) (serves : ServeStand w) (place : ℕ) (t : StreamState) (stands : slice_get w.streams place ≡ Some t)
    (negotiation : IsNegotiation t) (name : (requested (strip t.said)).name ≡ doubt_name) (accepted : has_accepted Far t.said ≡ true) where
  says_it : list_any is_acceptance (spoken Far t.said) ≡ true
  says_it = sym (spoken_accepts Far t.said) ∙ accepted

  says_not : (ms : List Message) → spoken Far t.said ≡ ms → list_any is_acceptance ms ≡ false → ⊥
  says_not ms e none = true≢false (sym says_it ∙ (ap (list_any is_acceptance) e ∙ none))

  module _ (e : StreamEnd) (at : end_at t Far ≡ Some e) (x : SessionState) (found : session_of_end w (Some e) ≡ Some x) where
    there : IsSessionAt w e x
    there = session_there w e x found

    view : IsView Far t.said x.view
    view = (l.prefixes.known s w r place t stands negotiation).views Far x.view (ap (λ o. view_in (session_of_end w o)) at ∙ ap view_in found)

    said : accepts x.view ≡ true
    said = ap (list_any is_acceptance) (sym view.own) ∙ says_it

    owned : IsOwnedBy 2 doubt_name x
    owned = (serves e.node there.seat there.here).owned x there.made

    -- in a session of another agent another objective is negotiated, and in one that no agent has taken nothing is accepted
    owner : x.owner ≡ 2
    owner = by_case (cases_eq x.owner 2) (cases_eq x.owner 0) where
      by_case : (x.owner ≡ 2) ⊎ (x.owner ≡ 2 → ⊥) → (x.owner ≡ 0) ⊎ (x.owner ≡ 0 → ⊥) → x.owner ≡ 2
      by_case (inl own) u = own
      by_case (inr differs) (inl none) = absurd (true≢false (sym said ∙ (owned.unsaid none).unaccepted))
      by_case (inr differs) (inr taken) = absurd (owned.foreign taken differs (ap (λ (o : Objective). o.name) view.same_request ∙ name))

    by_session : HasAnswered w t
    by_session = record {
      by = record { node = e.node; seat = there.seat; here = there.here; session = x; made = there.made; owner = owner; role = view.role; far = at ∙ ap (λ k. Some k) there.end_is };
      said = said;
    }

  by_ended : (b : Bool) → IsSilent Far t.said (cond b Stage.Refused Stage.Absent) → ⊥
  by_ended true h = says_not _ h.2 refl
  by_ended false h = says_not [] h refl

  by_found : (e : StreamEnd) → end_at t Far ≡ Some e → (o : Option SessionState) → session_of_end w (Some e) ≡ o → IsSilent Far t.said (stage_by t Far o) → HasAnswered w t
  by_found e at None found h = absurd (by_ended (has_ended Far t.said) h)
  by_found e at (Some x) found h = by_session e at x found

  by_end : (o : Option StreamEnd) → end_at t Far ≡ o → IsSilent Far t.said (stage_by t Far (session_of_end w o)) → HasAnswered w t
  by_end None at h = absurd (by_ended (has_ended Far t.said) h)
  by_end (Some e) at h = by_found e at (session_of_end w (Some e)) refl h

  pub answered_by : HasAnswered w t
  answered_by = from (l.prefixes.negotiations s w r place t stands negotiation) where
    from : IsTalk w t → HasAnswered w t
    from k =
        by_end (end_at t Far) refl
        (subst (λ g. IsSilent Far t.said g) (k.stages Far) (subst (λ (c : List Said). IsSilent Far c (party k.talk Far).stage) k.said (l.prefixes.unseen k.talk k.reached Far)))

-- what it saw there
module _ (l : Grounds) (s : Setting) (w : WorldState) (r : IsReached s w) (place : ℕ) (t : StreamState) (stands : slice_get w.streams place ≡ Some t) (negotiation : IsNegotiation t) (b : IsAnswering w t) where
  stream : HasItsStream w b.node b.session
  stream = l.prefixes.streams.each s w r b.node b.seat b.here b.session b.made

  side : stream.side ≡ Far
  side = sym stream.role ∙ b.role

  talk : stream.talk ≡ t
  talk =
      same_Some stream.talk t
      (sym stream.stands
      ∙ (ap (λ n. slice_get w.streams n) (same_place l.prefixes.ready s w r (end_of b.node b.session.stream) stream.place place stream.talk t stream.side Far stream.stands stream.ends stands b.far)
      ∙ stands))

  pub answering_view : IsView Far t.said b.session.view
  answering_view =
      (l.prefixes.known s w r place t stands negotiation).views Far b.session.view
      (ap (λ i. view_at w t i) (sym side) ∙ (ap (λ (u : StreamState). view_at w u stream.side) (sym talk) ∙ ap view_in stream.found))

-- ---- at an earlier moment

module _ (l : Grounds) (s : Setting) (w y : WorldState) (r : IsReached s w) (q : IsReached s y) (stay : AllStay w.streams y.streams) (place : ℕ) (t u : StreamState) (stands : slice_get w.streams place ≡ Some t)
    (now : slice_get y.streams place ≡ Some u) where
  -- a session at a node, made before, with its end at the far side of the stream now, had it there before
  pub was_far : (node : ℕ) (seat : Seat) → seat_at w node ≡ Some seat → (z : SessionState) → WasMade seat.core.sessions z → z.view.role ≡ Far → u.far ≡ Some (end_of node z.stream) → t.far ≡ Some (end_of node z.stream)
  was_far node seat here z made role far = from (l.prefixes.streams.each s w r node seat here z made) where
    from : HasItsStream w node z → t.far ≡ Some (end_of node z.stream)
    from k =
        let side : k.side ≡ Far = sym k.role ∙ role in
        let later : Stays y.streams k.place k.talk = stay k.place k.talk k.stands in
        let same : k.place ≡ place = same_place l.prefixes.ready s y q (end_of node z.stream) k.place place later.after u k.side Far later.stands (later.ends k.side (end_of node z.stream) k.ends) now far in
        let talk : k.talk ≡ t = same_Some k.talk t (sym k.stands ∙ (ap (λ n. slice_get w.streams n) same ∙ stands)) in
        ap (λ (v : StreamState). v.far) (sym talk) ∙ (ap (λ i. end_at k.talk i) (sym side) ∙ k.ends)

  -- and where it had accepted, the side had
  pub was_answered : IsNegotiation t → (node : ℕ) (seat : Seat) → seat_at w node ≡ Some seat → (z : SessionState) → WasMade seat.core.sessions z → z.view.role ≡ Far → accepts z.view ≡ true
      → u.far ≡ Some (end_of node z.stream) → has_accepted Far t.said ≡ true
  was_answered negotiation node seat here z made role said far = from (l.prefixes.streams.each s w r node seat here z made) where
    from : HasItsStream w node z → has_accepted Far t.said ≡ true
    from k =
        let side : k.side ≡ Far = sym k.role ∙ role in
        let later : Stays y.streams k.place k.talk = stay k.place k.talk k.stands in
        let same : k.place ≡ place = same_place l.prefixes.ready s y q (end_of node z.stream) k.place place later.after u k.side Far later.stands (later.ends k.side (end_of node z.stream) k.ends) now far in
        let talk : k.talk ≡ t = same_Some k.talk t (sym k.stands ∙ (ap (λ n. slice_get w.streams n) same ∙ stands)) in
        let saw : view_at w t Far ≡ Some z.view = ap (λ (v : StreamState). view_at w v Far) (sym talk) ∙ (ap (λ i. view_at w k.talk i) (sym side) ∙ ap view_in k.found) in
        let view : IsView Far t.said z.view = (l.prefixes.known s w r place t stands negotiation).views Far z.view saw in
        spoken_accepts Far t.said ∙ (ap (list_any is_acceptance) view.own ∙ said)
