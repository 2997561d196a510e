-- The sessions of a node by their handles, and by the ends of their streams.
use Rattle.std.proofs.Common.{◌≡◌, refl, sym, ap, ◌∙◌, subst, ℕ, suc, ◌==◌, Bool, true, false, cond, inl, inr, ◌⊎◌, List, [], ◌∷◌, slice_get, slice_index_or, Contains, find, flat_map, option_to_list, Option, Some, None}
use Rattle.std.proofs.lemmas.Bool.{eqb-true}
use Rattle.std.proofs.lemmas.List.Elements.{Contains-append_cases}
use Rattle.std.proofs.lemmas.Option.{none-some, same_Some}
use Rattle.grasp_session.specs.Laws.{IsView}
use Rattle.grasp_session.specs.Messages.{Side}
use Rattle.grasp_session.specs.Runs.{WasMade}
use Rattle.grasp_session.specs.Sessions.{SessionState, Sessions, session_at}
use Rattle.grasp_session.specs.Transcript.{Transcript}
use Rattle.grasp_types.specs.declared.session.Handle.{Handle}
use Rattle.grasp_types.specs.declared.session.Kind.TheVariants.{Negotiation}
use Rattle.grasp_model_network.specs.Runs.{IsReached}
use Rattle.grasp_model_network.specs.Setting.{Setting}
use Rattle.grasp_model_network.specs.Streams.{StreamEnd, StreamState, end_at}
use Rattle.grasp_laws_network.specs.Views.{all_sessions, session_in, session_of_end, view_in, view_at}
use Rattle.grasp_model_network.specs.World.{Seat, WorldState, seat_at, end_of}
use Rattle.grasp_laws_agents.specs.Giving.{IsOwnSession}
use Rattle.grasp_laws_agents.specs.GoingOn.{OwnGoOn}
use Rattle.grasp_laws_agents.specs.Owning.{IsOwned}
use Rattle.grasp_laws_negotiation.specs.Streams.{HasItsStream, SessionsHaveStreams}
use Rattle.grasp_laws_negotiation.specs.Negotiations.{IsNegotiation}
use Rattle.grasp_laws_node.proofs.Consistent.Declines.{handle_state}
use Rattle.grasp_laws_prefixes.proofs.Listing.{none_in, first_in, more_in, either_in}
use Rattle.grasp_laws_prefixes.specs.Grounds.{Grounds}

-- ---- by their handles

pub one_session : (z : Sessions) (h : Handle) (x y : SessionState) → session_at z h ≡ Some x → session_at z h ≡ Some y → x ≡ y
one_session z h x y a b = same_Some x y (sym a ∙ b)

pub handle_made : (z : Sessions) (h : Handle) (x : SessionState) → session_at z h ≡ Some x → WasMade z x
handle_made z h x e = inl (h.place, (handle_state z h x e).0)

-- sessions go on, where nothing happens
pub same_sessions : (z : Sessions) → OwnGoOn z z
same_sessions z = record {
  stay = λ place x at own. (x, at, record { number = refl; owner = refl; stream = refl; view = record { deeds = []; heard = tt; after = refl } });
  were = λ place y at own. (y, at, record { number = refl; owner = refl; stream = refl; view = record { deeds = []; heard = tt; after = refl } });
  gone = λ x g. g;
  left = λ x own g. g;
}

-- ---- by their streams

find_passes : (p : SessionState → Bool) (xs : List SessionState) (x : SessionState) → find p xs ≡ Some x → p x ≡ true
find_passes p [] x e = absurd (none-some x e)
find_passes p (y ∷ ys) x e = by_test (p y) refl e (find_passes p ys x) where
  by_test : (b : Bool) → p y ≡ b → cond b (Some y) (find p ys) ≡ Some x → (find p ys ≡ Some x → p x ≡ true) → p x ≡ true
  by_test true is f again = ap p (sym (same_Some y x f)) ∙ is
  by_test false is f again = again f

find_has : (p : SessionState → Bool) (xs : List SessionState) (x : SessionState) → find p xs ≡ Some x → Contains xs x
find_has p [] x e = absurd (none-some x e)
find_has p (y ∷ ys) x e = by_test (p y) e (find_has p ys x) where
  by_test : (b : Bool) → cond b (Some y) (find p ys) ≡ Some x → (find p ys ≡ Some x → Contains ys x) → Contains (y ∷ ys) x
  by_test true f again = subst (λ z. Contains (y ∷ ys) z) (same_Some y x f) (first_in y ys)
  by_test false f again = more_in y ys x (again f)

in_places : (os : List (Option SessionState)) (x : SessionState) → Contains (flat_map option_to_list os) x → (place : ℕ) × (slice_index_or os place None ≡ Some x)
in_places [] x h = absurd (none_in x h)
in_places (None ∷ os) x h = let r = in_places os x h in (suc r.0, r.1)
in_places (Some y ∷ os) x h = by_case (either_in y (flat_map option_to_list os) x h) (in_places os x) where
  by_case : (y ≡ x) ⊎ Contains (flat_map option_to_list os) x → (Contains (flat_map option_to_list os) x → (place : ℕ) × (slice_index_or os place None ≡ Some x))
      → (place : ℕ) × (slice_index_or (Some y ∷ os) place None ≡ Some x)
  by_case (inl e) again = (0, ap (λ z. Some z) e)
  by_case (inr more) again = let r = again more in (suc r.0, r.1)

found_made : (z : Sessions) (stream : ℕ) (x : SessionState) → find (λ (y : SessionState). y.stream == stream) (all_sessions z) ≡ Some x → WasMade z x × (x.stream ≡ stream)
found_made z stream x e = (
  by_case (Contains-append_cases (flat_map option_to_list z.places) z.gone x (find_has (λ (y : SessionState). y.stream == stream) (all_sessions z) x e)),
  eqb-true x.stream stream (find_passes (λ (y : SessionState). y.stream == stream) (all_sessions z) x e),
) where
  by_case : Contains (flat_map option_to_list z.places) x ⊎ Contains z.gone x → WasMade z x
  by_case (inl live) = inl (in_places z.places x live)
  by_case (inr gone) = inr gone

-- the session at an end of a stream was made by the node there
pub record IsSessionAt (w : WorldState) (e : StreamEnd) (x : SessionState) : Type 0 where
  pub seat : Seat
  pub here : seat_at w e.node ≡ Some seat
  pub made : WasMade seat.core.sessions x
  pub end_is : e ≡ end_of e.node x.stream

pub session_there : (w : WorldState) (e : StreamEnd) (x : SessionState) → session_of_end w (Some e) ≡ Some x → IsSessionAt w e x
session_there w e x found = by_seat (seat_at w e.node) refl found where
  by_seat : (o : Option Seat) → seat_at w e.node ≡ o → session_in e o ≡ Some x → IsSessionAt w e x
  by_seat None here f = absurd (none-some x f)
  by_seat (Some seat) here f = let m = found_made seat.core.sessions e.number x f in record { seat = seat; here = here; made = m.0; end_is = ap (end_of e.node) (sym m.1) }

-- what a side saw is what its session saw
pub record IsViewOf (w : WorldState) (t : StreamState) (side : Side) (v : Transcript) : Type 0 where
  pub at : StreamEnd
  pub ends : end_at t side ≡ Some at
  pub session : SessionState
  pub found : session_of_end w (Some at) ≡ Some session
  pub view : session.view ≡ v

pub view_of : (w : WorldState) (t : StreamState) (side : Side) (v : Transcript) → view_at w t side ≡ Some v → IsViewOf w t side v
view_of w t side v saw = by_end (end_at t side) refl saw where
  by_session : (e : StreamEnd) → end_at t side ≡ Some e → (o : Option SessionState) → session_of_end w (Some e) ≡ o → view_in o ≡ Some v → IsViewOf w t side v
  by_session e at None found f = absurd (none-some v f)
  by_session e at (Some x) found f = record { at = e; ends = at; session = x; found = found; view = same_Some x.view v f }

  by_end : (o : Option StreamEnd) → end_at t side ≡ o → view_in (session_of_end w o) ≡ Some v → IsViewOf w t side v
  by_end None at f = absurd (none-some v f)
  by_end (Some e) at f = by_session e at (session_of_end w (Some e)) refl f

-- ---- the stream of a session

-- the stream of which a session is this side: a negotiation
pub record IsTalkOf (w : WorldState) (node : ℕ) (x : SessionState) (side : Side) : Type 0 where
  pub place : ℕ
  pub talk : StreamState
  pub stands : slice_get w.streams place ≡ Some talk
  pub ends : end_at talk side ≡ Some (end_of node x.stream)
  pub saw : view_at w talk side ≡ Some x.view
  pub negotiation : IsNegotiation talk

pub talk_of : SessionsHaveStreams → (s : Setting) (w : WorldState) → IsReached s w → (node : ℕ) (seat : Seat) → seat_at w node ≡ Some seat → (x : SessionState) → WasMade seat.core.sessions x → (side : Side)
    → x.view.role ≡ side → x.view.kind ≡ Negotiation → IsTalkOf w node x side
talk_of streams s w r node seat here x made side role kind =
    let h : HasItsStream w node x = streams.each s w r node seat here x made in
    let same : h.side ≡ side = sym h.role ∙ role in
    record {
      place = h.place;
      talk = h.talk;
      stands = h.stands;
      ends = ap (λ k. end_at h.talk k) (sym same) ∙ h.ends;
      saw = ap (λ k. view_at w h.talk k) (sym same) ∙ ap (λ o. view_in o) h.found;
      negotiation = h.request kind;
    }

-- of a live session of agent 1
module _ (l : Grounds) (s : Setting) (w : WorldState) (r : IsReached s w) where
  pub own_talk : (node : ℕ) (seat : Seat) → seat_at w node ≡ Some seat → (h : Handle) (side : Side) (x : SessionState) → IsOwnSession seat.core.sessions h side x → IsTalkOf w node x side
  own_talk node seat here h side x own =
      let owned : IsOwned x = l.owned s w r node seat here h.place x (handle_state seat.core.sessions h x own.at).0 in
      talk_of l.streams s w r node seat here x (handle_made seat.core.sessions h x own.at) side own.role (owned.own own.owner).0

  -- what it saw on its stream
  pub own_view : (node : ℕ) (x : SessionState) (side : Side) → (t : IsTalkOf w node x side) → IsView side t.talk.said x.view
  own_view node x side t = (l.known s w r t.place t.talk t.stands t.negotiation).views side x.view t.saw
