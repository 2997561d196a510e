-- The stream of each session that a node has made.
use Rattle.std.proofs.Common.{◌≡◌, refl, sym, ap, ◌∙◌, subst, ℕ, zero, suc, ◌==◌, ◌⊎◌, inl, inr, Bool, true, false, cond, List, [], ◌∷◌, ◌++◌, Option, None, Some, Contains, slice_get, slice_index_or}
use Rattle.std.proofs.lemmas.Bool.{eqb-true}
use Rattle.std.proofs.lemmas.Option.{none-some}
use Rattle.std.specs.Prelude.{find, filter_map, flat_map, option_to_list, option_map}
use Rattle.grasp_model_node.specs.BoundedNodes.{IsBoundedNode}
use Rattle.grasp_laws_session.proofs.Made as made
use Rattle.grasp_laws_session.proofs.Runs.{reached_sound}
use Rattle.grasp_session.proofs.Facts.{found_is}
use Rattle.grasp_session.specs.Made.{session_made, on_stream_made}
use Rattle.grasp_session.specs.Messages.{Side, Near, Far}
use Rattle.grasp_session.specs.Runs.{WasMade, Reached}
use Rattle.grasp_session.specs.Sessions.{SessionState, Sessions}
use Rattle.grasp_types.specs.declared.session.Kind.{Kind}
use Rattle.grasp_types.specs.declared.session.Kind.TheVariants.{Negotiation}
use Rattle.grasp_laws_network.proofs.EachNode.{nodes_are_sound}
use Rattle.grasp_model_network.specs.Runs.{IsReached}
use Rattle.grasp_model_network.specs.Setting.{Setting}
use Rattle.grasp_model_network.specs.Streams.{StreamEnd, StreamState, end_at, side_of_end}
use Rattle.grasp_laws_network.specs.Views.{session_in, session_of_end}
use Rattle.grasp_model_network.specs.World.{Seat, WorldState, seat_at, end_of}
use Rattle.grasp_laws_delivery.proofs.Sides.{end_found, none_there}
use Rattle.grasp_laws_negotiation.proofs.Networks.{network_stands}
use Rattle.grasp_laws_negotiation.proofs.Standing.{NoStream}
use Rattle.grasp_laws_negotiation.specs.Grounds.{Grounds}
use Rattle.grasp_laws_negotiation.specs.Negotiations.{IsNegotiation}
use Rattle.grasp_laws_node_stories.specs.StreamMoves.{view_on}
use Rattle.grasp_laws_negotiation.specs.Streams.{StreamsDiffer, HasItsStream, SessionsHaveStreams}
use Rattle.grasp_laws_negotiation.proofs.EndsSeen.{NearAt, FarAt}
use Rattle.grasp_laws_negotiation.proofs.FirstMoves.{Asked}
use Rattle.grasp_laws_negotiation.proofs.Lasting.{none_made}
use Rattle.grasp_laws_negotiation.proofs.NetworksDiffer.{all_differ}
use Rattle.grasp_laws_negotiation.proofs.NetworksSeen.{talks_seen}
use Rattle.grasp_laws_negotiation.proofs.TalksSeen.{near_said}

-- ---- the session on a stream

abbrev live : List (Option SessionState) → List SessionState
live l = filter_map (λ x. x) l

-- what is found passes, and is one of these
abbrev IsOne : (SessionState → Bool) → List (Option SessionState) → List SessionState → SessionState → Type 0
IsOne p l gone y = (((i : ℕ) × (slice_index_or l i None ≡ Some y)) ⊎ Contains gone y) × (p y ≡ true)

one_found : (p : SessionState → Bool) (l : List (Option SessionState)) (gone : List SessionState) (y : SessionState) → find p (live l ++ gone) ≡ Some y → IsOne p l gone y
one_found p [] gone y e = let c = found_is p gone y e in (inr c.0, c.1)
one_found p (None ∷ l) gone y e = later (one_found p l gone y e) where
  later : IsOne p l gone y → IsOne p (None ∷ l) gone y
  later (inl i, c) = (inl (suc i.0, i.1), c)
  later (inr i, c) = (inr i, c)
one_found p (Some x ∷ l) gone y e = by_test (p x) refl e (λ f. one_found p l gone y f) where
  later : IsOne p l gone y → IsOne p (Some x ∷ l) gone y
  later (inl i, c) = (inl (suc i.0, i.1), c)
  later (inr i, c) = (inr i, c)

  by_test : (b : Bool) → p x ≡ b → cond b (Some x) (find p (live l ++ gone)) ≡ Some y → (find p (live l ++ gone) ≡ Some y → IsOne p l gone y) → IsOne p (Some x ∷ l) gone y
  by_test true f g rest = let same : x ≡ y = cc in (inl (zero, ap (λ (z : SessionState). Some z) same), ap p (sym same) ∙ f)
  by_test false f g rest = later (rest g)

same_made : (o : Option SessionState) (x y : SessionState) → o ≡ Some x → o ≡ Some y → x ≡ y
same_made o x y a b = cc

-- the first that is found on the stream of a session is that session
pub on_its_stream : (z : Sessions) (x : SessionState) → Reached z → StreamsDiffer z → WasMade z x → on_stream_made z x.stream ≡ Some x
on_its_stream z x r d m = by_option (on_stream_made z x.stream) refl where
  by_option : (o : Option SessionState) → on_stream_made z x.stream ≡ o → on_stream_made z x.stream ≡ Some x
  by_option None e = absurd (none_made z x.stream e x m refl)
  by_option (Some y) e =
      let c : IsOne (λ w. w.stream == x.stream) z.places z.gone y = one_found (λ w. w.stream == x.stream) z.places z.gone y e in
      let s = reached_sound z r in
      let number : x.number ≡ y.number = d x y m c.0 (sym (eqb-true y.stream x.stream c.1)) in
      let same : x ≡ y = same_made (session_made z y.number) x y (made.is_made z y.number x s m number) (made.is_made z y.number y s c.0 refl) in
      e ∙ ap (λ (w : SessionState). Some w) (sym same)

-- ---- looked up in the network

same_list : (xs : List (Option SessionState)) → flat_map option_to_list xs ≡ live xs
same_list [] = refl
same_list (None ∷ xs) = same_list xs
same_list (Some x ∷ xs) = ap (λ (l : List SessionState). x ∷ l) (same_list xs)

looked_up : (w : WorldState) (node : ℕ) (seat : Seat) (stream : ℕ) → seat_at w node ≡ Some seat → session_of_end w (Some (end_of node stream)) ≡ on_stream_made seat.core.sessions stream
looked_up w node seat stream here =
    ap (λ o. session_in (end_of node stream) o) here
    ∙ ap (λ (l : List SessionState). find (λ x. x.stream == stream) (l ++ seat.core.sessions.gone)) (same_list seat.core.sessions.places)

-- ---- the stream of an end

record Ends (ts : List StreamState) (e : StreamEnd) : Type 0 where
  place : ℕ
  talk : StreamState
  side : Side
  stands : slice_get ts place ≡ Some talk
  ends : end_at talk side ≡ Some e

some_talk : (t u : StreamState) → Some t ≡ Some u → t ≡ u
some_talk t u e = cc

find_end : (ts : List StreamState) (e : StreamEnd) → Ends ts e ⊎ NoStream ts e
find_end [] e = inr (λ place t is. absurd (none-some t is))
find_end (x ∷ xs) e = by_side (side_of_end e x) refl (find_end xs e) where
  none : side_of_end e x ≡ None → NoStream xs e → NoStream (x ∷ xs) e
  none is rest zero t found side at = none_there x e is side (ap (λ (u : StreamState). end_at u side) (some_talk x t found) ∙ at)
  none is rest (suc place) t found side at = rest place t found side at

  by_side : (o : Option Side) → side_of_end e x ≡ o → Ends xs e ⊎ NoStream xs e → Ends (x ∷ xs) e ⊎ NoStream (x ∷ xs) e
  by_side (Some side) is rest = inl (record { place = 0; talk = x; side = side; stands = refl; ends = end_found x e side is })
  by_side None is (inl h) = inl (record { place = suc h.place; talk = h.talk; side = h.side; stands = h.stands; ends = h.ends })
  by_side None is (inr rest) = inr (none is rest)

-- ---- each session

asked_is : (t : StreamState) (kind : Kind) → Asked kind (near_said t) → kind ≡ Negotiation → IsNegotiation t
asked_is t kind a e = by_kind (subst (λ (k : Kind). Asked k (near_said t)) e a) where
  by_kind : Asked Negotiation (near_said t) → IsNegotiation t
  by_kind b = inr (b.session, b.objective, b.rest, b.is)

module _ (l : Grounds) (s : Setting) (w : WorldState) (r : IsReached s w) (node : ℕ) (seat : Seat) (here : seat_at w node ≡ Some seat) (x : SessionState) (m : WasMade seat.core.sessions x) where
  reached : Reached seat.core.sessions
  reached = let k : IsBoundedNode seat.core = nodes_are_sound.sound s w r node seat here in k.sessions

  one : on_stream_made seat.core.sessions x.stream ≡ Some x
  one = on_its_stream seat.core.sessions x reached (all_differ l s w r node seat here) m

  seen : view_on seat.core x.stream ≡ Some x.view
  seen = ap (option_map (λ (y : SessionState). y.view)) one

  stream_is : Ends w.streams (end_of node x.stream)
  stream_is = by_case (find_end w.streams (end_of node x.stream)) where
    by_case : Ends w.streams (end_of node x.stream) ⊎ NoStream w.streams (end_of node x.stream) → Ends w.streams (end_of node x.stream)
    by_case (inl h) = h
    by_case (inr none) = absurd (none-some x.view (sym ((network_stands l s w r).unseen node seat here x.stream none) ∙ seen))

  some_end : (a b : StreamEnd) → Some a ≡ Some b → a ≡ b
  some_end a b e = cc

  -- the side is that of the session, and where this is a negotiation near asked for one
  side_is : (place : ℕ) (t : StreamState) → slice_get w.streams place ≡ Some t → (side : Side) → end_at t side ≡ Some (end_of node x.stream) → (x.view.role ≡ side) × (x.view.kind ≡ Negotiation → IsNegotiation t)
  side_is place t is Near at =
      let near : t.near ≡ end_of node x.stream = some_end t.near (end_of node x.stream) at in
      let a : NearAt seat.core x.stream (near_said t) = subst (λ (e : StreamEnd). NearAt seat.core e.number (near_said t)) near ((talks_seen l s w r place t is).near seat (ap (λ (e : StreamEnd). seat_at w e.node) near ∙ here)) in
      let k = a.asked x.view seen in
      (k.0, asked_is t x.view.kind k.1)
  side_is place t is Far at =
      let a : FarAt seat.core x.stream (near_said t) = (talks_seen l s w r place t is).far (end_of node x.stream) at seat here in
      let k = a.asked x.view seen in
      (k.0, λ e. asked_is t Negotiation k.1 refl)

  pub has_stream : HasItsStream w node x
  has_stream =
      let h : Ends w.streams (end_of node x.stream) = stream_is in
      let k = side_is h.place h.talk h.stands h.side h.ends in
      record {
        place = h.place;
        talk = h.talk;
        side = h.side;
        stands = h.stands;
        ends = h.ends;
        found = ap (session_of_end w) h.ends ∙ (looked_up w node seat x.stream here ∙ one);
        role = k.0;
        request = k.1;
      }

pub have_streams : Grounds → SessionsHaveStreams
have_streams l = record {
  differ = λ s w r node seat here. all_differ l s w r node seat here;
  each = λ s w r node seat here x m. has_stream l s w r node seat here x m;
}
