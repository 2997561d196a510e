-- At most one offer is listed for a stream: two of them would be of one session, and of one prefix.
use Rattle.std.proofs.Common.{◌≡◌, ◌⊎◌, inl, inr, refl, sym, ap, ◌∙◌, subst, ℕ, Bool, true, false, Contains, Option, Some, None, is_some, slice_get}
use Rattle.std.proofs.lemmas.Bool.{eq-eqb, true≢false}
use Rattle.std.proofs.lemmas.Option.{none-some, same_Some}
use Rattle.grasp_agent.proofs.Keeping.{act_stands}
use Rattle.grasp_agent.specs.declared.act.Act.{Act}
use Rattle.grasp_agent.specs.declared.act.Act.TheVariants as act
use Rattle.grasp_agent.specs.declared.giving.Giving.{Giving}
use Rattle.grasp_laws_agents.proofs.Sides.{sides}
use Rattle.grasp_laws_agents.specs.Giving.{EntryStands, HasOffered, IsOffering, IsOwnSession, OfferStands, is_offering}
use Rattle.grasp_laws_listed.proofs.Doubts.{doubted_were_offered}
use Rattle.grasp_laws_listed.proofs.Reserved as reserving
use Rattle.grasp_laws_listed.specs.Doubts.{IsOver, OneOfferAStream, WasOffered}
use Rattle.grasp_laws_listed.specs.Reserved.{IsAboutToOffer, IsOfferedOn, IsUnsent, ReservedStand}
use Rattle.grasp_laws_negotiation.specs.Negotiations.{IsNegotiation}
use Rattle.grasp_laws_negotiation.specs.Streams.{HasItsStream}
use Rattle.grasp_laws_network.proofs.EachNode.{nodes_are_sound}
use Rattle.grasp_laws_network.specs.Authorities.{Keeps}
use Rattle.grasp_laws_network.specs.Views.{session_of_end, view_in}
use Rattle.grasp_laws_prefixes.proofs.Listings.{offers_are_known}
use Rattle.grasp_laws_prefixes.proofs.OwnSessions.{handle_made, one_session}
use Rattle.grasp_laws_prefixes.proofs.Places.{same_place}
use Rattle.grasp_laws_prefixes.proofs.Safe.{stand}
use Rattle.grasp_laws_prefixes.proofs.Speech.{same_requested}
use Rattle.grasp_laws_prefixes.proofs.Standing.{IsPlaced}
use Rattle.grasp_laws_prefixes.specs.Grounds.{Grounds}
use Rattle.grasp_laws_session.proofs.Runs.{calls_in_order}
use Rattle.grasp_model_network.specs.Accepting.{is_return, offering_by, offering_side}
use Rattle.grasp_model_network.specs.Runs.{IsReached}
use Rattle.grasp_model_network.specs.Setting.{Setting}
use Rattle.grasp_model_network.specs.Streams.{StreamEnd, StreamState, end_at}
use Rattle.grasp_model_network.specs.World.{Offered, Seat, WorldState, end_of, is_present, member_of, seat_at}
use Rattle.grasp_session.proofs.Tables.{state_slot}
use Rattle.grasp_session.specs.Laws.{IsView}
use Rattle.grasp_session.specs.Messages.{Side}
use Rattle.grasp_session.specs.Runs.{WasMade}
use Rattle.grasp_session.specs.Sessions.{SessionState}
use Rattle.grasp_types.specs.Prefix.{AddressBlock as Prefix}
use Rattle.grasp_types.specs.declared.objective.Objective.{Objective}
use Rattle.grasp_types.specs.declared.session.Handle.{Handle}

-- the session of an offer on this stream, of which its life is this side: the side that offers there
record IsMadeIn (w : WorldState) (o : Offered) (t : StreamState) (x : SessionState) (side : Side) : Type 0 where
  ends : end_at t side ≡ Some (end_of o.node x.stream)
  found : session_of_end w (end_at t side) ≡ Some x
  offers : offering_side t ≡ side

-- how an offer for the stream at this place stands
data Stands (w : WorldState) (o : Offered) (place : ℕ) : Type 0 where
  was_made : (seat : Seat) → seat_at w o.node ≡ Some seat → WasOffered w seat o place → Stands w o place
  is_made : (seat : Seat) → seat_at w o.node ≡ Some seat → is_present w o.node ≡ true → IsOfferedOn w seat o → Stands w o place

module _ (l : Grounds) (s : Setting) (w : WorldState) (r : IsReached s w) where
  reserved : ReservedStand w
  reserved = reserving.reserved_are_offered l.kept l.give nodes_are_sound.sound (offers_are_known l) s w r

  -- a session that was made, which offers by its request, on a stream that is a negotiation
  made_in : (o : Offered) (place : ℕ) (t : StreamState) → slice_get w.streams place ≡ Some t → IsNegotiation t → (seat : Seat) → seat_at w o.node ≡ Some seat
      → (x : SessionState) → WasMade seat.core.sessions x → (side : Side) → x.view.role ≡ side → end_at t side ≡ Some (end_of o.node x.stream) → IsOffering x.view → IsMadeIn w o t x side
  made_in o place t stands negotiation seat here x made side role ends offering = from (l.streams.each s w r o.node seat here x made) where
    from : HasItsStream w o.node x → IsMadeIn w o t x side
    from h = record { ends = ends; found = found_here; offers = offers } where
      side_is : h.side ≡ side
      side_is = sym h.role ∙ role

      place_is : h.place ≡ place
      place_is = same_place l.ready s w r (end_of o.node x.stream) h.place place h.talk t h.side side h.stands h.ends stands ends

      talk_is : h.talk ≡ t
      talk_is = same_Some h.talk t (sym h.stands ∙ (ap (slice_get w.streams) place_is ∙ stands))

      found_here : session_of_end w (end_at t side) ≡ Some x
      found_here = subst (λ (u : StreamState). session_of_end w (end_at u side) ≡ Some x) talk_is (subst (λ (i : Side). session_of_end w (end_at h.talk i) ≡ Some x) side_is h.found)

      view : IsView side t.said x.view
      view = (l.known s w r place t stands negotiation).views side x.view (ap view_in found_here)

      offers : offering_side t ≡ side
      offers = ap (λ (q : Objective). offering_by (is_return q.value)) (sym (view.same_request ∙ same_requested t.said)) ∙ (offering ∙ role)

  -- what is about to be offered is in a session whose listener wasn't asked to take anything back
  about_offers : (seat : Seat) (node : ℕ) → seat_at w node ≡ Some seat → (h : Handle) (side : Side) (x : SessionState) (p : Prefix) → IsOwnSession seat.core.sessions h side x → IsAboutToOffer seat.agent h p → IsOffering x.view
  about_offers seat node here h side x p own about = from ((l.give s w r node seat here).entries about.0 entry at) where
    entry : Giving
    entry = record { handle = h; offer = Some p; first = false }

    at : slice_get seat.agent.giving about.0 ≡ Some entry
    at = act_stands seat.agent (act.Offer about.0 h p) about.1 (l.kept s w r node seat here)

    from : EntryStands seat.core.sessions seat.agent about.0 entry → IsOffering x.view
    from e = subst (λ (y : SessionState). IsOffering y.view) (one_session seat.core.sessions h e.session x e.own.at own.at) (ap (λ (q : Option Prefix). offering_by (is_some q)) deciding.1 ∙ sym e.own.role) where
      deciding : OfferStands true (Some p) e.session.view
      deciding = subst (λ (b : Bool). OfferStands b (Some p) e.session.view) (ap (λ (c : Option Act). is_offering c about.0) about.1 ∙ eq-eqb about.0 about.0 refl) e.offer

  module _ (place : ℕ) (t : StreamState) (stands : slice_get w.streams place ≡ Some t) (negotiation : IsNegotiation t) where
    of_doubt : (o : Offered) (seat : Seat) → seat_at w o.node ≡ Some seat → (k : WasOffered w seat o place) → IsMadeIn w o t k.session k.session.view.role
    of_doubt o seat here k =
        made_in o place t stands negotiation seat here k.session made k.session.view.role refl (ap (λ (u : StreamState). end_at u k.session.view.role) (same_Some t k.talk (sym stands ∙ k.stands)) ∙ k.ends)
        (sides seat.core seat.agent (l.give s w r o.node seat here) k.session o.prefix made k.owner k.last)
      where
        by_over : IsOver w o.node seat.core.sessions k.session → WasMade seat.core.sessions k.session
        by_over (inl gone) = inr gone
        by_over (inr past) = inl past.1

        made : WasMade seat.core.sessions k.session
        made = by_over k.over

    of_reserved : (o : Offered) (seat : Seat) → seat_at w o.node ≡ Some seat → o.talk ≡ Some place → (f : IsOfferedOn w seat o) → IsMadeIn w o t f.session f.side
    of_reserved o seat here on f =
        made_in o place t stands negotiation seat here f.session made f.side f.own.role (ap (λ (u : StreamState). end_at u f.side) (same_Some t f.talk (sym stands ∙ at_place)) ∙ f.ends) (by_last f.last)
      where
        made : WasMade seat.core.sessions f.session
        made = handle_made seat.core.sessions f.handle f.session f.own.at

        at_place : slice_get w.streams place ≡ Some f.talk
        at_place = ap (slice_get w.streams) (same_Some place f.place (sym on ∙ f.is)) ∙ f.stands

        by_last : HasOffered f.session.view o.prefix ⊎ IsAboutToOffer seat.agent f.handle o.prefix → IsOffering f.session.view
        by_last (inl h) = sides seat.core seat.agent (l.give s w r o.node seat here) f.session o.prefix made f.own.owner h
        by_last (inr about) = about_offers seat o.node here f.handle f.side f.session o.prefix f.own about

    -- both are of one session
    module _ (o p : Offered) (x y : SessionState) (a b : Side) (m : IsMadeIn w o t x a) (n : IsMadeIn w p t y b) where
      side_is : a ≡ b
      side_is = sym m.offers ∙ n.offers

      node_is : o.node ≡ p.node
      node_is = ap (λ (e : StreamEnd). e.node) (same_Some (end_of o.node x.stream) (end_of p.node y.stream) (sym m.ends ∙ (ap (end_at t) side_is ∙ n.ends)))

      session_is : x ≡ y
      session_is = same_Some x y (sym m.found ∙ (ap (λ (i : Side). session_of_end w (end_at t i)) side_is ∙ n.found))

    -- a session that is live in a present life isn't over
    not_over : (node : ℕ) (seat : Seat) → seat_at w node ≡ Some seat → is_present w node ≡ true → (h : Handle) (side : Side) (x : SessionState) → IsOwnSession seat.core.sessions h side x → IsOver w node seat.core.sessions x → ⊥
    not_over node seat here present h side x own (inr past) = true≢false (sym present ∙ past.0)
    not_over node seat here present h side x own (inl gone) =
        (calls_in_order seat.core.sessions (nodes_are_sound.sound s w r node seat here).sessions).unused h.place x x (state_slot seat.core.sessions h x own.at) gone refl

    module _ (o p : Offered) (lo : Contains w.offers o) (lp : Contains w.offers p) (oo : o.talk ≡ Some place) (op : p.talk ≡ Some place) where
      same : o.node ≡ p.node → o.prefix ≡ p.prefix → o ≡ p
      same node prefix = (stand l s w r).known.once o p lo lp (ap (member_of w) node) prefix

      seats : (u v : Seat) → seat_at w o.node ≡ Some u → seat_at w p.node ≡ Some v → o.node ≡ p.node → u ≡ v
      seats u v here there node = same_Some u v (sym here ∙ (ap (seat_at w) node ∙ there))

      set_both : (u v : Seat) → u ≡ v → (f : IsOfferedOn w u o) (g : IsOfferedOn w v p) → seat_at w o.node ≡ Some u → o.node ≡ p.node → f.place ≡ g.place → f.side ≡ g.side → o ≡ p
      set_both u v e f g here node at side =
          (subst (λ (z : Seat). (h : IsOfferedOn w z p) → f.place ≡ h.place → f.side ≡ h.side → o ≡ p) e (λ h i j. reserved.one u o p f h here node i j)) g at side

      one_of : Stands w o place → Stands w p place → o ≡ p
      one_of (was_made u here k) (was_made v there j) =
          let m = of_doubt o u here k in
          let n = of_doubt p v there j in
          let k_last = subst (λ (z : SessionState). HasOffered z.view o.prefix) (session_is o p k.session j.session k.session.view.role j.session.view.role m n) k.last in
          same (node_is o p k.session j.session k.session.view.role j.session.view.role m n) (same_Some o.prefix p.prefix (sym k_last.offer ∙ j.last.offer))
      one_of (is_made u here present f) (is_made v there also g) =
          let m = of_reserved o u here oo f in
          let n = of_reserved p v there op g in
          let node = node_is o p f.session g.session f.side g.side m n in
          set_both u v (seats u v here there node) f g here node (same_Some f.place g.place (sym f.is ∙ (oo ∙ (sym op ∙ g.is)))) (side_is o p f.session g.session f.side g.side m n)
      one_of (was_made u here k) (is_made v there also g) =
          let m = of_doubt o u here k in
          let n = of_reserved p v there op g in
          let node = node_is o p k.session g.session k.session.view.role g.side m n in
          absurd (not_over p.node v there also g.handle g.side g.session g.own
          (subst (λ (i : ℕ). IsOver w i v.core.sessions g.session) node
          (subst (λ (z : Seat). IsOver w o.node z.core.sessions g.session) (seats u v here there node)
          (subst (λ (z : SessionState). IsOver w o.node u.core.sessions z) (session_is o p k.session g.session k.session.view.role g.side m n) k.over))))
      one_of (is_made u here present f) (was_made v there j) =
          let m = of_reserved o u here oo f in
          let n = of_doubt p v there j in
          let node = node_is o p f.session j.session f.side j.session.view.role m n in
          absurd (not_over o.node u here present f.handle f.side f.session f.own
          (subst (λ (i : ℕ). IsOver w i u.core.sessions f.session) (sym node)
          (subst (λ (z : Seat). IsOver w p.node z.core.sessions f.session) (sym (seats u v here there node))
          (subst (λ (z : SessionState). IsOver w p.node v.core.sessions z) (sym (session_is o p f.session j.session f.side j.session.view.role m n)) j.over))))

  -- how a listed offer stands
  stands_so : (o : Offered) (place : ℕ) → Contains w.offers o → o.talk ≡ Some place → Stands w o place
  stands_so o place listed on = from ((stand l s w r).known.kept o listed) where
    from : Keeps w o.node o.prefix → Stands w o place
    from k = by_present (is_present w o.node) refl k.listed where
      doubted : Contains k.seat.agent.pool.doubtful o.prefix ⊎ (is_present w o.node ≡ false) → Stands w o place
      doubted d = was_made k.seat k.here (doubted_were_offered l s w r k.seat o place (record { listed = listed; on = on; here = k.here; doubt = d }))

      by_case : is_present w o.node ≡ true → IsOfferedOn w k.seat o ⊎ IsUnsent k.seat o → Stands w o place
      by_case present (inl f) = is_made k.seat k.here present f
      by_case present (inr unsent) = absurd (none-some place (sym unsent.none ∙ on))

      by_present : (b : Bool) → is_present w o.node ≡ b → Contains k.seat.agent.pool.reserved o.prefix ⊎ Contains k.seat.agent.pool.doubtful o.prefix → Stands w o place
      by_present false is has = doubted (inr is)
      by_present true is (inr has) = doubted (inl has)
      by_present true is (inl has) = by_case is (reserved.each k.seat o (record { listed = listed; here = k.here; present = is; reserved = has }))

  one_each : (o p : Offered) (place : ℕ) → Contains w.offers o → Contains w.offers p → o.talk ≡ Some place → p.talk ≡ Some place → o ≡ p
  one_each o p place lo lp oo op = from ((stand l s w r).known.placed o lo) where
    from : IsPlaced w.streams o ⊎ (o.talk ≡ None) → o ≡ p
    from (inr none) = absurd (none-some place (sym none ∙ oo))
    from (inl at) =
        one_of place at.talk (ap (slice_get w.streams) (same_Some place at.place (sym oo ∙ at.is)) ∙ at.stands) at.negotiation o p lo lp oo op (stands_so o place lo oo) (stands_so p place lp op)

pub one_offer_a_stream : Grounds → OneOfferAStream
one_offer_a_stream l s w r = one_each l s w r
