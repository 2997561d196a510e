-- What stands of the prefixes of a network stands still where no agent did anything.
use Rattle.std.proofs.Common.{◌≡◌, refl, sym, ap, ◌∙◌, subst, ℕ, true, false, inl, inr, ◌⊎◌, List, ◌++◌, Contains, Option, None, Some, slice_get}
use Rattle.std.proofs.lemmas.Option.{same_Some}
use Rattle.grasp_agent.specs.States.{unsent_of}
use Rattle.grasp_agent.specs.declared.back.Return.{Return}
use Rattle.grasp_pool.specs.Holdings.{Holding, IsFree, IsListed}
use Rattle.grasp_session.proofs.Facts.{at_handle as session_is}
use Rattle.grasp_session.specs.Conversation.{Said, begun, strip}
use Rattle.grasp_session.specs.Messages.{Side, other}
use Rattle.grasp_session.specs.Says.{IsAt}
use Rattle.grasp_session.specs.Sessions.{SessionState}
use Rattle.grasp_types.specs.Prefix.{AddressBlock as Prefix}
use Rattle.grasp_types.specs.declared.objective.Objective.{Objective}
use Rattle.grasp_types.specs.declared.session.Handle.{Handle}
use Rattle.grasp_laws_network.proofs.Lives.{same_member, same_present, same_is_present}
use Rattle.grasp_laws_network.specs.Authorities.{Holds, Reserves, Keeps, IsOpenTalk, MayAccept, IsAuthority}
use Rattle.grasp_model_network.specs.Accepting.{is_return, offering_by, taking_side, is_accepted, has_accepted}
use Rattle.grasp_model_network.specs.Runs.{IsReached}
use Rattle.grasp_model_network.specs.Setting.{Setting}
use Rattle.grasp_model_network.specs.Streams.{StreamState}
use Rattle.grasp_model_network.specs.World.{Seat, Offered, WorldState, seat_at, end_of, is_present, member_of, present_life}
use Rattle.grasp_laws_agents.proofs.Going.{open_back}
use Rattle.grasp_laws_agents.proofs.GoingOn.{heard_alike}
use Rattle.grasp_laws_agents.specs.Giving.{IsOpenOffer, IsOwnSession, OffersIn}
use Rattle.grasp_laws_agents.specs.GoingOn.{OnlyHeard}
use Rattle.grasp_laws_negotiation.specs.Negotiations.{IsNegotiation}
use Rattle.grasp_laws_node.proofs.Consistent.Declines.{handle_state}
use Rattle.grasp_laws_prefixes.proofs.Asked.{request_stays, placed_still}
use Rattle.grasp_laws_prefixes.proofs.EntryOffers.{same_offers, offering_session}
use Rattle.grasp_laws_prefixes.proofs.NeverAccepted.{quiet_unaccepted, still_unaccepted}
use Rattle.grasp_laws_prefixes.proofs.OneNode.{seat_there}
use Rattle.grasp_laws_prefixes.proofs.OwnSessions.{one_session}
use Rattle.grasp_laws_prefixes.proofs.Places.{end_stays}
use Rattle.grasp_laws_prefixes.proofs.Speech.{accepted_before}
use Rattle.grasp_laws_prefixes.proofs.Standing.{offer_unsent, IsEndAt, IsOfferIn, IsOfferedOn, WasSettledOn, IsPlaced, StaysUnaccepted, PrefixesStand, Stays, AllStay, SeatGoesOn, WorldGoesOn, NothingHappens}
use Rattle.grasp_laws_prefixes.specs.Grounds.{Grounds}
use Rattle.grasp_laws_prefixes.specs.Apart.{HeldApart, AuthoritiesApart, offer_on}
use Rattle.grasp_laws_prefixes.specs.Known.{HasInDoubt}

module _ (l : Grounds) (s : Setting) (w : WorldState) (r : IsReached s w) where
  -- ---- what may be accepted might be before

  -- a stream on which the taking side hasn't accepted
  open_before : (y : WorldState) → IsReached s y ⊎ NothingHappens w y → AllStay w.streams y.streams → (place : ℕ) (t : StreamState) → slice_get w.streams place ≡ Some t → IsNegotiation t → begun (strip t.said) ≡ true
      → IsOpenTalk y.streams place → IsOpenTalk w.streams place
  open_before y said stay place t stands negotiation asked is_open = record { talk = t; here = stands; open_still = accepted_before (taking_side t) u.newer t.said none } where
    u : Stays y.streams place t
    u = stay place t stands

    same : is_open.talk ≡ u.after
    same = same_Some is_open.talk u.after (sym is_open.here ∙ u.stands)

    none : has_accepted (taking_side t) (u.newer ++ t.said) ≡ false
    none =
        ap (λ (c : List Said). has_accepted (taking_side t) c) (sym u.said)
        ∙ (ap (λ (o : Objective). has_accepted (other (offering_by (is_return o.value))) u.after.said) (sym (request_stays l s w r place t stands negotiation asked y said u))
        ∙ (ap (λ (x : StreamState). is_accepted x) (sym same) ∙ is_open.open_still))

  pub may_before : (y : WorldState) → IsReached s y ⊎ NothingHappens w y → AllStay w.streams y.streams → (o : Offered) → IsPlaced w.streams o ⊎ (o.talk ≡ None)
      → (Reserves y o.node o.prefix → Reserves w o.node o.prefix) → MayAccept y o o.talk → MayAccept w o o.talk
  may_before y said stay o (inl at) reserved may =
      subst (λ z. MayAccept w o z) (sym at.is) (open_before y said stay at.place at.talk at.stands at.negotiation at.asked (subst (λ z. MayAccept y o z) at.is may))
  may_before y said stay o (inr none) reserved may = subst (λ z. MayAccept w o z) (sym none) (reserved (subst (λ z. MayAccept y o z) none may))

  -- ---- what is offered was so before

  -- in a session on the same stream
  pub offered_before : (node : ℕ) (seat new : Seat) → seat_at w node ≡ Some seat → SeatGoesOn seat new → (side : Side) (h : Handle) (p : Prefix) → OffersIn new.agent side h p
      → (x : SessionState) → IsOwnSession new.core.sessions h side x → OffersIn seat.agent side h p × ((z : SessionState) × IsOwnSession seat.core.sessions h side z × (z.stream ≡ x.stream))
  offered_before node seat new here goes side h p o x own =
      let was : OffersIn seat.agent side h p = same_offers seat.agent new.agent side h p goes.giving goes.back o in
      let mine = offering_session seat.core seat.agent side h p (l.give s w r node seat here) was in
      let there = handle_state new.core.sessions h x own.at in
      let before = goes.sessions.were h.place x there.0 own.owner in
      let same : mine.0 ≡ before.0 = one_session seat.core.sessions h mine.0 before.0 mine.1.at (session_is seat.core.sessions h before.0 before.1 (sym before.2.number ∙ there.1)) in
      (was, (mine.0, mine.1, ap (λ (z : SessionState). z.stream) same ∙ sym before.2.stream))

  module _ (y : WorldState) (said : IsReached s y ⊎ NothingHappens w y) (g : WorldGoesOn w y) (k : PrefixesStand w) where
    -- ---- what is held and offered was so before

    pub held_before : (node a : ℕ) → Holds y node a → Holds w node a
    held_before node a h =
        let b = g.seats node h.seat h.here in
        record { seat = b.0; here = b.1; free = subst (λ (p : Holding). IsFree p a) b.2.pool h.free }

    kept_before : (node : ℕ) (p : Prefix) → Keeps y node p → Keeps w node p
    kept_before node p h =
        let b = g.seats node h.seat h.here in
        record { seat = b.0; here = b.1; listed = subst (λ (q : Holding). IsListed q p) b.2.pool h.listed }

    reserved_before : (node : ℕ) (p : Prefix) → Reserves y node p → Reserves w node p
    reserved_before node p h =
        let b = g.seats node h.seat h.here in
        record { seat = b.0; here = b.1; reserved = subst (λ (q : Holding). Contains q.reserved p) b.2.pool h.reserved }

    listed_before : (o : Offered) → Contains y.offers o → Contains w.offers o
    listed_before o h = subst (λ (os : List Offered). Contains os o) g.offers h

    pub authority_before : (o : Offered) → IsAuthority y o → IsAuthority w o
    authority_before o h =
        let listed = listed_before o h.listed in
        record { listed = listed; kept = kept_before o.node o.prefix h.kept; live = may_before y said g.streams o (k.known.placed o listed) (reserved_before o.node o.prefix) h.live }

    -- ---- all of it

    held : HeldApart y
    held n m a apart h j = k.held n m a apart (held_before n a h) (held_before m a j)

    authorities : AuthoritiesApart y
    authorities = record {
      held = λ o h node a i j. k.authorities.held o (authority_before o h) node a i (held_before node a j);
      others = λ o p h j differ. k.authorities.others o p (authority_before o h) (authority_before p j) differ;
    }

    -- ---- what is offered is known

    -- a node that has something listed has the same still
    seat_still : (node : ℕ) (seat : Seat) → seat_at w node ≡ Some seat → (new : Seat) × (seat_at y node ≡ Some new) × SeatGoesOn seat new
    seat_still node seat here =
        let n = seat_there w y g.count node seat here in
        let b = g.seats node n.0 n.1 in
        (n.0, n.1, subst (λ (z : Seat). SeatGoesOn z n.0) (same_Some b.0 seat (sym b.1 ∙ here)) b.2)

    kept_still : (node : ℕ) (p : Prefix) → Keeps w node p → Keeps y node p
    kept_still node p h =
        let n = seat_still node h.seat h.here in
        record { seat = n.0; here = n.1; listed = subst (λ (q : Holding). IsListed q p) (sym n.2.pool) h.listed }

    doubt_still : (life : ℕ) (p : Prefix) → HasInDoubt w life p → HasInDoubt y life p
    doubt_still life p h =
        let n = seat_still life h.seat h.here in
        record { seat = n.0; here = n.1; doubtful = subst (λ (q : Holding). Contains q.doubtful p) (sym n.2.pool) h.doubtful }

    once : (o p : Offered) → Contains y.offers o → Contains y.offers p → member_of y o.node ≡ member_of y p.node → o.prefix ≡ p.prefix → o ≡ p
    once o p h j e f = k.known.once o p (listed_before o h) (listed_before p j) (sym (same_member w y o.node g.lives) ∙ (e ∙ same_member w y p.node g.lives)) f

    carried : (o : Offered) → Contains y.offers o → is_present y o.node ≡ false → HasInDoubt y (present_life y (member_of y o.node)) o.prefix
    carried o h gone =
        subst (λ life. HasInDoubt y life o.prefix) (sym (same_present w y (member_of y o.node) g.lives ∙ ap (λ m. present_life w m) (same_member w y o.node g.lives)))
        (doubt_still (present_life w (member_of w o.node)) o.prefix (k.known.carried o (listed_before o h) (sym (same_is_present w y o.node g.lives) ∙ gone)))

    -- the stream of a session is that which it was
    pub among_still : (os us : List Offered) → us ≡ os → (node : ℕ) (side i : Side) → i ≡ side → (stream now : ℕ) (p : Prefix) → stream ≡ now
        → IsOfferIn os w node side stream p → IsOfferIn us y node i now p
    among_still os us list node side i side_is stream now p same o = record {
      place = o.place;
      at = subst (λ j. IsEndAt y.streams o.place j (end_of node now)) (sym side_is)
          (subst (λ e. IsEndAt y.streams o.place side e) end_is (end_stays w.streams y.streams g.streams o.place side (end_of node stream) o.at));
      listed = subst (λ (xs : List Offered). Contains xs (offer_on node p o.place)) (sym list) o.listed;
    } where
      end_is : end_of node stream ≡ end_of node now
      end_is = ap (end_of node) same

    offered : (node : ℕ) (new : Seat) → seat_at y node ≡ Some new → is_present y node ≡ true → (side : Side) (h : Handle) (p : Prefix) → OffersIn new.agent side h p
        → (x : SessionState) → IsOwnSession new.core.sessions h side x → IsOfferedOn y node side x.stream p
    offered node new there present side h p o x own =
        let b = g.seats node new there in
        let was = offered_before node b.0 new b.1 b.2 side h p o x own in
        among_still w.offers y.offers g.offers node side side refl was.1.0.stream x.stream p was.1.2
        (k.known.offered node b.0 b.1 (sym (same_is_present w y node g.lives) ∙ present) side h p was.0 was.1.0 was.1.1)

    unsent : (node : ℕ) (new : Seat) → seat_at y node ≡ Some new → (p : Prefix) → unsent_of new.agent.back ≡ Some p → Contains y.offers (offer_unsent node p)
    unsent node new there p e =
        let b = g.seats node new there in
        subst (λ (os : List Offered). Contains os (offer_unsent node p)) (sym g.offers)
        (k.known.unsent node b.0 b.1 p (subst (λ (z : Option Return). unsent_of z ≡ Some p) b.2.back e))

    gone : (node : ℕ) (new : Seat) → seat_at y node ≡ Some new → (x : SessionState) (p : Prefix) → Contains new.core.sessions.gone x → x.owner ≡ 1 → IsOpenOffer x.view p
        → (IsOfferedOn y node x.view.role x.stream p × Contains new.agent.pool.doubtful p) ⊎ WasSettledOn y node x.view.role x.stream p
    gone node new there x p was own is_open = from (g.seats node new there) where
      from : (seat : Seat) × (seat_at w node ≡ Some seat) × SeatGoesOn seat new → (IsOfferedOn y node x.view.role x.stream p × Contains new.agent.pool.doubtful p) ⊎ WasSettledOn y node x.view.role x.stream p
      from b = by_case (k.known.gone node b.0 b.1 x p (b.2.sessions.left x own was) own is_open) where
        by_case : (IsOfferedOn w node x.view.role x.stream p × Contains b.0.agent.pool.doubtful p) ⊎ WasSettledOn w node x.view.role x.stream p
            → (IsOfferedOn y node x.view.role x.stream p × Contains new.agent.pool.doubtful p) ⊎ WasSettledOn y node x.view.role x.stream p
        by_case (inl o) = inl (
          among_still w.offers y.offers g.offers node x.view.role x.view.role refl x.stream x.stream p refl o.0,
          subst (λ (q : Holding). Contains q.doubtful p) (sym b.2.pool) o.1,
        )
        by_case (inr o) = inr (among_still w.settled y.settled g.settled node x.view.role x.view.role refl x.stream x.stream p refl o)

    -- in a life that has ended nothing was said since in any session
    ended : (node : ℕ) (new : Seat) → seat_at y node ≡ Some new → is_present y node ≡ false → (place : ℕ) (x : SessionState) (p : Prefix) → IsAt new.core.sessions place x → x.owner ≡ 1
        → IsOpenOffer x.view p → IsOfferedOn y node x.view.role x.stream p ⊎ WasSettledOn y node x.view.role x.stream p
    ended node new there past place x p at own is_open = from (g.seats node new there) where
      from : (seat : Seat) × (seat_at w node ≡ Some seat) × SeatGoesOn seat new → IsOfferedOn y node x.view.role x.stream p ⊎ WasSettledOn y node x.view.role x.stream p
      from b = by_session (b.2.sessions.were place x at own) where
        by_session : (z : SessionState) × IsAt b.0.core.sessions place z × OnlyHeard z x → IsOfferedOn y node x.view.role x.stream p ⊎ WasSettledOn y node x.view.role x.stream p
        by_session z = by_case (k.known.ended node b.0 b.1 (sym (same_is_present w y node g.lives) ∙ past) place z.0 p z.1 (sym z.2.owner ∙ own) (open_back z.0.view x.view p z.2.view is_open)) where
          role : x.view.role ≡ z.0.view.role
          role = (heard_alike z.0.view x.view z.2.view).role

          by_case : IsOfferedOn w node z.0.view.role z.0.stream p ⊎ WasSettledOn w node z.0.view.role z.0.stream p
              → IsOfferedOn y node x.view.role x.stream p ⊎ WasSettledOn y node x.view.role x.stream p
          by_case (inl o) = inl (among_still w.offers y.offers g.offers node z.0.view.role x.view.role role z.0.stream x.stream p (sym z.2.stream) o)
          by_case (inr o) = inr (among_still w.settled y.settled g.settled node z.0.view.role x.view.role role z.0.stream x.stream p (sym z.2.stream) o)

    settled : (o : Offered) → Contains y.settled o → StaysUnaccepted y o
    settled o h = by_said said where
      was : StaysUnaccepted w o
      was = k.known.settled o (subst (λ (os : List Offered). Contains os o) g.settled h)

      by_said : IsReached s y ⊎ NothingHappens w y → StaysUnaccepted y o
      by_said (inl q) = quiet_unaccepted l s w r y g.streams o was q g
      by_said (inr none) = still_unaccepted l s w r y g.streams o was none

    pub quiet_keeps : PrefixesStand y
    quiet_keeps = record {
      known = record {
        once = once;
        placed = λ o h. placed_still l s w r y said g.streams o (k.known.placed o (listed_before o h));
        kept = λ o h. kept_still o.node o.prefix (k.known.kept o (listed_before o h));
        carried = carried;
        unsent = unsent;
        offered = offered;
        gone = gone;
        ended = ended;
        settled = settled;
      };
      held = held;
      authorities = authorities;
    }
