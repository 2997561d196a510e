-- What is known of the offers of a network is known still after an agent's own step.
use Rattle.std.proofs.Common.{◌≡◌, ◌≢◌, refl, sym, ap, ◌∙◌, subst, ℕ, true, false, inl, inr, ◌⊎◌, List, filter, Contains, Option, None, Some}
use Rattle.std.proofs.lemmas.Bool.{true≢false, cases_eq}
use Rattle.std.proofs.lemmas.Option.{none-some, same_Some}
use Rattle.grasp_agent.proofs.Keeping.{act_stands}
use Rattle.grasp_agent.specs.Kept.{IsKept}
use Rattle.grasp_agent.specs.States.{unsent_of}
use Rattle.grasp_agent.specs.declared.act.Act.TheVariants as act
use Rattle.grasp_agent.specs.declared.back.Return.{Return}
use Rattle.grasp_pool.proofs.Maximal.{cases_prefix}
use Rattle.grasp_pool.specs.Holdings.{IsFree, IsListed}
use Rattle.grasp_session.specs.Messages.{Side, Near, Far}
use Rattle.grasp_session.specs.Says.{IsAt}
use Rattle.grasp_session.specs.Sessions.{SessionState, stream_of}
use Rattle.grasp_types.specs.Prefix.{AddressBlock as Prefix, span_of}
use Rattle.grasp_types.specs.declared.objective.Objective.{Objective}
use Rattle.grasp_types.specs.declared.session.Handle.{Handle}
use Rattle.grasp_laws_network.proofs.Lives.{same_member, same_present, same_is_present}
use Rattle.grasp_laws_network.proofs.Lists.{filtered}
use Rattle.grasp_laws_network.proofs.Offers.{kept_other, kept_listed, kept_own}
use Rattle.grasp_laws_network.specs.Authorities.{Keeps}
use Rattle.grasp_model_network.specs.Offers.{JustOffered, is_kept, is_offer_of, talk_on, just_offered, offers_after}
use Rattle.grasp_model_network.specs.Runs.{IsReached}
use Rattle.grasp_model_network.specs.Sending.{seat_with}
use Rattle.grasp_model_network.specs.Setting.{Setting}
use Rattle.grasp_model_network.specs.Streams.{StreamEnd, StreamState, end_at}
use Rattle.grasp_model_network.specs.World.{Seat, Offered, WorldState, seat_at, end_of, is_present, member_of, present_life}
use Rattle.grasp_laws_delivery.proofs.FromReady.{distinct}
use Rattle.grasp_laws_delivery.proofs.OnePlace.{has_it, one_talk}
use Rattle.grasp_laws_delivery.proofs.Sides.{one_side}
use Rattle.grasp_laws_agents.specs.Giving.{Gives, IsOpenOffer, IsOwnSession, OffersIn, in_entry, in_return}
use Rattle.grasp_laws_agents.specs.Owning.{IsOwned}
use Rattle.grasp_laws_agents.specs.OfferLaws.{WasOffered, was_there, just_decided, just_requested, MayGoBack, WasOpen, was_gone, was_offer}
use Rattle.grasp_laws_negotiation.specs.Streams.{HasItsStream}
use Rattle.grasp_laws_node.proofs.Consistent.Declines.{handle_state}
use Rattle.grasp_laws_prefixes.proofs.AgentSteps.{AgentStep}
use Rattle.grasp_laws_prefixes.proofs.Asked.{placed_still}
use Rattle.grasp_laws_prefixes.proofs.Asking.{near_far}
use Rattle.grasp_laws_prefixes.proofs.BegunCalls.{IsBegun, is_begun}
use Rattle.grasp_laws_prefixes.proofs.EntryOffers.{not_requested, return_of, one_offer, offers_reserved, unsent_reserved, unsent_unoffered, offering_session}
use Rattle.grasp_laws_prefixes.proofs.Listed.{still_listed}
use Rattle.grasp_laws_prefixes.proofs.Listing.{offer_of, no_offer_of, just_listed, Comes, stayed, joined, comes_from, joins, Begins, decides, hands, begins, is_just, is_handed}
use Rattle.grasp_laws_prefixes.proofs.Members.{former_doubt}
use Rattle.grasp_laws_prefixes.proofs.NeverAccepted.{agent_unaccepted}
use Rattle.grasp_laws_prefixes.proofs.OneNode.{each_node}
use Rattle.grasp_laws_prefixes.proofs.OwnSessions.{one_session, IsTalkOf, own_talk, own_view}
use Rattle.grasp_laws_prefixes.proofs.OwnSteps.{IsCall}
use Rattle.grasp_laws_prefixes.proofs.Places.{place_found, end_stays}
use Rattle.grasp_laws_prefixes.proofs.Speech.{same_requested}
use Rattle.grasp_laws_prefixes.proofs.Standing.{offer_unsent, IsEndAt, IsOfferedOn, WasSettledOn, IsPlaced, StaysUnaccepted, OffersAreKnown, PrefixesStand}
use Rattle.grasp_laws_prefixes.specs.Apart.{offer_on}
use Rattle.grasp_laws_prefixes.specs.Known.{HasInDoubt}
use Rattle.grasp_laws_prefixes.specs.Grounds.{Grounds}

module _ (l : Grounds) (s : Setting) (w y : WorldState) (r : IsReached s w) (q : IsReached s y) (a : AgentStep w y) (k : PrefixesStand w) where
  abbrev pub new : Seat
  new = seat_with a.core a.agent

  was_kept : IsKept a.visit.seat.agent
  was_kept = l.kept s w r a.visit.node a.visit.seat a.here

  pub is_kept_now : IsKept a.agent
  is_kept_now = l.kept s y q a.visit.node (seat_with a.core a.agent) a.there

  gives : Gives a.visit.seat.core a.visit.seat.agent
  gives = l.give s w r a.visit.node a.visit.seat a.here

  gives_now : Gives a.core a.agent
  gives_now = l.give s y q a.visit.node (seat_with a.core a.agent) a.there

  -- it was just offered
  abbrev pub IsJust : JustOffered → Type 0
  IsJust j = just_offered a.visit.seat.agent a.agent ≡ Some j

  -- the offer that is listed for it
  abbrev pub newly : JustOffered → Offered
  newly j = just_listed y.streams a.visit a.core j

  -- ---- which offers are listed

  -- why an offer is listed now: it was listed, is kept and isn't of a prefix that was just offered; or it was just offered
  pub data IsListedNow (o : Offered) : Type 0 where
    was_listed : Contains w.offers o → is_kept a.visit.node a.agent.pool o ≡ true → ((j : JustOffered) → IsJust j → is_offer_of a.visit.node j.prefix o ≡ false) → IsListedNow o
    is_new : (j : JustOffered) → IsJust j → o ≡ newly j → IsListedNow o

  pub listed_now : (o : Offered) → Contains y.offers o → IsListedNow o
  unfolding offers_after
  listed_now o h =
      by_case (comes_from y.streams a.visit a.core (just_offered a.visit.seat.agent a.agent) (filter (is_kept a.visit.node a.agent.pool) w.offers) o (subst (λ (os : List Offered). Contains os o) a.offers h)) where
        by_case : Comes y.streams a.visit a.core (just_offered a.visit.seat.agent a.agent) (filter (is_kept a.visit.node a.agent.pool) w.offers) o → IsListedNow o
        by_case (stayed old apart) = let f = filtered (is_kept a.visit.node a.agent.pool) w.offers o old in was_listed f.0 f.1 apart
        by_case (joined j is e) = is_new j is e

  new_listed : (j : JustOffered) → IsJust j → Contains y.offers (newly j)
  unfolding offers_after
  new_listed j is =
      subst (λ (os : List Offered). Contains os (newly j)) (sym a.offers)
      (joins y.streams a.visit a.core (just_offered a.visit.seat.agent a.agent) (filter (is_kept a.visit.node a.agent.pool) w.offers) j is)

  -- ---- what was just offered

  -- the return that has a session now is the one that was to be requested
  handed_is : (h : Handle) (p : Prefix) (z : Return) → unsent_of a.visit.seat.agent.back ≡ Some p → a.agent.back ≡ Some z → z.session ≡ Some h → z.prefix ≡ p
  handed_is h p z unsent is on = by_case (a.moves.offered Near h z.prefix (in_return refl z is on refl)) where
    by_case : WasOffered a.visit.seat.core a.visit.seat.agent a.agent Near h z.prefix → z.prefix ≡ p
    by_case (was_there (in_entry far place g at of offer)) = absurd (near_far far)
    by_case (was_there (in_return near u at of e)) = absurd (not_requested a.visit.seat.agent.back u h p unsent at of)
    by_case (just_decided far place none act session mine unaccepted free) = absurd (near_far far)
    by_case (just_requested near before session) = same_Some z.prefix p (sym before ∙ unsent)

  -- the agent offers it
  just_in : (j : JustOffered) → IsJust j → (side : Side) × OffersIn a.agent side j.handle j.prefix
  just_in j is = by_case (begins a.visit.seat.agent a.agent j is) where
    by_case : Begins a.visit.seat.agent a.agent j → (side : Side) × OffersIn a.agent side j.handle j.prefix
    by_case (decides none place now) =
        (Far, in_entry refl place (record { handle = j.handle; offer = Some j.prefix; first = false }) (act_stands a.agent (act.Offer place j.handle j.prefix) now is_kept_now) refl refl)
    by_case (hands unsent session) =
        let z = return_of a.agent.back j.handle session in
        (Near, in_return refl z.0 z.1 z.2 (handed_is j.handle j.prefix z.0 unsent z.1 z.2))

  pub just_reserved : (j : JustOffered) → IsJust j → Contains a.agent.pool.reserved j.prefix
  just_reserved j is = let i = just_in j is in offers_reserved a.agent i.0 j.handle j.prefix is_kept_now i.1

  -- the stream of its session is the one for which it is listed
  newly_is : (j : JustOffered) (side : Side) (x : SessionState) → IsOwnSession a.core.sessions j.handle side x → (place : ℕ) → IsEndAt y.streams place side (end_of a.visit.node x.stream)
      → newly j ≡ offer_on a.visit.node j.prefix place
  newly_is j side x own place at =
      ap with_talk
      (ap (λ (o : Option SessionState). talk_on y.streams a.visit (stream_of o)) own.at
      ∙ place_found y.streams (end_of a.visit.node x.stream) place at.talk (l.ready.apart s y q (end_of a.visit.node x.stream)) at.stands
      (has_it at.talk (end_of a.visit.node x.stream) side at.end_is)) where
        with_talk : Option ℕ → Offered
        with_talk t = record { node = a.visit.node; prefix = j.prefix; talk = t }

  own_now : (side : Side) (h : Handle) (x : SessionState) → IsOwnSession a.core.sessions h side x → IsTalkOf y a.visit.node x side
  own_now side h x own = own_talk l s y q a.visit.node new a.there h side x own

  end_now : (side : Side) (x : SessionState) → (t : IsTalkOf y a.visit.node x side) → IsEndAt y.streams t.place side (end_of a.visit.node x.stream)
  end_now side x t = record { talk = t.talk; stands = t.stands; end_is = t.ends }

  -- ---- what is offered in live sessions

  -- what was offered in a session was listed for its stream
  was_on : (side : Side) (h : Handle) (p : Prefix) → OffersIn a.visit.seat.agent side h p → (x : SessionState) → IsOwnSession a.core.sessions h side x → IsOfferedOn w a.visit.node side x.stream p
  was_on side h p o x own =
      let b = offering_session a.visit.seat.core a.visit.seat.agent side h p gives o in
      subst (λ n. IsOfferedOn w a.visit.node side n p) (sym (a.moves.streams h b.0 x b.1.at b.1.owner own.at)) (k.known.offered a.visit.node a.visit.seat a.here a.present side h p o b.0 b.1)

  -- an offer stays listed, where it is reserved or in doubt and its prefix wasn't just offered
  still_on : (side : Side) (stream : ℕ) (p : Prefix) → IsListed a.agent.pool p → ((j : JustOffered) → IsJust j → ¬ (j.prefix ≡ p)) → IsOfferedOn w a.visit.node side stream p
      → IsOfferedOn y a.visit.node side stream p
  still_on side stream p pool differ o = record {
    place = o.place;
    at = end_stays w.streams y.streams a.streams o.place side (end_of a.visit.node stream) o.at;
    listed = still_listed w y a (offer_on a.visit.node p o.place) o.listed (kept_listed a.visit.node a.agent.pool (offer_on a.visit.node p o.place) pool)
        (λ j is. no_offer_of a.visit.node j.prefix (offer_on a.visit.node p o.place) (λ e f. differ j is (sym f)));
  }

  -- what was settled is so
  pub settled_on : (n : ℕ) (side : Side) (stream : ℕ) (p : Prefix) → WasSettledOn w n side stream p → WasSettledOn y n side stream p
  settled_on n side stream p o = record {
    place = o.place;
    at = end_stays w.streams y.streams a.streams o.place side (end_of n stream) o.at;
    listed = subst (λ (os : List Offered). Contains os (offer_on n p o.place)) (sym a.settled) o.listed;
  }

  own_offer : (side : Side) (h : Handle) (p : Prefix) → OffersIn a.agent side h p → (x : SessionState) → IsOwnSession a.core.sessions h side x → IsOfferedOn y a.visit.node side x.stream p
  own_offer side h p o x own = by_just (just_offered a.visit.seat.agent a.agent) refl where
    t : IsTalkOf y a.visit.node x side
    t = own_now side h x own

    -- what was just offered of this prefix is this offer
    new_is : (j : JustOffered) → IsJust j → j.prefix ≡ p → IsOfferedOn y a.visit.node side x.stream p
    new_is j is e = record {
      place = t.place;
      at = end_now side x t;
      listed = subst (λ z. Contains y.offers z) (newly_is j side x (subst (λ i. IsOwnSession a.core.sessions i side x) handle_is own) t.place (end_now side x t) ∙ ap (λ z. offer_on a.visit.node z t.place) e) (new_listed j is);
    } where
      handle_is : h ≡ j.handle
      handle_is = let i = just_in j is in one_offer a.agent side i.0 h j.handle p is_kept_now o (subst (λ z. OffersIn a.agent i.0 j.handle z) e i.1)

    old_is : ((j : JustOffered) → IsJust j → ¬ (j.prefix ≡ p)) → IsOfferedOn y a.visit.node side x.stream p
    old_is differ = by_case (a.moves.offered side h p o) where
      by_case : WasOffered a.visit.seat.core a.visit.seat.agent a.agent side h p → IsOfferedOn y a.visit.node side x.stream p
      by_case (was_there before) = still_on side x.stream p (inl (offers_reserved a.agent side h p is_kept_now o)) differ (was_on side h p before x own)
      by_case (just_decided far place none is session mine unaccepted free) = absurd (differ (record { prefix = p; handle = h }) (is_just a.visit.seat.agent a.agent place h p none is) refl)
      by_case (just_requested near unsent session) = absurd (differ (record { prefix = p; handle = h }) (is_handed a.visit.seat.agent a.agent h p unsent session (a.alone p unsent)) refl)

    by_just : (o : Option JustOffered) → just_offered a.visit.seat.agent a.agent ≡ o → IsOfferedOn y a.visit.node side x.stream p
    by_just None none = old_is (λ j is e. none-some j (sym none ∙ is))
    by_just (Some j) is = by_prefix (cases_prefix j.prefix p) where
      by_prefix : (j.prefix ≡ p) ⊎ (¬ (j.prefix ≡ p)) → IsOfferedOn y a.visit.node side x.stream p
      by_prefix (inl e) = new_is j is e
      by_prefix (inr differ) = old_is (λ i f e. differ (ap (λ (z : JustOffered). z.prefix) (same_Some j i (sym is ∙ f)) ∙ e))

  -- ---- the sessions that are no longer live

  -- an open offer of one is listed for its stream, and in doubt, or was settled
  abbrev GoneKnown : SessionState → Prefix → Type 0
  GoneKnown x p = (IsOfferedOn y a.visit.node x.view.role x.stream p × Contains a.agent.pool.doubtful p) ⊎ WasSettledOn y a.visit.node x.view.role x.stream p

  own_gone : (x : SessionState) (p : Prefix) → Contains a.core.sessions.gone x → x.owner ≡ 1 → IsOpenOffer x.view p → GoneKnown x p
  own_gone x p gone own is_open = by_case (a.moves.doubts x p gone own is_open) where
    still : (side : Side) → Contains a.agent.pool.doubtful p → IsOfferedOn w a.visit.node side x.stream p → IsOfferedOn y a.visit.node side x.stream p
    still side doubt o = still_on side x.stream p (inr doubt) (λ j is e. is_kept_now.pool.once j.prefix (just_reserved j is) (subst (λ z. Contains a.agent.pool.doubtful z) (sym e) doubt)) o

    was_so : (IsOfferedOn w a.visit.node x.view.role x.stream p × Contains a.visit.seat.agent.pool.doubtful p) ⊎ WasSettledOn w a.visit.node x.view.role x.stream p → GoneKnown x p
    was_so (inl o) = let doubt = a.moves.keeps_doubts p o.1 in inl (still x.view.role doubt o.0, doubt)
    was_so (inr o) = inr (settled_on a.visit.node x.view.role x.stream p o)

    -- the session is that side of its stream which it is
    side_is : (side : Side) (place : ℕ) → IsEndAt y.streams place side (end_of a.visit.node x.stream) → side ≡ x.view.role
    side_is side place at = one_side t.talk e side t.side (distinct l.ready s y q t.place t.talk t.stands) (ap (λ (u : StreamState). end_at u side) (sym same) ∙ at.end_is) t.ends ∙ sym t.role where
      e : StreamEnd
      e = end_of a.visit.node x.stream

      t : HasItsStream y a.visit.node x
      t = l.streams.each s y q a.visit.node (seat_with a.core a.agent) a.there x (inr gone)

      same : at.talk ≡ t.talk
      same =
          one_talk (end_of a.visit.node x.stream) y.streams place t.place at.talk t.talk (l.ready.apart s y q (end_of a.visit.node x.stream)) at.stands (has_it at.talk (end_of a.visit.node x.stream) side at.end_is)
          t.stands (has_it t.talk (end_of a.visit.node x.stream) t.side t.ends)

    by_case : WasOpen a.visit.seat.core a.visit.seat.agent a.agent x p → GoneKnown x p
    by_case (was_gone before) = was_so (k.known.gone a.visit.node a.visit.seat a.here x p before own is_open)
    by_case (was_offer side h session o at stream doubt) = by_side (offering_session a.visit.seat.core a.visit.seat.agent side h p gives o) where
      by_side : (z : SessionState) × IsOwnSession a.visit.seat.core.sessions h side z → GoneKnown x p
      by_side b =
          let same : b.0 ≡ session = one_session a.visit.seat.core.sessions h b.0 session b.1.at at in
          let now =
          still side doubt
          (subst (λ n. IsOfferedOn w a.visit.node side n p) (ap (λ (z : SessionState). z.stream) same ∙ sym stream) (k.known.offered a.visit.node a.visit.seat a.here a.present side h p o b.0 b.1)) in
          inl (subst (λ i. IsOfferedOn y a.visit.node i x.stream p) (side_is side now.place now.at) now, doubt)

  -- ---- what is to be requested

  own_unsent : (p : Prefix) → unsent_of a.agent.back ≡ Some p → Contains y.offers (offer_unsent a.visit.node p)
  own_unsent p e =
      still_listed w y a (offer_unsent a.visit.node p) (k.known.unsent a.visit.node a.visit.seat a.here p (a.moves.unsent p e))
      (kept_listed a.visit.node a.agent.pool (offer_unsent a.visit.node p) (inl (unsent_reserved a.agent p is_kept_now e)))
      (λ j is. no_offer_of a.visit.node j.prefix (offer_unsent a.visit.node p) (λ g f. none j is (sym f))) where
        none : (j : JustOffered) → IsJust j → ¬ (j.prefix ≡ p)
        none j is same = let i = just_in j is in unsent_unoffered a.agent i.0 j.handle p is_kept_now e (subst (λ q. OffersIn a.agent i.0 j.handle q) same i.1)

  -- ---- the other nodes

  pub other_still : (n : ℕ) (side : Side) (stream : ℕ) (p : Prefix) → n ≢ a.visit.node → IsOfferedOn w n side stream p → IsOfferedOn y n side stream p
  other_still n side stream p apart o = record {
    place = o.place;
    at = end_stays w.streams y.streams a.streams o.place side (end_of n stream) o.at;
    listed = still_listed w y a (offer_on n p o.place) o.listed (kept_other a.visit.node a.agent.pool (offer_on n p o.place) apart) (λ j is. no_offer_of a.visit.node j.prefix (offer_on n p o.place) (λ e f. apart e));
  }

  -- ---- each offer

  just_session : (j : JustOffered) → (is : IsJust j) → (x : SessionState) × IsOwnSession a.core.sessions j.handle (just_in j is).0 x
  just_session j is = let i = just_in j is in offering_session a.core a.agent i.0 j.handle j.prefix gives_now i.1

  -- what was just offered is for a stream that is there
  newly_placed : (j : JustOffered) → IsJust j → IsPlaced y.streams (newly j)
  newly_placed j is = from (just_in j is).0 (just_session j is).0 (just_session j is).1 where
    from : (side : Side) (x : SessionState) → IsOwnSession a.core.sessions j.handle side x → IsPlaced y.streams (newly j)
    from side x own =
        let t = own_now side j.handle x own in
        let view = own_view l s y q a.visit.node x side t in
        let owned : IsOwned x = l.owned s y q a.visit.node new a.there j.handle.place x (handle_state a.core.sessions j.handle x own.at).0 in
        record {
          place = t.place;
          talk = t.talk;
          is = ap (λ (o : Offered). o.talk) (newly_is j side x own t.place (end_now side x t));
          stands = t.stands;
          negotiation = t.negotiation;
          asked = view.was_requested;
          name = ap (λ (o : Objective). o.name) (sym (same_requested t.talk.said) ∙ sym view.same_request) ∙ (owned.own own.owner).1;
        }

  -- what was just offered was listed and reserved before; or it was to be requested; or its addresses were free, or were given back
  pub data NewFrom (j : JustOffered) : Type 0 where
    from_old : Contains w.offers (newly j) → Contains a.visit.seat.agent.pool.reserved j.prefix → NewFrom j
    from_unsent : unsent_of a.visit.seat.agent.back ≡ Some j.prefix → NewFrom j
    from_free : ((address : ℕ) → span_of j.prefix address → IsFree a.visit.seat.agent.pool address ⊎ ((z : Prefix) × span_of z address × MayGoBack a.visit.seat.core a.visit.seat.agent z)) → NewFrom j

  pub new_from : (j : JustOffered) → IsJust j → NewFrom j
  new_from j is = by_case (just_in j is).0 (just_session j is).0 (just_session j is).1 (a.moves.offered (just_in j is).0 j.handle j.prefix (just_in j is).1) where
    by_case : (side : Side) (x : SessionState) → IsOwnSession a.core.sessions j.handle side x → WasOffered a.visit.seat.core a.visit.seat.agent a.agent side j.handle j.prefix → NewFrom j
    by_case side x own (was_there before) =
        let o = was_on side j.handle j.prefix before x own in
        from_old
        (subst (λ z. Contains w.offers z) (sym (newly_is j side x own o.place (end_stays w.streams y.streams a.streams o.place side (end_of a.visit.node x.stream) o.at))) o.listed)
        (offers_reserved a.visit.seat.agent side j.handle j.prefix was_kept before)
    by_case side x own (just_decided far place none act session mine unaccepted free) = from_free free
    by_case side x own (just_requested near unsent session) = from_unsent unsent

  placed : (o : Offered) → IsListedNow o → IsPlaced y.streams o ⊎ (o.talk ≡ None)
  placed o (was_listed listed kept apart) = placed_still l s w r y (inl q) a.streams o (k.known.placed o listed)
  placed o (is_new j is e) = inl (subst (λ z. IsPlaced y.streams z) (sym e) (newly_placed j is))

  -- a prefix that was just offered was offered by no other life of the member
  just_alone : (j : JustOffered) → IsJust j → (o : Offered) → Contains w.offers o → member_of w o.node ≡ member_of w a.visit.node → o.prefix ≡ j.prefix → is_offer_of a.visit.node j.prefix o ≡ false → ⊥
  just_alone j is o listed e f apart = by_node (cases_eq o.node a.visit.node) where
    by_node : (o.node ≡ a.visit.node) ⊎ (o.node ≡ a.visit.node → ⊥) → ⊥
    by_node (inl same) = true≢false (sym (offer_of a.visit.node j.prefix o same f) ∙ apart)
    by_node (inr differs) =
        is_kept_now.pool.once j.prefix (just_reserved j is)
        (subst (λ z. Contains a.agent.pool.doubtful z) f (a.moves.keeps_doubts o.prefix (former_doubt w k.known a.visit.node a.visit.seat a.here o listed a.present e differs)))

  node_is : (o : Offered) (j : JustOffered) → o ≡ newly j → member_of w o.node ≡ member_of w a.visit.node
  node_is o j e = ap (λ (x : Offered). member_of w x.node) e

  pub once_now : (o p : Offered) → IsListedNow o → IsListedNow p → member_of w o.node ≡ member_of w p.node → o.prefix ≡ p.prefix → o ≡ p
  once_now o p (was_listed a0 b0 c0) (was_listed a1 b1 c1) e f = k.known.once o p a0 a1 e f
  once_now o p (was_listed a0 b0 c0) (is_new j d i) e f = absurd (just_alone j d o a0 (e ∙ node_is p j i) (f ∙ ap (λ (x : Offered). x.prefix) i) (c0 j d))
  once_now o p (is_new j d i) (was_listed a1 b1 c1) e f = absurd (just_alone j d p a1 (sym e ∙ node_is o j i) (sym f ∙ ap (λ (x : Offered). x.prefix) i) (c1 j d))
  once_now o p (is_new j d i) (is_new n c u) e f = i ∙ (ap (λ z. newly z) (same_Some j n (sym d ∙ c)) ∙ sym u)

  same_members : (o p : Offered) → member_of y o.node ≡ member_of y p.node → member_of w o.node ≡ member_of w p.node
  same_members o p e = sym (same_member w y o.node a.lives) ∙ (e ∙ same_member w y p.node a.lives)

  -- what is listed its life has reserved or in doubt
  kept_now : (o : Offered) → IsListedNow o → Keeps y o.node o.prefix
  kept_now o (is_new j is e) = subst (λ (z : Offered). Keeps y z.node z.prefix) (sym e) (record { seat = new; here = a.there; listed = inl (just_reserved j is) })
  kept_now o (was_listed listed kept apart) = by_node (cases_eq o.node a.visit.node) where
    by_node : (o.node ≡ a.visit.node) ⊎ (o.node ≡ a.visit.node → ⊥) → Keeps y o.node o.prefix
    by_node (inl same) = record { seat = new; here = ap (λ n. seat_at y n) same ∙ a.there; listed = kept_own a.visit.node a.agent.pool o kept same }
    by_node (inr differs) = let c = k.known.kept o listed in record { seat = c.seat; here = a.others o.node differs ∙ c.here; listed = c.listed }

  -- and what a former life offered, the present one has in doubt
  doubt_still : (life : ℕ) (p : Prefix) → HasInDoubt w life p → HasInDoubt y life p
  doubt_still life p d = by_node (cases_eq life a.visit.node) where
    by_node : (life ≡ a.visit.node) ⊎ (life ≡ a.visit.node → ⊥) → HasInDoubt y life p
    by_node (inl same) = record {
      seat = new;
      here = ap (λ n. seat_at y n) same ∙ a.there;
      doubtful = a.moves.keeps_doubts p
          (subst (λ (z : Seat). Contains z.agent.pool.doubtful p) (same_Some d.seat a.visit.seat (sym d.here ∙ (ap (λ n. seat_at w n) same ∙ a.here))) d.doubtful);
    }
    by_node (inr differs) = record { seat = d.seat; here = a.others life differs ∙ d.here; doubtful = d.doubtful }

  carried_now : (o : Offered) → IsListedNow o → is_present y o.node ≡ false → HasInDoubt y (present_life y (member_of y o.node)) o.prefix
  carried_now o (was_listed listed kept apart) past =
      subst (λ life. HasInDoubt y life o.prefix) (sym (same_present w y (member_of y o.node) a.lives ∙ ap (λ m. present_life w m) (same_member w y o.node a.lives)))
      (doubt_still (present_life w (member_of w o.node)) o.prefix (k.known.carried o listed (sym (same_is_present w y o.node a.lives) ∙ past)))
  carried_now o (is_new j is e) past =
      absurd (true≢false (sym a.present ∙ (sym (ap (λ (x : Offered). is_present w x.node) e) ∙ (sym (same_is_present w y o.node a.lives) ∙ past))))

  -- what holds of the node of the step as it is now, and of each other node, holds of every node
  pub by_node : (P : ℕ → Seat → Type 0) → P a.visit.node new → ((n : ℕ) (seat : Seat) → n ≢ a.visit.node → seat_at w n ≡ Some seat → P n seat) → (n : ℕ) (seat : Seat) → seat_at y n ≡ Some seat → P n seat
  by_node P = each_node w y a.visit.node new a.there a.others P

  unsent : (n : ℕ) (seat : Seat) → seat_at y n ≡ Some seat → (p : Prefix) → unsent_of seat.agent.back ≡ Some p → Contains y.offers (offer_unsent n p)
  unsent n seat found p = by_node (λ m z. unsent_of z.agent.back ≡ Some p → Contains y.offers (offer_unsent m p)) (own_unsent p)
      (λ m z apart here e. still_listed w y a (offer_unsent m p) (k.known.unsent m z here p e) (kept_other a.visit.node a.agent.pool (offer_unsent m p) apart)
      (λ j is. no_offer_of a.visit.node j.prefix (offer_unsent m p) (λ g f. apart g))) n seat found

  offered : (n : ℕ) (seat : Seat) → seat_at y n ≡ Some seat → is_present y n ≡ true → (side : Side) (h : Handle) (p : Prefix) → OffersIn seat.agent side h p
      → (x : SessionState) → IsOwnSession seat.core.sessions h side x → IsOfferedOn y n side x.stream p
  offered n seat found present side h p o x own = by_node
      (λ m z. is_present y m ≡ true → OffersIn z.agent side h p → IsOwnSession z.core.sessions h side x → IsOfferedOn y m side x.stream p) (λ is there mine. own_offer side h p there x mine)
      (λ m z apart here is there mine. other_still m side x.stream p apart (k.known.offered m z here (sym (same_is_present w y m a.lives) ∙ is) side h p there x mine)) n seat found present o own

  gone : (n : ℕ) (seat : Seat) → seat_at y n ≡ Some seat → (x : SessionState) (p : Prefix) → Contains seat.core.sessions.gone x → x.owner ≡ 1 → IsOpenOffer x.view p
      → (IsOfferedOn y n x.view.role x.stream p × Contains seat.agent.pool.doubtful p) ⊎ WasSettledOn y n x.view.role x.stream p
  gone n seat found x p was own is_open = by_node
      (λ m z. Contains z.core.sessions.gone x → (IsOfferedOn y m x.view.role x.stream p × Contains z.agent.pool.doubtful p) ⊎ WasSettledOn y m x.view.role x.stream p) (λ there. own_gone x p there own is_open)
      (λ m z apart here there. by_case m z apart (k.known.gone m z here x p there own is_open)) n seat found was where
        by_case : (m : ℕ) (z : Seat) → m ≢ a.visit.node → (IsOfferedOn w m x.view.role x.stream p × Contains z.agent.pool.doubtful p) ⊎ WasSettledOn w m x.view.role x.stream p
            → (IsOfferedOn y m x.view.role x.stream p × Contains z.agent.pool.doubtful p) ⊎ WasSettledOn y m x.view.role x.stream p
        by_case m z apart (inl e) = inl (other_still m x.view.role x.stream p apart e.0, e.1)
        by_case m z apart (inr e) = inr (settled_on m x.view.role x.stream p e)

  ended : (n : ℕ) (seat : Seat) → seat_at y n ≡ Some seat → is_present y n ≡ false → (place : ℕ) (x : SessionState) (p : Prefix) → IsAt seat.core.sessions place x → x.owner ≡ 1 → IsOpenOffer x.view p
      → IsOfferedOn y n x.view.role x.stream p ⊎ WasSettledOn y n x.view.role x.stream p
  ended n seat found past place x p at own is_open = by_node
      (λ m z. is_present y m ≡ false → IsAt z.core.sessions place x → IsOfferedOn y m x.view.role x.stream p ⊎ WasSettledOn y m x.view.role x.stream p)
      (λ gone there. absurd (true≢false (sym a.present ∙ (sym (same_is_present w y a.visit.node a.lives) ∙ gone))))
      (λ m z apart here gone there. by_case m apart (k.known.ended m z here (sym (same_is_present w y m a.lives) ∙ gone) place x p there own is_open)) n seat found past at where
        by_case : (m : ℕ) → m ≢ a.visit.node → IsOfferedOn w m x.view.role x.stream p ⊎ WasSettledOn w m x.view.role x.stream p
            → IsOfferedOn y m x.view.role x.stream p ⊎ WasSettledOn y m x.view.role x.stream p
        by_case m apart (inl e) = inl (other_still m x.view.role x.stream p apart e)
        by_case m apart (inr e) = inr (settled_on m x.view.role x.stream p e)

  settled : (c : IsCall w y a) → IsBegun w y a c → (o : Offered) → Contains y.settled o → StaysUnaccepted y o
  settled c b o h = agent_unaccepted l s w r y a.streams o (k.known.settled o (subst (λ (os : List Offered). Contains os o) a.settled h)) q a c b

  pub offers_known : IsCall w y a → OffersAreKnown y
  offers_known c = record {
    once = λ o p h j e f. once_now o p (listed_now o h) (listed_now p j) (same_members o p e) f;
    placed = λ o h. placed o (listed_now o h);
    kept = λ o h. kept_now o (listed_now o h);
    carried = λ o h. carried_now o (listed_now o h);
    unsent = unsent;
    offered = offered;
    gone = gone;
    ended = ended;
    settled = settled c (is_begun l s w y r a c);
  }
