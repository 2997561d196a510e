-- The offers that an agent's own step frees or takes were all that might be accepted.
use Rattle.std.proofs.Common.{◌≡◌, ◌≢◌, refl, sym, ap, ◌∙◌, subst, ℕ, true, false, inl, inr, ◌⊎◌, List, Contains, None, Some, slice_get}
use Rattle.std.proofs.lemmas.Bool.{true≢false}
use Rattle.std.proofs.lemmas.Option.{same_Some}
use Rattle.grasp_agent.specs.Calls.{objective_name}
use Rattle.grasp_agent.specs.States.{AgentState, unsent_of}
use Rattle.grasp_model_node.specs.Node.{NodeState}
use Rattle.grasp_laws_session.proofs.Follows.{other_other}
use Rattle.grasp_session.proofs.Facts.{allowed_goes}
use Rattle.grasp_session.specs.Conversation.{Said, strip, requested, accepted_by, ended, turn, spoken}
use Rattle.grasp_session.specs.Laws.{IsView, Accepting}
use Rattle.grasp_session.specs.Messages.{Side, other}
use Rattle.grasp_session.specs.Sessions.{SessionState}
use Rattle.grasp_session.specs.Transcript.{Transcript, SayEnd, having_said, known, sent_of, session_of}
use Rattle.grasp_session.specs.declared.answer.Act.TheVariants as session_act
use Rattle.grasp_types.specs.Prefix.{AddressBlock as Prefix}
use Rattle.grasp_types.specs.declared.message.Message.TheVariants.{End}
use Rattle.grasp_types.specs.declared.message.Verdict.TheVariants.{Accept}
use Rattle.grasp_types.specs.declared.objective.Objective.{Objective}
use Rattle.grasp_types.specs.declared.session.Kind.TheVariants.{Negotiation}
use Rattle.grasp_laws_network.specs.Authorities.{IsOpenTalk, IsAuthority}
use Rattle.grasp_model_network.specs.Accepting.{is_return, offering_by, taking_side, is_accepted, has_accepted}
use Rattle.grasp_model_network.specs.Offers.{offers_after}
use Rattle.grasp_model_network.specs.Runs.{IsReached}
use Rattle.grasp_model_network.specs.Sending.{seat_with}
use Rattle.grasp_model_network.specs.Setting.{Setting}
use Rattle.grasp_model_network.specs.Settling.{NeverAccepts}
use Rattle.grasp_model_network.specs.Streams.{StreamEnd, StreamState, end_at}
use Rattle.grasp_laws_network.specs.Views.{view_at}
use Rattle.grasp_model_network.specs.Visits.{Visit}
use Rattle.grasp_model_network.specs.World.{Seat, WorldState, seat_at, end_of, is_present}
use Rattle.grasp_laws_agents.specs.Owning.{IsOwned}
use Rattle.grasp_laws_agents.specs.Giving.{IsOpenOffer}
use Rattle.grasp_laws_agents.specs.OfferLaws.{AgentMoves, MayGoBack, IsAcceptance}
use Rattle.grasp_laws_node.proofs.Consistent.Declines.{handle_state}
use Rattle.grasp_laws_prefixes.proofs.Asked.{request_stays, placed_one}
use Rattle.grasp_laws_prefixes.proofs.Asking.{is_asking}
use Rattle.grasp_laws_prefixes.proofs.EntryOffers.{offers_reserved, unsent_reserved}
use Rattle.grasp_laws_prefixes.proofs.Givers.{gave_owner, gave_there, offering_there}
use Rattle.grasp_laws_prefixes.proofs.OpenOffers.{IsKnownOn, open_known}
use Rattle.grasp_laws_prefixes.proofs.OwnSessions.{handle_made, IsSessionAt, session_there, IsViewOf, view_of, IsTalkOf, talk_of, own_talk, own_view}
use Rattle.grasp_laws_prefixes.proofs.Places.{same_place}
use Rattle.grasp_laws_prefixes.proofs.Speech.{never_accepted, open_unaccepted, said_acceptance, accepting_open}
use Rattle.grasp_laws_prefixes.proofs.Standing.{offer_unsent, IsOfferedOn, WasSettledOn, StaysUnaccepted, PrefixesStand, Stays, AllStay}
use Rattle.grasp_laws_prefixes.specs.Apart.{offer_on}
use Rattle.grasp_laws_prefixes.specs.Grounds.{Grounds}

-- the network after an agent's own step in a present life, with what that left
pub record AgentStep (w y : WorldState) : Type 0 where
  pub visit : Visit
  pub core : NodeState
  pub agent : AgentState
  pub here : seat_at w visit.node ≡ Some visit.seat
  pub present : is_present w visit.node ≡ true
  pub there : seat_at y visit.node ≡ Some (seat_with core agent)
  pub others : (n : ℕ) → n ≢ visit.node → seat_at y n ≡ seat_at w n
  pub offers : y.offers ≡ offers_after y.streams w visit core agent
  pub settled : y.settled ≡ w.settled
  pub lives : y.lives ≡ w.lives
  pub streams : AllStay w.streams y.streams
  pub moves : AgentMoves visit.seat.core core visit.seat.agent agent
  -- where a return is to be requested, nothing is decided
  pub alone : (p : Prefix) → unsent_of visit.seat.agent.back ≡ Some p → visit.seat.agent.act ≡ None → agent.act ≡ None

-- an offer of this prefix that may be accepted
pub record IsOfferOf (w : WorldState) (node : ℕ) (p : Prefix) : Type 0 where
  pub place : ℕ
  pub authority : IsAuthority w (offer_on node p place)

module _ (l : Grounds) (s : Setting) (w : WorldState) (r : IsReached s w) (k : PrefixesStand w) where
  -- an offer that is listed for the stream of a session is for that stream
  listed_at : (node : ℕ) (side : Side) (stream : ℕ) (p : Prefix) (place : ℕ) (t : StreamState) → slice_get w.streams place ≡ Some t → end_at t side ≡ Some (end_of node stream)
      → IsOfferedOn w node side stream p → Contains w.offers (offer_on node p place)
  listed_at node side stream p place t stands ends o =
      let same : o.place ≡ place = same_place l.ready s w r (end_of node stream) o.place place o.at.talk t side side o.at.stands o.at.end_is stands ends in
      subst (λ n. Contains w.offers (offer_on node p n)) same o.listed

  -- ---- an offer that is given back

  pub given_offer : (node : ℕ) (seat : Seat) → seat_at w node ≡ Some seat → is_present w node ≡ true → (p : Prefix) → MayGoBack seat.core seat.agent p → IsOfferOf w node p
  given_offer node seat here present p g = record {
    place = t.place;
    authority = record {
      listed = listed_at node g.side g.session.stream p t.place t.talk t.stands t.ends (k.known.offered node seat here present g.side g.handle p g.offers g.session g.own);
      kept = record { seat = seat; here = here; listed = inl (offers_reserved seat.agent g.side g.handle p (l.kept s w r node seat here) g.offers) };
      live = record { talk = t.talk; here = t.stands; open_still = never_accepted (taking_side t.talk) t.talk.said (l.in_order s w r t.place t.talk t.stands t.negotiation) unaccepted };
    };
  } where
    t : IsTalkOf w node g.session g.side
    t = own_talk l s w r node seat here g.handle g.side g.session g.own

    view : IsView g.side t.talk.said g.session.view
    view = own_view l s w r node g.session g.side t

    whole : (turn (known g.session.view) ≡ g.session.view.role) ⊎ (ended (known g.session.view) ≡ true) → known g.session.view ≡ strip t.talk.said
    whole (inl mine) = view.whole (inl (mine ∙ view.role))
    whole (inr over) = view.whole (inr over)

    unaccepted : accepted_by (taking_side t.talk) (strip t.talk.said) ≡ false
    unaccepted = ap (λ (c : List Said). accepted_by (taking_side t.talk) c) (sym (whole g.unaccepted.whole)) ∙ g.unaccepted.no_acceptance (taking_side t.talk)

  -- ---- an offer that is to be made

  -- what is to be requested might be accepted
  pub unsent_authority : (node : ℕ) (seat : Seat) → seat_at w node ≡ Some seat → (p : Prefix) → unsent_of seat.agent.back ≡ Some p → IsAuthority w (offer_unsent node p)
  unsent_authority node seat here p e =
      let reserved = unsent_reserved seat.agent p (l.kept s w r node seat here) e in
      record {
        listed = k.known.unsent node seat here p e;
        kept = record { seat = seat; here = here; listed = inl reserved };
        live = record { seat = seat; here = here; reserved = reserved };
      }

  -- ---- an offer that is accepted

  module _ (node : ℕ) (seat : Seat) (here : seat_at w node ≡ Some seat) (present : is_present w node ≡ true) (after : NodeState) (p : Prefix) (g : IsAcceptance seat.core after seat.agent p) where
    pub mine : IsTalkOf w node g.session g.side
    mine = own_talk l s w r node seat here g.handle g.side g.session g.own

    pub peer : (u : Transcript) × (view_at w mine.talk (other g.side) ≡ Some u)
    peer = (l.known s w r mine.place mine.talk mine.stands mine.negotiation).peer g.side g.session.view mine.saw g.may

    accepting : Accepting g.side mine.talk.said g.session.view peer.0
    accepting = (l.known s w r mine.place mine.talk mine.stands mine.negotiation).accepts g.side g.session.view peer.0 mine.saw peer.1 g.may

    their_view : IsView (other g.side) mine.talk.said peer.0
    their_view = (l.known s w r mine.place mine.talk mine.stands mine.negotiation).views (other g.side) peer.0 peer.1

    my_view : IsView g.side mine.talk.said g.session.view
    my_view = own_view l s w r node g.session g.side mine

    is_open : IsOpenOffer peer.0 p
    is_open = accepting_open g.side mine.talk.said g.session.view peer.0 p g.own.role their_view accepting g.offer

    name : (requested (strip mine.talk.said)).name ≡ objective_name
    name =
        let owned : IsOwned g.session = l.owned s w r node seat here g.handle.place g.session (handle_state seat.core.sessions g.handle g.session g.own.at).0 in
        ap (λ (o : Objective). o.name) (sym my_view.same_request) ∙ (owned.own g.own.owner).1

    pub theirs : IsViewOf w mine.talk (other g.side) peer.0
    theirs = view_of w mine.talk (other g.side) peer.0 peer.1

    there : IsSessionAt w theirs.at theirs.session
    there = session_there w theirs.at theirs.session theirs.found

    seen : IsView (other g.side) mine.talk.said theirs.session.view
    seen = subst (λ u. IsView (other g.side) mine.talk.said u) (sym theirs.view) their_view

    open_there : IsOpenOffer theirs.session.view p
    open_there = subst (λ u. IsOpenOffer u p) (sym theirs.view) is_open

    -- the other end offers, so this one takes
    pub takes : taking_side mine.talk ≡ g.side
    takes =
        ap (λ k. other k) (offering_there l s w r theirs.at (other g.side) mine.place mine.talk mine.stands mine.negotiation theirs.session there p seen name open_there) ∙ other_other g.side

    -- the offer isn't settled: that is never accepted
    not_settled : WasSettledOn w theirs.at.node (other g.side) theirs.session.stream p → ⊥
    not_settled o = never.over (is_asking w mine.talk (ap (λ (e : StreamEnd). is_present w e.node) near_is ∙ present) seat (ap (λ (e : StreamEnd). seat_at w e.node) near_is ∙ here) (record {
      place = g.handle.place;
      session = g.session;
      at = (handle_state seat.core.sessions g.handle g.session g.own.at).0;
      on = sym (ap (λ (e : StreamEnd). e.number) near_is);
      going = allowed_goes g.session.view session_act.End g.may;
    })) where
      end_is : StreamEnd
      end_is = end_of theirs.at.node theirs.session.stream

      place_is : o.place ≡ mine.place
      place_is = same_place l.ready s w r end_is o.place mine.place o.at.talk mine.talk (other g.side) (other g.side) o.at.stands o.at.end_is mine.stands (theirs.ends ∙ ap (λ e. Some e) there.end_is)

      stays : StaysUnaccepted w (offer_on theirs.at.node p o.place)
      stays = k.known.settled (offer_on theirs.at.node p o.place) o.listed

      never : NeverAccepts w mine.talk
      never =
          subst (λ t. NeverAccepts w t)
          (placed_one w.streams (offer_on theirs.at.node p o.place) stays.at mine.place mine.talk (ap (λ n. Some n) place_is) mine.stands) stays.never

      near_is : mine.talk.near ≡ end_of node g.session.stream
      near_is = same_Some mine.talk.near (end_of node g.session.stream) (ap (λ i. end_at mine.talk i) (sym never.takes ∙ takes) ∙ mine.ends)

    -- so it is listed at the other end
    offer_there : Contains w.offers (offer_on theirs.at.node p mine.place)
    offer_there = from (open_known l s w r theirs.at.node there.seat there.here theirs.session p owner open_there k.known there.made) where
      owner : theirs.session.owner ≡ 1
      owner = gave_owner there.seat theirs.session p (gave_there l s w r theirs.at (other g.side) mine.place mine.talk mine.stands mine.negotiation theirs.session there p seen name open_there)

      from : IsKnownOn w theirs.at.node theirs.session p → Contains w.offers (offer_on theirs.at.node p mine.place)
      from (inl o) =
          listed_at theirs.at.node (other g.side) theirs.session.stream p mine.place mine.talk mine.stands (theirs.ends ∙ ap (λ e. Some e) there.end_is)
          (subst (λ i. IsOfferedOn w theirs.at.node i theirs.session.stream p) seen.role o)
      from (inr o) = absurd (not_settled (subst (λ i. WasSettledOn w theirs.at.node i theirs.session.stream p) seen.role o))

    pub accepted_offer : IsAuthority w (offer_on theirs.at.node p mine.place)
    accepted_offer = record {
      listed = offer_there;
      kept = k.known.kept (offer_on theirs.at.node p mine.place) offer_there;
      live = record {
        talk = mine.talk;
        here = mine.stands;
        open_still = never_accepted (taking_side mine.talk) mine.talk.said (l.in_order s w r mine.place mine.talk mine.stands mine.negotiation)
            (open_unaccepted (taking_side mine.talk) (strip mine.talk.said) accepting.no_end);
      };
    }

    -- after it the taking side has accepted
    pub spent : (y : WorldState) → IsReached s y → AllStay w.streams y.streams → (agent : AgentState) → seat_at y node ≡ Some (seat_with after agent) → ¬ IsOpenTalk y.streams mine.place
    spent y q stay agent now open_still =
        true≢false (sym said ∙ (ap (λ k. has_accepted k of.talk.said) (sym (takes_now ∙ takes)) ∙ (ap (λ (x : StreamState). is_accepted x) (sym same) ∙ open_still.open_still)))
      where
        x : SessionState
        x = g.said.0

        said_view : x.view ≡ having_said g.session.view g.now (SayEnd Accept)
        said_view = g.said.1.2

        kind : x.view.kind ≡ Negotiation
        kind =
            let owned : IsOwned g.session = l.owned s w r node seat here g.handle.place g.session (handle_state seat.core.sessions g.handle g.session g.own.at).0 in
            ap (λ (v : Transcript). v.kind) said_view ∙ (owned.own g.own.owner).0

        role : x.view.role ≡ g.side
        role = ap (λ (v : Transcript). v.role) said_view ∙ g.own.role

        of : IsTalkOf y node x g.side
        of = talk_of l.streams s y q node (seat_with after agent) now x (handle_made after.sessions g.handle x g.said.1.0) g.side role kind

        u : Stays y.streams mine.place mine.talk
        u = stay mine.place mine.talk mine.stands

        place_is : of.place ≡ mine.place
        place_is = same_place l.ready s y q (end_of node g.session.stream) of.place mine.place of.talk u.after g.side g.side of.stands (of.ends ∙ ap (λ n. Some (end_of node n)) g.said.1.1)
            u.stands (u.ends g.side (end_of node g.session.stream) mine.ends)

        there_now : slice_get y.streams mine.place ≡ Some of.talk
        there_now = ap (λ n. slice_get y.streams n) (sym place_is) ∙ of.stands

        same : open_still.talk ≡ of.talk
        same = same_Some open_still.talk of.talk (sym open_still.here ∙ there_now)

        takes_now : taking_side of.talk ≡ taking_side mine.talk
        takes_now =
            ap (λ (x : StreamState). taking_side x) (same_Some of.talk u.after (sym there_now ∙ u.stands))
            ∙ ap (λ (o : Objective). other (offering_by (is_return o.value))) (request_stays l s w r mine.place mine.talk mine.stands mine.negotiation my_view.was_requested y (inl q) u)

        own : spoken g.side of.talk.said ≡ sent_of x.view.entries
        own = ((l.known s y q of.place of.talk of.stands of.negotiation).views g.side x.view of.saw).own

        said : has_accepted g.side of.talk.said ≡ true
        said = said_acceptance g.side of.talk.said (End (session_of g.session.view) Accept) (sent_of g.session.view.entries) refl (own ∙ ap (λ (v : Transcript). sent_of v.entries) said_view)
