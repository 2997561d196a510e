-- What an open offer is at its node: that of an agent of prefixes, or of a session that is no longer live.
use Rattle.std.proofs.Common.{◌≡◌, refl, sym, ap, ◌∙◌, subst, ℕ, Bool, true, false, inl, inr, ◌⊎◌, Contains, Option, Some, None, slice_get}
use Rattle.std.proofs.lemmas.Bool.{true≢false, cases_eq}
use Rattle.std.proofs.lemmas.Option.{same_Some}
use Rattle.grasp_agent.specs.Calls.{objective_name}
use Rattle.grasp_agent.specs.declared.back.Return.{Return}
use Rattle.grasp_agent.specs.declared.giving.Giving.{Giving}
use Rattle.grasp_laws_session.proofs.Trailing.{trails_legal}
use Rattle.grasp_session.proofs.Facts.{at_handle}
use Rattle.grasp_session.specs.Conversation.{strip, requested, has_offered, IsLegal}
use Rattle.grasp_session.specs.Laws.{IsView}
use Rattle.grasp_session.specs.Made.{AreFresh, IsFresh}
use Rattle.grasp_session.specs.Messages.{Side, Near, Far}
use Rattle.grasp_session.specs.Runs.{WasMade}
use Rattle.grasp_session.specs.Says.{IsAt}
use Rattle.grasp_session.specs.Sessions.{SessionState}
use Rattle.grasp_session.specs.Transcript.{Transcript, known, request_of}
use Rattle.grasp_types.specs.Prefix.{AddressBlock as Prefix}
use Rattle.grasp_types.specs.declared.objective.Objective.{Objective}
use Rattle.grasp_types.specs.declared.session.Handle.{Handle}
use Rattle.grasp_model_network.specs.Accepting.{is_return, offering_by, offering_side}
use Rattle.grasp_model_network.specs.Runs.{IsReached}
use Rattle.grasp_model_network.specs.Setting.{Setting}
use Rattle.grasp_model_network.specs.Streams.{StreamEnd, StreamState}
use Rattle.grasp_model_network.specs.World.{Seat, WorldState, seat_at}
use Rattle.grasp_laws_agents.proofs.Sides.{sides}
use Rattle.grasp_laws_agents.specs.GoingOn.{IsOwnedGone}
use Rattle.grasp_laws_agents.specs.Owning.{IsOwned}
use Rattle.grasp_laws_agents.specs.Giving.{HasOffered, IsOpenOffer, IsOwnSession, OfferStands, OffersIn, in_entry, in_return, IsOffersSession, of_entry, of_return, EntryStands, ReturnStands, is_offering}
use Rattle.grasp_laws_delivery.proofs.Worlds.{reached_in_order}
use Rattle.grasp_laws_negotiation.specs.Negotiations.{IsNegotiation}
use Rattle.grasp_laws_prefixes.proofs.OwnSessions.{one_session, IsSessionAt}
use Rattle.grasp_laws_prefixes.proofs.Speech.{deciding_closed, same_requested}
use Rattle.grasp_laws_prefixes.specs.Grounds.{Grounds}

-- the session that made it: one in which the agent offers this prefix, or one that is no longer live
pub data Gave (seat : Seat) (x : SessionState) (p : Prefix) : Type 0 where
  by_offer : (side : Side) (h : Handle) → OffersIn seat.agent side h p → IsOwnSession seat.core.sessions h side x → Gave seat x p
  by_gone : Contains seat.core.sessions.gone x → x.owner ≡ 1 → Gave seat x p

pub gave_owner : (seat : Seat) (x : SessionState) (p : Prefix) → Gave seat x p → x.owner ≡ 1
gave_owner seat x p (by_offer side h o own) = own.owner
gave_owner seat x p (by_gone gone own) = own

-- a listener that has only heard the request has offered nothing
fresh_offers : (v : Transcript) → IsFresh v → has_offered v.role (known v) ≡ false
fresh_offers v f = ap (λ (u : Transcript). has_offered u.role (known u)) f.fresh

module _ (l : Grounds) (s : Setting) (w : WorldState) (r : IsReached s w) where
  module _ (node : ℕ) (seat : Seat) (here : seat_at w node ≡ Some seat) (x : SessionState) (p : Prefix) (name : (request_of x.view).name ≡ objective_name) (legal : IsLegal (known x.view)) (is_open : IsOpenOffer x.view p) where
    -- an entry of this session has this offer
    entry_gave : (place : ℕ) (g : Giving) → slice_get seat.agent.giving place ≡ Some g → IsOwnSession seat.core.sessions g.handle Far x → Gave seat x p
    entry_gave place g at own = by_offer Far g.handle (in_entry refl place g at refl (offer_is (is_offering seat.agent.act place) g.offer stands.offer)) own where
      stands : EntryStands seat.core.sessions seat.agent place g
      stands = (l.give s w r node seat here).entries place g at

      same : stands.session ≡ x
      same = one_session seat.core.sessions g.handle stands.session x stands.own.at own.at

      still_open : IsOpenOffer stands.session.view p
      still_open = subst (λ (z : SessionState). IsOpenOffer z.view p) (sym same) is_open

      offer_is : (b : Bool) (o : Option Prefix) → OfferStands b o stands.session.view → o ≡ Some p
      offer_is true o d = absurd (deciding_closed stands.session.view p (subst (λ (z : SessionState). IsLegal (known z.view)) (sym same) legal) d.0 still_open)
      offer_is false None none = absurd (none p still_open)
      offer_is false (Some q) has = sym has.offer ∙ still_open.offered.offer

    -- the return of this session is of this prefix
    return_gave : (z : Return) (h : Handle) → seat.agent.back ≡ Some z → z.session ≡ Some h → IsOwnSession seat.core.sessions h Near x → Gave seat x p
    return_gave z h is on own = by_offer Near h (in_return refl z is on same) own where
      stands : ReturnStands seat.core.sessions h z.prefix
      stands = (l.give s w r node seat here).back z h is on

      at : stands.session ≡ x
      at = one_session seat.core.sessions h stands.session x stands.own.at own.at

      same : z.prefix ≡ p
      same = same_Some z.prefix p (sym (subst (λ (u : SessionState). HasOffered u.view z.prefix) at stands.offer).offer ∙ is_open.offered.offer)

    own_gave : (h : Handle) (side : Side) → IsOwnSession seat.core.sessions h side x → IsOffersSession seat.agent side h → Gave seat x p
    own_gave h side own (of_entry far place g at on) =
        entry_gave place g at (subst (λ k. IsOwnSession seat.core.sessions k Far x) (sym on) (subst (λ k. IsOwnSession seat.core.sessions h k x) far own))
    own_gave h side own (of_return near z is on) = return_gave z h is on (subst (λ k. IsOwnSession seat.core.sessions h k x) near own)

    pub own_live : (place : ℕ) → IsAt seat.core.sessions place x → x.owner ≡ 1 → Gave seat x p
    own_live place at own =
        let h : Handle = record { place = place; number = x.number } in
        let mine : IsOwnSession seat.core.sessions h x.view.role x = record { at = at_handle seat.core.sessions h x at refl; owner = own; role = refl } in
        own_gave h x.view.role mine ((l.give s w r node seat here).live h x.view.role x p mine is_open)

    untaken_live : (place : ℕ) → IsAt seat.core.sessions place x → x.owner ≡ 0 → ⊥
    untaken_live place at own =
        let fresh : AreFresh seat.core.sessions = ((reached_in_order l.ties s w r).sound node seat here).1.fresh in
        true≢false (sym is_open.offered.made ∙ fresh_offers x.view (fresh place x at own))

    untaken_gone : (x.view.role ≡ Far) × (has_offered Far (known x.view) ≡ false) → ⊥
    untaken_gone none = true≢false (sym is_open.offered.made ∙ (ap (λ k. has_offered k (known x.view)) none.0 ∙ none.1))

    -- the session is agent 1's
    pub gave : WasMade seat.core.sessions x → Gave seat x p
    gave (inl live) = by_owner (cases_eq x.owner 1) (cases_eq x.owner 0) where
      owned : IsOwned x
      owned = l.owned s w r node seat here live.0 x live.1

      by_owner : (x.owner ≡ 1) ⊎ (x.owner ≡ 1 → ⊥) → (x.owner ≡ 0) ⊎ (x.owner ≡ 0 → ⊥) → Gave seat x p
      by_owner (inl own) u = own_live live.0 live.1 own
      by_owner (inr foreign) (inl untaken) = absurd (untaken_live live.0 live.1 untaken)
      by_owner (inr foreign) (inr taken) = absurd (owned.foreign taken foreign name)
    gave (inr gone) = by_owner (cases_eq x.owner 1) (cases_eq x.owner 0) where
      owned : IsOwnedGone x
      owned = l.gone_owned s w r node seat here x gone

      by_owner : (x.owner ≡ 1) ⊎ (x.owner ≡ 1 → ⊥) → (x.owner ≡ 0) ⊎ (x.owner ≡ 0 → ⊥) → Gave seat x p
      by_owner (inl own) u = by_gone gone own
      by_owner (inr foreign) (inl untaken) = absurd (untaken_gone (owned.untaken untaken))
      by_owner (inr foreign) (inr taken) = absurd (owned.foreign taken foreign name)

  -- of a session at this end that saw this
  module _ (e : StreamEnd) (side : Side) (place : ℕ) (t : StreamState) (stands : slice_get w.streams place ≡ Some t) (negotiation : IsNegotiation t) (x : SessionState) (there : IsSessionAt w e x) (p : Prefix)
      (view : IsView side t.said x.view) (name : (requested (strip t.said)).name ≡ objective_name) (is_open : IsOpenOffer x.view p) where
    pub gave_there : Gave there.seat x p
    gave_there =
        gave e.node there.seat there.here x p (ap (λ (o : Objective). o.name) view.same_request ∙ name)
        (trails_legal side (known x.view) (strip t.said) (l.in_order s w r place t stands negotiation).legal view.trails) is_open there.made

    -- this side is the one that offers
    pub offering_there : offering_side t ≡ side
    offering_there =
        ap (λ (o : Objective). offering_by (is_return o.value)) (sym (view.same_request ∙ same_requested t.said))
        ∙ (sides there.seat.core there.seat.agent (l.give s w r e.node there.seat there.here) x p there.made (gave_owner there.seat x p gave_there) is_open.offered ∙ view.role)
