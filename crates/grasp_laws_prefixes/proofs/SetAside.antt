-- What an offering end offered is set aside at its node, or was settled.
use Rattle.std.proofs.Common.{◌≡◌, refl, sym, ap, ◌∙◌, subst, ℕ, Bool, true, false, inl, inr, ◌⊎◌, Contains, Some}
use Rattle.std.proofs.lemmas.Option.{same_Some}
use Rattle.grasp_agent.specs.Calls.{objective_name}
use Rattle.grasp_pool.specs.Holdings.{IsFree}
use Rattle.grasp_session.specs.Conversation.{strip, requested}
use Rattle.grasp_session.specs.Laws.{IsView}
use Rattle.grasp_types.specs.Prefix.{AddressBlock as Prefix, span_of}
use Rattle.grasp_types.specs.declared.objective.Objective.{Objective}
use Rattle.grasp_laws_network.proofs.Lives.{is_present_life}
use Rattle.grasp_laws_network.specs.Authorities.{Holds, Keeps}
use Rattle.grasp_laws_network.specs.Views.{session_of_end}
use Rattle.grasp_model_network.specs.Accepting.{offering_side}
use Rattle.grasp_model_network.specs.Runs.{IsReached}
use Rattle.grasp_model_network.specs.Setting.{Setting}
use Rattle.grasp_model_network.specs.Streams.{StreamEnd}
use Rattle.grasp_model_network.specs.World.{Seat, WorldState, is_present, member_of, present_life}
use Rattle.grasp_laws_agents.specs.Giving.{IsOpenOffer}
use Rattle.grasp_laws_prefixes.proofs.Givers.{gave_owner, gave_there}
use Rattle.grasp_laws_prefixes.proofs.OpenOffers.{IsKnownOn, open_known}
use Rattle.grasp_laws_prefixes.proofs.OwnSessions.{IsSessionAt, session_there, IsViewOf, view_of}
use Rattle.grasp_laws_prefixes.proofs.Places.{same_place}
use Rattle.grasp_laws_prefixes.proofs.Speech.{same_requested}
use Rattle.grasp_laws_prefixes.proofs.Standing.{OffersAreKnown}
use Rattle.grasp_laws_prefixes.specs.Apart.{IsSetAside, OffersAreSetAside, offer_on}
use Rattle.grasp_laws_prefixes.specs.Grounds.{Grounds}
use Rattle.grasp_laws_prefixes.specs.Known.{HasInDoubt}

module _ (l : Grounds) (s : Setting) (w : WorldState) (r : IsReached s w) (k : OffersAreKnown w) where
  -- what a life has reserved or in doubt it doesn't hold
  aside : (n : ℕ) (p : Prefix) → Keeps w n p → IsSetAside w n p
  aside n p kept = record { kept = kept; unheld = unheld } where
    unheld : (a : ℕ) → span_of p a → ¬ Holds w n a
    unheld a span h =
        let same : h.seat ≡ kept.seat = same_Some h.seat kept.seat (sym h.here ∙ kept.here) in
        (l.kept s w r n kept.seat kept.here).pool.held p a kept.listed span (subst (λ (z : Seat). IsFree z.agent.pool a) same h.free)

  -- what is listed is set aside at the present life
  listed_aside : (n : ℕ) (p : Prefix) (place : ℕ) → Contains w.offers (offer_on n p place) → IsSetAside w (present_life w (member_of w n)) p
  listed_aside n p place listed = by_present (is_present w n) refl where
    doubted : HasInDoubt w (present_life w (member_of w n)) p → IsSetAside w (present_life w (member_of w n)) p
    doubted d = aside (present_life w (member_of w n)) p (record { seat = d.seat; here = d.here; listed = inr d.doubtful })

    by_present : (b : Bool) → is_present w n ≡ b → IsSetAside w (present_life w (member_of w n)) p
    by_present true is = subst (λ m. IsSetAside w m p) (is_present_life w n is) (aside n p (k.kept (offer_on n p place) listed))
    by_present false is = doubted (k.carried (offer_on n p place) listed is)

  pub set_aside : OffersAreSetAside w
  set_aside place e v p giver is_open = by_view (view_of w giver.talk (offering_side giver.talk) v giver.saw) where
    view : IsView (offering_side giver.talk) giver.talk.said v
    view = (l.known s w r place giver.talk giver.stands giver.negotiation).views (offering_side giver.talk) v giver.saw

    name : (requested (strip giver.talk.said)).name ≡ objective_name
    name = ap (λ (o : Objective). o.name) (same_requested giver.talk.said) ∙ giver.objective

    by_view : IsViewOf w giver.talk (offering_side giver.talk) v → IsSetAside w (present_life w (member_of w e.node)) p ⊎ Contains w.settled (offer_on e.node p place)
    by_view z = by_known (open_known l s w r e.node there.seat there.here z.session p owner session_open k there.made) where
      at : z.at ≡ e
      at = same_Some z.at e (sym z.ends ∙ giver.end_is)

      there : IsSessionAt w e z.session
      there = session_there w e z.session (ap (λ k. session_of_end w (Some k)) (sym at) ∙ z.found)

      session_open : IsOpenOffer z.session.view p
      session_open = subst (λ u. IsOpenOffer u p) (sym z.view) is_open

      owner : z.session.owner ≡ 1
      owner =
          gave_owner there.seat z.session p
          (gave_there l s w r e (offering_side giver.talk) place giver.talk giver.stands giver.negotiation z.session there p
          (subst (λ u. IsView (offering_side giver.talk) giver.talk.said u) (sym z.view) view) name session_open)

      by_known : IsKnownOn w e.node z.session p → IsSetAside w (present_life w (member_of w e.node)) p ⊎ Contains w.settled (offer_on e.node p place)
      by_known (inl o) = inl (listed_aside e.node p o.place o.listed)
      by_known (inr o) = inr
          (subst (λ n. Contains w.settled (offer_on e.node p n))
          (same_place l.ready s w r e o.place place o.at.talk giver.talk z.session.view.role (offering_side giver.talk) o.at.stands (o.at.end_is ∙ ap (λ (u : StreamEnd). Some u) (sym there.end_is)) giver.stands
          giver.end_is) o.listed)
