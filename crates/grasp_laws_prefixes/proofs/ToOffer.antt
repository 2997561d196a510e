-- What an agent of prefixes is to offer is reserved, and might be accepted, though it wasn't offered yet.
use Rattle.std.proofs.Common.{◌≡◌, refl, ap, ◌∙◌, subst, ℕ, true, false, inl, Contains, Option, Some, None}
use Rattle.std.proofs.lemmas.Bool.{eq-eqb}
use Rattle.grasp_agent.proofs.Keeping.{act_stands}
use Rattle.grasp_agent.specs.Kept.{IsKept}
use Rattle.grasp_agent.specs.Laws.{IsToBeOffered, by_act, by_return}
use Rattle.grasp_agent.specs.States.{AgentState, unsent_of}
use Rattle.grasp_agent.specs.declared.act.Act.{Act}
use Rattle.grasp_agent.specs.declared.act.Act.TheVariants as act
use Rattle.grasp_agent.specs.declared.back.Return.{Return}
use Rattle.grasp_agent.specs.declared.giving.Giving.{Giving}
use Rattle.grasp_laws_session.proofs.Turns.{none_accepted}
use Rattle.grasp_session.specs.Messages.{Far}
use Rattle.grasp_session.specs.Transcript.{known}
use Rattle.grasp_types.specs.Prefix.{AddressBlock as Prefix}
use Rattle.grasp_types.specs.declared.session.Handle.{Handle}
use Rattle.grasp_laws_network.specs.Authorities.{IsAuthority}
use Rattle.grasp_model_network.specs.Runs.{IsReached}
use Rattle.grasp_model_network.specs.Setting.{Setting}
use Rattle.grasp_model_network.specs.World.{Seat, Offered, WorldState, seat_at, is_present}
use Rattle.grasp_laws_agents.specs.Giving.{EntryStands, IsDeciding, OfferStands, OffersIn, in_entry, is_offering}
use Rattle.grasp_laws_agents.specs.OfferLaws.{MayGoBack}
use Rattle.grasp_laws_prefixes.proofs.AgentSteps.{IsOfferOf, given_offer, unsent_authority}
use Rattle.grasp_laws_prefixes.proofs.EntryOffers.{offers_reserved, unsent_reserved}
use Rattle.grasp_laws_prefixes.proofs.Standing.{offer_unsent, PrefixesStand}
use Rattle.grasp_laws_prefixes.specs.Apart.{offer_on}
use Rattle.grasp_laws_prefixes.specs.Grounds.{Grounds}

-- the entry of an offer that is decided
abbrev pub decided_entry : Handle → Prefix → Giving
decided_entry h p = record { handle = h; offer = Some p; first = false }

pub decided_offers : (a : AgentState) (place : ℕ) (h : Handle) (p : Prefix) → IsKept a → a.act ≡ Some (act.Offer place h p) → OffersIn a Far h p
decided_offers a place h p kept is = in_entry refl place (decided_entry h p) (act_stands a (act.Offer place h p) is kept) refl refl

-- a return that wasn't requested
pub unsent_is : (a : AgentState) (v : Return) (p : Prefix) → a.back ≡ Some v → v.session ≡ None → v.prefix ≡ p → unsent_of a.back ≡ Some p
unsent_is a v p is none same = ap unsent_of is ∙ (ap (λ o. unsent_of (Some (record v { session = o }))) none ∙ ap (λ q. Some q) same)

pub to_offer_reserved : (a : AgentState) (p : Prefix) → IsKept a → IsToBeOffered a p → Contains a.pool.reserved p
to_offer_reserved a p kept (by_act place h is) = offers_reserved a Far h p kept (decided_offers a place h p kept is)
to_offer_reserved a p kept (by_return v is none same) = unsent_reserved a p kept (unsent_is a v p is none same)

-- an offer of this prefix by this life, which may be accepted
pub record IsAuthorityOf (w : WorldState) (node : ℕ) (p : Prefix) : Type 0 where
  pub offer : Offered
  pub life : offer.node ≡ node
  pub prefix : offer.prefix ≡ p
  pub authority : IsAuthority w offer

module _ (l : Grounds) (s : Setting) (w : WorldState) (r : IsReached s w) (node : ℕ) (seat : Seat) (here : seat_at w node ≡ Some seat) where
  -- the session of an offer that is decided
  pub decided_there : (place : ℕ) (h : Handle) (p : Prefix) → seat.agent.act ≡ Some (act.Offer place h p) → (e : EntryStands seat.core.sessions seat.agent place (decided_entry h p)) × IsDeciding e.session.view
  decided_there place h p is = (e, (subst (λ d. OfferStands d (Some p) e.session.view) (ap (λ (u : Option Act). is_offering u place) is ∙ eq-eqb place place refl) e.offer).0) where
    e : EntryStands seat.core.sessions seat.agent place (decided_entry h p)
    e = (l.give s w r node seat here).entries place (decided_entry h p) (act_stands seat.agent (act.Offer place h p) is (l.kept s w r node seat here))

  module _ (k : PrefixesStand w) (present : is_present w node ≡ true) where
    decided_authority : (place : ℕ) (h : Handle) (p : Prefix) → seat.agent.act ≡ Some (act.Offer place h p) → IsAuthorityOf w node p
    decided_authority place h p is = from (decided_there place h p is) where
      from : (e : EntryStands seat.core.sessions seat.agent place (decided_entry h p)) × IsDeciding e.session.view → IsAuthorityOf w node p
      from d = made (given_offer l s w r k node seat here present p may) where
        may : MayGoBack seat.core seat.agent p
        may = record {
          handle = h;
          side = Far;
          session = d.0.session;
          offers = decided_offers seat.agent place h p (l.kept s w r node seat here) is;
          own = d.0.own;
          unaccepted = record { whole = inl d.1.mine; no_acceptance = none_accepted (known d.0.session.view) d.1.no_end };
        }

        made : IsOfferOf w node p → IsAuthorityOf w node p
        made o = record { offer = offer_on node p o.place; life = refl; prefix = refl; authority = o.authority }

    pub to_offer_authority : (p : Prefix) → IsToBeOffered seat.agent p → IsAuthorityOf w node p
    to_offer_authority p (by_act place h is) = decided_authority place h p is
    to_offer_authority p (by_return v is none same) = record {
      offer = offer_unsent node p;
      life = refl;
      prefix = refl;
      authority = unsent_authority l s w r k node seat here p (unsent_is seat.agent v p is none same);
    }
