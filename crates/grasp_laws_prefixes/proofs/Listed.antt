-- Which offers stay listed after an agent's own step.
use Rattle.std.proofs.Common.{◌≡◌, ◌≢◌, sym, subst, ℕ, true, false, List, filter, Contains, Some}
use Rattle.grasp_laws_tables.proofs.Lists.{filter_keeps}
use Rattle.grasp_pool.specs.Holdings.{IsListed}
use Rattle.grasp_types.specs.Prefix.{AddressBlock as Prefix}
use Rattle.grasp_model_network.specs.Offers.{JustOffered, is_kept, is_offer_of, just_offered, offers_after}
use Rattle.grasp_model_network.specs.World.{Offered, WorldState}
use Rattle.grasp_laws_prefixes.proofs.AgentSteps.{AgentStep}
use Rattle.grasp_laws_network.proofs.Offers.{kept_other, kept_listed}
use Rattle.grasp_laws_prefixes.proofs.Listing.{no_offer_of, stays_listed}
use Rattle.grasp_laws_prefixes.specs.Apart.{offer_on}

module _ (w y : WorldState) (a : AgentStep w y) where
  -- one that is kept, where none of its prefix was just offered
  pub still_listed : (o : Offered) → Contains w.offers o → is_kept a.visit.node a.agent.pool o ≡ true
      → ((j : JustOffered) → just_offered a.visit.seat.agent a.agent ≡ Some j → is_offer_of a.visit.node j.prefix o ≡ false) → Contains y.offers o
  unfolding offers_after
  still_listed o listed kept apart =
      subst (λ (os : List Offered). Contains os o) (sym a.offers)
      (stays_listed y.streams a.visit a.core (just_offered a.visit.seat.agent a.agent) (filter (is_kept a.visit.node a.agent.pool) w.offers) o (filter_keeps (is_kept a.visit.node a.agent.pool) w.offers o listed kept) apart)

  -- an offer of another node
  pub others_listed : (n : ℕ) (p : Prefix) (place : ℕ) → n ≢ a.visit.node → Contains w.offers (offer_on n p place) → Contains y.offers (offer_on n p place)
  others_listed n p place apart listed =
      still_listed (offer_on n p place) listed (kept_other a.visit.node a.agent.pool (offer_on n p place) apart) (λ j is. no_offer_of a.visit.node j.prefix (offer_on n p place) (λ e f. apart e))

  -- an offer of this node that is reserved or in doubt, where its prefix wasn't just offered
  pub own_listed : (p : Prefix) (place : ℕ) → IsListed a.agent.pool p → ((j : JustOffered) → just_offered a.visit.seat.agent a.agent ≡ Some j → ¬ (j.prefix ≡ p))
      → Contains w.offers (offer_on a.visit.node p place) → Contains y.offers (offer_on a.visit.node p place)
  own_listed p place pool none listed =
      still_listed (offer_on a.visit.node p place) listed (kept_listed a.visit.node a.agent.pool (offer_on a.visit.node p place) pool)
      (λ j is. no_offer_of a.visit.node j.prefix (offer_on a.visit.node p place) (λ e f. none j is (sym f)))
