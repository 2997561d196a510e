-- Prefixes that are held by different nodes of a network never overlap, and an offer of unknown outcome stays reserved (RFC 8992, sections 4.1 and 4.2).
use Rattle.std.specs.Prelude.{◌≡◌, ◌≢◌, ℕ, All, List, Some, slice_get, ◌⊎◌, Contains}
use Rattle.grasp_agent.specs.Calls.{objective_name}
use Rattle.grasp_laws_network.specs.Authorities.{Holds, Keeps, IsAuthority}
use Rattle.grasp_model_network.specs.Accepting.{offering_side}
use Rattle.grasp_model_network.specs.GoodSetting.{IsGoodSetting}
use Rattle.grasp_model_network.specs.Runs.{Happening, IsRun, IsReached, first_world, worlds_from}
use Rattle.grasp_model_network.specs.Setting.{Setting}
use Rattle.grasp_model_network.specs.Streams.{StreamEnd, StreamState, end_at}
use Rattle.grasp_laws_network.specs.Views.{view_at}
use Rattle.grasp_model_network.specs.World.{Offered, WorldState, member_of, present_life}
use Rattle.grasp_laws_agents.specs.Giving.{IsOpenOffer}
use Rattle.grasp_laws_negotiation.specs.Negotiations.{IsNegotiation}
use Rattle.grasp_pool.specs.Spans.{Apart}
use Rattle.grasp_session.specs.Conversation.{requested}
use Rattle.grasp_session.specs.Transcript.{Transcript}
use Rattle.grasp_types.specs.Prefix.{AddressBlock as Prefix, span_of}

-- no address is held by two nodes
abbrev pub HeldApart : WorldState → Type 0
HeldApart w = (n m a : ℕ) → n ≢ m → Holds w n a → ¬ Holds w m a

-- of what is listed in w.offers: what may still be accepted is held by no node, and no address of it is in another offer that may still be
-- accepted
pub record AuthoritiesApart (w : WorldState) : Type 0 where
  pub held : (o : Offered) → IsAuthority w o → (node a : ℕ) → span_of o.prefix a → ¬ Holds w node a
  pub others : (o p : Offered) → IsAuthority w o → IsAuthority w p → ¬ (o ≡ p) → Apart o.prefix p.prefix

-- a negotiation of PrefixManager with this end at its offering side, and what that end saw
pub record IsOffererAt (w : WorldState) (place : ℕ) (e : StreamEnd) (v : Transcript) : Type 0 where
  pub talk : StreamState
  pub stands : slice_get w.streams place ≡ Some talk
  pub negotiation : IsNegotiation talk
  pub objective : (requested talk.said).name ≡ objective_name
  pub end_is : end_at talk (offering_side talk) ≡ Some e
  pub saw : view_at w talk (offering_side talk) ≡ Some v

-- the node has the prefix reserved or in doubt, and holds no address of it
pub record IsSetAside (w : WorldState) (node : ℕ) (p : Prefix) : Type 0 where
  pub kept : Keeps w node p
  pub unheld : (a : ℕ) → span_of p a → ¬ Holds w node a

-- an offer of this prefix by this life, on the stream at this place
abbrev pub offer_on : ℕ → Prefix → ℕ → Offered
offer_on life p place = record { node = life; prefix = p; talk = Some place }

-- what the offering end offered, after which it kept no step and no end of the other end, is set aside at the present life of its node, or was
-- settled
abbrev pub OffersAreSetAside : WorldState → Type 0
OffersAreSetAside w = (place : ℕ) (e : StreamEnd) (v : Transcript) (p : Prefix) → IsOffererAt w place e v → IsOpenOffer v p
    → IsSetAside w (present_life w (member_of w e.node)) p ⊎ Contains w.settled (offer_on e.node p place)

pub record PrefixesAreSafe (w : WorldState) : Type 0 where
  pub held : HeldApart w
  pub authorities : AuthoritiesApart w
  pub offers : OffersAreSetAside w

-- prefixes are safe in every network that turns lead to, and in each network of a run
pub record PrefixesStayApart : Type 0 where
  pub reached : (s : Setting) (w : WorldState) → IsReached s w → PrefixesAreSafe w
  pub run : (s : Setting) (hs : List Happening) → IsGoodSetting s → IsRun s (first_world s) hs → All PrefixesAreSafe (worlds_from s (first_world s) hs)
