-- For which streams the offers of a network are listed (RFC 8992, section 4.2).
use Rattle.std.specs.Prelude.{◌≡◌, ◌⊎◌, ℕ, Contains, None, Some, slice_get, List, true, false}
use Rattle.grasp_session.specs.Runs.{WasMade}
use Rattle.grasp_laws_prefixes.specs.Apart.{offer_on}
use Rattle.grasp_laws_network.specs.Authorities.{Keeps}
use Rattle.grasp_model_network.specs.Settling.{NeverAccepts}
use Rattle.grasp_agent.specs.States.{unsent_of}
use Rattle.grasp_model_network.specs.Runs.{IsReached}
use Rattle.grasp_model_network.specs.Setting.{Setting}
use Rattle.grasp_model_network.specs.Streams.{StreamState, end_at}
use Rattle.grasp_model_network.specs.World.{Seat, Offered, WorldState, seat_at, end_of, member_of, present_life, is_present}
use Rattle.grasp_laws_agents.specs.Giving.{IsOpenOffer, IsOwnSession, OffersIn}
use Rattle.grasp_session.specs.Messages.{Side}
use Rattle.grasp_session.specs.Sessions.{SessionState}
use Rattle.grasp_types.specs.Prefix.{AddressBlock as Prefix}
use Rattle.grasp_types.specs.declared.session.Handle.{Handle}

-- the offer is for a stream of the network
pub record HasStream (w : WorldState) (o : Offered) : Type 0 where
  pub place : ℕ
  pub talk : StreamState
  pub is : o.talk ≡ Some place
  pub stands : slice_get w.streams place ≡ Some talk

-- an offer of this prefix by this life, for the stream that has this number there, and of which the life is this side, is among these
pub record IsOfferAmong (offers : List Offered) (w : WorldState) (life : ℕ) (side : Side) (stream : ℕ) (p : Prefix) : Type 0 where
  pub place : ℕ
  pub talk : StreamState
  pub stands : slice_get w.streams place ≡ Some talk
  pub ends : end_at talk side ≡ Some (end_of life stream)
  pub listed : Contains offers (offer_on life p place)

-- it is listed
abbrev pub IsListedFor : WorldState → ℕ → Side → ℕ → Prefix → Type 0
IsListedFor w life side stream p = IsOfferAmong w.offers w life side stream p

-- it was settled
abbrev pub WasSettledFor : WorldState → ℕ → Side → ℕ → Prefix → Type 0
WasSettledFor w life side stream p = IsOfferAmong w.settled w life side stream p

-- this life has the prefix in doubt
pub record HasInDoubt (w : WorldState) (life : ℕ) (p : Prefix) : Type 0 where
  pub seat : Seat
  pub here : seat_at w life ≡ Some seat
  pub doubtful : Contains seat.agent.pool.doubtful p

-- the offer was for a stream of the network, and is never accepted there
pub record IsNeverAccepted (w : WorldState) (o : Offered) : Type 0 where
  pub place : ℕ
  pub talk : StreamState
  pub is : o.talk ≡ Some place
  pub stands : slice_get w.streams place ≡ Some talk
  pub never : NeverAccepts w talk

pub record OffersStand (w : WorldState) : Type 0 where
  -- at most one offer is listed for a member and a prefix, by whichever of its lives
  pub once : (o p : Offered) → Contains w.offers o → Contains w.offers p → member_of w o.node ≡ member_of w p.node → o.prefix ≡ p.prefix → o ≡ p
  -- each is for a stream, or for none as yet
  pub streams : (o : Offered) → Contains w.offers o → HasStream w o ⊎ (o.talk ≡ None)
  -- the life that offered has the prefix reserved or in doubt
  pub kept : (o : Offered) → Contains w.offers o → Keeps w o.node o.prefix
  -- what a life that has ended offered its node's present life has in doubt
  pub carried : (o : Offered) → Contains w.offers o → is_present w o.node ≡ false → HasInDoubt w (present_life w (member_of w o.node)) o.prefix
  -- what an agent is to return and hasn't requested to yet is listed without a stream
  pub unsent : (node : ℕ) (seat : Seat) → seat_at w node ≡ Some seat → (p : Prefix) → unsent_of seat.agent.back ≡ Some p
      → Contains w.offers (record { node = node; prefix = p; talk = None })
  -- what the agent of a present life offers in a session is listed for the stream of that session
  pub offered : (node : ℕ) (seat : Seat) → seat_at w node ≡ Some seat → is_present w node ≡ true → (side : Side) (h : Handle) (p : Prefix) → OffersIn seat.agent side h p
      → (x : SessionState) → IsOwnSession seat.core.sessions h side x → IsListedFor w node side x.stream p
  -- an open offer of any session that was made for the agent, in any life, is listed for the stream of that session, or was settled
  pub open_offers : (life : ℕ) (seat : Seat) → seat_at w life ≡ Some seat → (x : SessionState) (p : Prefix) → WasMade seat.core.sessions x → x.owner ≡ 1
      → IsOpenOffer x.view p → IsListedFor w life x.view.role x.stream p ⊎ WasSettledFor w life x.view.role x.stream p
  -- what was settled is accepted never
  pub settled : (o : Offered) → Contains w.settled o → IsNeverAccepted w o

-- in every network that turns lead to, at most one offer is listed for a member and a prefix, each is for a stream or for none as yet, what
-- agents are to return is listed, and their open offers are listed for the streams of their sessions or were settled, to be accepted never
abbrev pub OffersAreKnown : Type 0
OffersAreKnown = (s : Setting) (w : WorldState) → IsReached s w → OffersStand w
