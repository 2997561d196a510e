-- Which prefixes are held, and which may still be accepted (RFC 8992, sections 4.1 and 4.2).
use Rattle.std.specs.Prelude.{◌≡◌, ℕ, false, List, Contains, Option, None, Some, slice_get}
use Rattle.grasp_pool.specs.Holdings.{IsFree, IsListed}
use Rattle.grasp_types.specs.Prefix.{AddressBlock as Prefix}
use Rattle.grasp_model_network.specs.Accepting.{is_accepted}
use Rattle.grasp_model_network.specs.Streams.{StreamState}
use Rattle.grasp_model_network.specs.World.{Seat, Offered, WorldState, seat_at}

-- ---- what a node has

-- the address is held by the node: it is free in its agent's pool
pub record Holds (w : WorldState) (node a : ℕ) : Type 0 where
  pub seat : Seat
  pub here : seat_at w node ≡ Some seat
  pub free : IsFree seat.agent.pool a

-- the node has the prefix reserved
pub record Reserves (w : WorldState) (node : ℕ) (p : Prefix) : Type 0 where
  pub seat : Seat
  pub here : seat_at w node ≡ Some seat
  pub reserved : Contains seat.agent.pool.reserved p

-- the node has the prefix reserved or in doubt
pub record Keeps (w : WorldState) (node : ℕ) (p : Prefix) : Type 0 where
  pub seat : Seat
  pub here : seat_at w node ≡ Some seat
  pub listed : IsListed seat.agent.pool p

-- ---- what may still be accepted

-- the taking side of the stream at this place hasn't accepted
pub record IsOpenTalk (ts : List StreamState) (place : ℕ) : Type 0 where
  pub talk : StreamState
  pub here : slice_get ts place ≡ Some talk
  pub open_still : is_accepted talk ≡ false

-- the offer of a stream may be accepted until the taking side has; one without a stream where it is reserved, since it is then one that is
-- to be given back and wasn't requested. A prefix that is in doubt by an image alone is in no offer
abbrev pub MayAccept : WorldState → Offered → Option ℕ → Type 0
MayAccept w o None = Reserves w o.node o.prefix
MayAccept w o (Some place) = IsOpenTalk w.streams place

-- the offer is an authority: its node has the prefix reserved or in doubt, and it may still be accepted
pub record IsAuthority (w : WorldState) (o : Offered) : Type 0 where
  pub listed : Contains w.offers o
  pub kept : Keeps w o.node o.prefix
  pub live : MayAccept w o o.talk
