-- For which streams the reserved prefixes of a network are listed, and what is offered there (RFC 8992, section 4.2).
use Rattle.std.specs.Prelude.{◌≡◌, ◌⊎◌, ℕ, true, Contains, None, Some, slice_get}
use Rattle.grasp_agent.specs.States.{AgentState, unsent_of}
use Rattle.grasp_agent.specs.declared.act.Act.TheVariants as act
use Rattle.grasp_laws_agents.specs.Giving.{HasOffered, IsOwnSession, OffersIn}
use Rattle.grasp_model_network.specs.Runs.{IsReached}
use Rattle.grasp_model_network.specs.Setting.{Setting}
use Rattle.grasp_model_network.specs.Streams.{StreamState, end_at}
use Rattle.grasp_model_network.specs.World.{Offered, Seat, WorldState, end_of, is_present, seat_at}
use Rattle.grasp_session.specs.Messages.{Side}
use Rattle.grasp_session.specs.Sessions.{SessionState}
use Rattle.grasp_types.specs.Prefix.{AddressBlock as Prefix}
use Rattle.grasp_types.specs.declared.session.Handle.{Handle}

-- the agent has decided to offer the prefix in the session, and hasn't yet done so
abbrev pub IsAboutToOffer : AgentState → Handle → Prefix → Type 0
IsAboutToOffer a h p = (place : ℕ) × (a.act ≡ Some (act.Offer place h p))

-- The offer is listed for the stream of a live session of the agent, of which it is this side and in which it offers the prefix. That is the last
-- offer that it made there, or one that it is about to make
pub record IsOfferedOn (w : WorldState) (seat : Seat) (o : Offered) : Type 0 where
  pub side : Side
  pub handle : Handle
  pub session : SessionState
  pub own : IsOwnSession seat.core.sessions handle side session
  pub offers : OffersIn seat.agent side handle o.prefix
  pub place : ℕ
  pub talk : StreamState
  pub is : o.talk ≡ Some place
  pub stands : slice_get w.streams place ≡ Some talk
  pub ends : end_at talk side ≡ Some (end_of o.node session.stream)
  pub last : HasOffered session.view o.prefix ⊎ IsAboutToOffer seat.agent handle o.prefix

-- the offer is of the present life of a node, which has its prefix reserved
pub record IsReserved (w : WorldState) (seat : Seat) (o : Offered) : Type 0 where
  pub listed : Contains w.offers o
  pub here : seat_at w o.node ≡ Some seat
  pub present : is_present w o.node ≡ true
  pub reserved : Contains seat.agent.pool.reserved o.prefix

-- the prefix is yet to be returned, and listed for no stream
pub record IsUnsent (seat : Seat) (o : Offered) : Type 0 where
  pub none : o.talk ≡ None
  pub unsent : unsent_of seat.agent.back ≡ Some o.prefix

pub record ReservedStand (w : WorldState) : Type 0 where
  pub each : (seat : Seat) (o : Offered) → IsReserved w seat o → IsOfferedOn w seat o ⊎ IsUnsent seat o
  -- at an end of a stream one prefix is offered so
  pub one : (seat : Seat) (o p : Offered) (x : IsOfferedOn w seat o) (y : IsOfferedOn w seat p) → seat_at w o.node ≡ Some seat → o.node ≡ p.node
      → x.place ≡ y.place → x.side ≡ y.side → o ≡ p

-- in every network that turns lead to
abbrev pub ReservedAreOffered : Type 0
ReservedAreOffered = (s : Setting) (w : WorldState) → IsReached s w → ReservedStand w
