-- Floods that agents began (RFC 8990, section 2.5.6.2): each flood that is told anywhere in a network is one that an agent's call began.
use Rattle.std.specs.Prelude.{◌≡◌, ℕ, ◌≤◌, List, ◌++◌, Option, None, Some, All, Any}
use Rattle.grasp_model_node.specs.Queue.{Queued, datagram, dial, send}
use Rattle.grasp_flood.specs.Floods.{read_of}
use Rattle.grasp_model_network.specs.World.{Seat, FloodCall, WorldState, seat_at}
use Rattle.grasp_types.specs.declared.address.Address.{Address}
use Rattle.grasp_types.specs.declared.address.Locator.{Locator}
use Rattle.grasp_types.specs.declared.flood.FloodRead.{FloodRead}
use Rattle.grasp_types.specs.declared.message.Message.{Message}
use Rattle.grasp_types.specs.declared.message.Message.TheVariants.{Noop, Discovery, Response, ReqNeg, ReqSyn, Negotiate, End, Wait, Synch, Flood, Invalid}
use Rattle.grasp_types.specs.declared.objective.Objective.{Objective}

-- the flood was made by this call: the call was made at the node whose address is the initiator's, name and value are the call's, the flags
-- those that the agent had registered, the loop count is the call's or less, and there is no locator
pub record IsFloodOf (w : WorldState) (initiator : Address) (o : Objective) (locator : Option Locator) (call : FloodCall) : Type 0 where
  pub seat : Seat
  pub made_at : seat_at w call.node ≡ Some seat
  pub address : initiator ≡ seat.core.plan.address
  pub name : o.name ≡ call.name
  pub value : o.value ≡ Some call.value
  pub flags : o.flags ≡ call.flags
  pub loops : o.loops ≤ call.loops
  pub no_locator : locator ≡ None

-- some call that was done flooded it
abbrev pub IsCalled : WorldState → Address → Objective → Option Locator → Type 0
IsCalled w initiator o locator = Any (IsFloodOf w initiator o locator) w.flood_calls

abbrev pub IsReadCalled : WorldState → FloodRead → Type 0
IsReadCalled w read = IsCalled w read.initiator read.objective read.locator

-- each flood that was read was flooded by its initiator
pub record FloodsAreReal (w : WorldState) : Type 0 where
  pub read : All (IsReadCalled w) w.floods_read

-- what was read between these two worlds was flooded in the first
pub record ReadsWereCalled (w x : WorldState) : Type 0 where
  pub more : List FloodRead
  pub read : x.floods_read ≡ w.floods_read ++ more
  pub called : All (IsReadCalled w) more

-- ---- on the way

-- so was each part of the message, where it is a flood
abbrev pub IsMessageCalled : WorldState → Message → Type 0
IsMessageCalled w (Flood session initiator ttl parts) = All (λ part. IsCalled w initiator part.objective part.locator) parts
IsMessageCalled w Noop = Unit {0}
IsMessageCalled w (Discovery session initiator o) = Unit {0}
IsMessageCalled w (Response session initiator ttl told o) = Unit {0}
IsMessageCalled w (ReqNeg session o) = Unit {0}
IsMessageCalled w (ReqSyn session o) = Unit {0}
IsMessageCalled w (Negotiate session o) = Unit {0}
IsMessageCalled w (End session verdict) = Unit {0}
IsMessageCalled w (Wait session millis) = Unit {0}
IsMessageCalled w (Synch session o) = Unit {0}
IsMessageCalled w (Invalid session detail) = Unit {0}

abbrev pub IsQueuedCalled : WorldState → Queued → Type 0
IsQueuedCalled w (datagram link to m) = IsMessageCalled w m
IsQueuedCalled w (dial stream to) = Unit {0}
IsQueuedCalled w (send stream m) = Unit {0}

-- each flood in a datagram that was sent, in a queue and in a cache was flooded by its initiator
pub record FloodsOnTheWay (w : WorldState) : Type 0 where
  pub sent : All (λ d. IsMessageCalled w d.message) w.datagrams
  pub queued : (node : ℕ) (seat : Seat) → seat_at w node ≡ Some seat → All (IsQueuedCalled w) seat.core.queue
  pub cached : (node : ℕ) (seat : Seat) → seat_at w node ≡ Some seat → All (λ entry. IsReadCalled w (read_of entry)) seat.core.floods.entries
