-- What is so of the streams of every network that turns lead to.
use Rattle.std.specs.Prelude.{◌≡◌, ◌≤◌, ◌<◌, ◌*◌, ◌⊎◌, ℕ, List, [], ◌∷◌, length, Option, None, Some, count_by}
use Rattle.grasp_model_node.specs.Queue.{Queued, datagram, dial, send}
use Rattle.grasp_types.specs.declared.address.Locator.{Locator}
use Rattle.grasp_laws_node.specs.Dials.{evens_from}
use Rattle.grasp_laws_node.specs.Sends.{Follows, RecordsKnown}
use Rattle.grasp_model_network.specs.Setting.{Setting, numbered}
use Rattle.grasp_model_network.specs.World.{Seat, WorldState, end_of}
use Rattle.grasp_laws_delivery.specs.Heads.{Head, heads, has_number, HasFar, nears_at}
use Rattle.grasp_laws_delivery.specs.Ready.{Every, HasGoodEnds, FarWaits}

-- ---- a node

-- a stream was opened at this node under this number
abbrev pub IsArrived : List Head → ℕ → ℕ → Type 0
IsArrived hs node number = HasFar (end_of node number) hs

-- the dial of this stream is queued, and goes there
abbrev pub IsQueuedDial : ℕ → Locator → List Queued → Type 0
IsQueuedDial stream to [] = ⊥
IsQueuedDial stream to (datagram link on m ∷ qs) = IsQueuedDial stream to qs
IsQueuedDial stream to (dial next peer ∷ qs) = ((next ≡ stream) × (peer ≡ to)) ⊎ IsQueuedDial stream to qs
IsQueuedDial stream to (send on m ∷ qs) = IsQueuedDial stream to qs

-- a stream has a number exactly where its dial was among the first so many, and else its dial is queued
abbrev pub WaitsBehind : ℕ → List Queued → ℕ → Locator → Option ℕ → Type 0
WaitsBehind sent queue stream to None = (2 * sent ≤ stream) × IsQueuedDial stream to queue
WaitsBehind sent queue stream to (Some k) = stream < 2 * sent

abbrev pub HeadWaits : ℕ → ℕ → List Queued → Head → Type 0
HeadWaits node sent queue h = h.near.node ≡ node → WaitsBehind sent queue h.near.number h.to h.number

-- the node sent so many of its dials; what it has queued dials the next streams, and is for streams that are known by then
pub record QueueKept (hs : List Head) (node : ℕ) (queue : List Queued) (dialled : ℕ) : Type 0 where
  pub sent : ℕ
  pub follows : Follows (λ number. IsArrived hs node number) sent queue dialled
  pub waits : Every (HeadWaits node sent queue) hs

-- a life's records are those of streams, and the streams that it dialled are there, in order
pub record NodeKept (hs : List Head) (node : ℕ) (seat : Seat) : Type 0 where
  pub queue : QueueKept hs node seat.core.queue seat.core.streams.dialled
  pub records : RecordsKnown (λ number. IsArrived hs node number) seat.core
  pub nears : nears_at node hs ≡ evens_from 0 seat.core.streams.dialled

-- ---- a network

abbrev pub GoodHead : Setting → ℕ → ℕ → Head → Type 0
GoodHead s nodes dials h = HasGoodEnds s nodes dials h.near h.number h.far

pub record AreKept (s : Setting) (seats : List Seat) (hs : List Head) (dials : ℕ) : Type 0 where
  pub nodes : (node : ℕ) (seat : Seat) → numbered seats node ≡ Some seat → NodeKept hs node seat
  pub ends : Every (GoodHead s (length seats) dials) hs
  pub once : (k : ℕ) → 1 ≤ k → k ≤ dials → count_by (has_number k) hs ≡ 1

pub record StreamsKept (s : Setting) (w : WorldState) : Type 0 where
  pub kept : AreKept s w.seats (heads w.streams) w.dials
  pub waits : Every FarWaits w.streams
