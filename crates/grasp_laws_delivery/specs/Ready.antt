-- What is queued at a node can be sent in order: each dial's stream waits for it, and each message's stream was dialled before.
use Rattle.std.specs.Prelude.{◌≡◌, ◌≤◌, ◌<◌, ◌*◌, ◌%◌, ℕ, true, false, List, [], ◌∷◌, Option, None, Some, length, count_by, All, slice_get}
use Rattle.grasp_session.specs.Messages.{Side}
use Rattle.grasp_model_node.specs.Queue.{Queued, datagram, dial, send}
use Rattle.grasp_model_node.specs.Streams.{StreamRecord}
use Rattle.grasp_types.specs.declared.address.Locator.{Locator}
use Rattle.grasp_model_network.specs.Events.{IsFit, visit_of}
use Rattle.grasp_model_network.specs.Plans.{IsNode}
use Rattle.grasp_model_network.specs.Runs.{IsReached}
use Rattle.grasp_model_network.specs.Setting.{Setting}
use Rattle.grasp_model_network.specs.Streams.{StreamEnd, StreamState, is_waiting, is_number, has_end, count_at_end, change_at_end, with_number, with_sent, lives, side_at, end_at}
use Rattle.grasp_model_network.specs.Turns.{IsTurn, after_turn}
use Rattle.grasp_model_network.specs.Visits.{Visit, Choice}
use Rattle.grasp_model_network.specs.World.{Seat, WorldState, seat_at, end_of, is_present}
use Rattle.grasp_model_network.specs.declared.event.Event.{Event}
use Rattle.grasp_model_network.specs.declared.turn.Turn.{Turn}

-- the property holds of each of the list
abbrev pub Every : {X : Type 0} → (X → Type 0) → List X → Type 0
Every P [] = Unit {0}
Every P (x ∷ xs) = P x × Every P xs

-- ---- what can be sent

-- one stream has this end; its dial is queued and goes there
abbrev pub WaitsFor : StreamEnd → Locator → StreamState → Type 0
WaitsFor e to t = has_end e t ≡ true → (t.number ≡ None) × (t.to ≡ to)

pub record IsDialOf (ts : List StreamState) (e : StreamEnd) (to : Locator) : Type 0 where
  pub once : count_at_end ts e ≡ 1
  pub waits : Every (WaitsFor e to) ts

-- each stream with this end was dialled
abbrev pub IsSent : Option ℕ → Type 0
IsSent None = ⊥
IsSent (Some k) = Unit {0}

abbrev pub AreSent : List StreamState → StreamEnd → Type 0
AreSent ts e = Every (λ t. has_end e t ≡ true → IsSent t.number) ts

-- the queued outputs of a node can be sent one after the other
abbrev pub AreReady : ℕ → List Queued → List StreamState → Type 0
AreReady node [] ts = Unit {0}
AreReady node (datagram link to m ∷ qs) ts = AreReady node qs ts
AreReady node (dial stream to ∷ qs) ts =
    IsDialOf ts (end_of node stream) to × ((k : ℕ) → AreReady node qs (change_at_end ts (end_of node stream) (with_number k)))
AreReady node (send stream m ∷ qs) ts =
    (count_at_end ts (end_of node stream) ≡ 1) × AreSent ts (end_of node stream) × AreReady node qs (change_at_end ts (end_of node stream) (with_sent m))

-- ---- the ends of a stream

-- a stream that was dialled has a number among those of the dials that were sent
abbrev pub HasGoodNumber : ℕ → Option ℕ → Type 0
HasGoodNumber dials None = Unit {0}
HasGoodNumber dials (Some k) = (1 ≤ k) × (k ≤ dials)

-- the far end is at a node, under the number with which the stream arrives there; a stream whose dial isn't sent has none
abbrev pub HasGoodFar : Setting → ℕ → Option ℕ → Option StreamEnd → Type 0
HasGoodFar s nodes number None = Unit {0}
HasGoodFar s nodes None (Some e) = ⊥
HasGoodFar s nodes (Some k) (Some e) = IsNode nodes e.node × (e.number ≡ s.arrives_as e.node k)

-- among so many lives: the near end is at one of them, and has an even number
pub record HasGoodEnds (s : Setting) (nodes dials : ℕ) (near : StreamEnd) (number : Option ℕ) (far : Option StreamEnd) : Type 0 where
  pub member : IsNode nodes near.node
  pub even : near.number % 2 ≡ 0
  pub dialled : HasGoodNumber dials number
  pub opened : HasGoodFar s nodes number far

-- a stream that waits to be opened has no far end
abbrev pub FarWaits : StreamState → Type 0
FarWaits t = is_waiting t.far_side ≡ true → t.far ≡ None

-- a side that lives is at the present life of its node
abbrev pub SidesArePresent : WorldState → Type 0
SidesArePresent w = (place : ℕ) (t : StreamState) → slice_get w.streams place ≡ Some t → (side : Side) (e : StreamEnd) → side_at t side ≡ lives → end_at t side ≡ Some e
    → is_present w e.node ≡ true

-- each step is made by a present life
abbrev pub StepsArePresent : Type 0
StepsArePresent = (s : Setting) (w : WorldState) (e : Event) (v : Visit) → IsReached s w → IsFit s w e → visit_of s w e ≡ Some v → is_present w v.node ≡ true

-- what a node and its agent are in a life that has ended they stay, whatever turn is taken
abbrev pub EndedLivesStay : Type 0
EndedLivesStay = (s : Setting) (w : WorldState) (t : Turn) (c : Choice) (life : ℕ) (seat : Seat) → IsReached s w → IsTurn s w t c → seat_at w life ≡ Some seat
    → is_present w life ≡ false → seat_at (after_turn s w t c) life ≡ Some seat

-- ---- the law

-- the streams of this number
abbrev pub count_numbered : List StreamState → ℕ → ℕ
count_numbered ts k = count_by (λ t. is_number k t.number) ts

pub record StreamsAreReady : Type 0 where
  -- no two streams have one end
  pub apart : (s : Setting) (w : WorldState) → IsReached s w → (e : StreamEnd) → count_at_end w.streams e ≤ 1
  -- what each node has queued can be sent in order
  pub ready : (s : Setting) (w : WorldState) → IsReached s w → (node : ℕ) (seat : Seat) → seat_at w node ≡ Some seat → AreReady node seat.core.queue w.streams
  -- the near end of each stream has an even number; the far end is that with which it arrived
  pub ends : (s : Setting) (w : WorldState) → IsReached s w → Every (λ t. HasGoodEnds s (length w.seats) w.dials t.near t.number t.far) w.streams
  -- the dials that were sent have the numbers from 1 on, each that of one stream
  pub once : (s : Setting) (w : WorldState) → IsReached s w → (k : ℕ) → 1 ≤ k → k ≤ w.dials → count_numbered w.streams k ≡ 1
  -- each record of a node is that of a stream
  pub records : (s : Setting) (w : WorldState) → IsReached s w → (node : ℕ) (seat : Seat) → seat_at w node ≡ Some seat
      → All (λ (x : StreamRecord). count_at_end w.streams (end_of node x.number) ≡ 1) seat.core.streams.records
  -- a stream that a node dialled has a number below that of the next one
  pub next : (s : Setting) (w : WorldState) → IsReached s w → (node : ℕ) (seat : Seat) → seat_at w node ≡ Some seat
      → Every (λ t. t.near.node ≡ node → t.near.number < 2 * seat.core.streams.dialled) w.streams
  -- each stream that a node dialled is there
  pub nears : (s : Setting) (w : WorldState) → IsReached s w → (node : ℕ) (seat : Seat) → seat_at w node ≡ Some seat → (d : ℕ) → d < seat.core.streams.dialled
      → count_at_end w.streams (end_of node (2 * d)) ≡ 1
  -- a side that lives is at the present life of its node
  pub present : (s : Setting) (w : WorldState) → IsReached s w → SidesArePresent w
  -- a stream that waits to be opened was opened nowhere
  pub waits : (s : Setting) (w : WorldState) → IsReached s w → Every FarWaits w.streams
