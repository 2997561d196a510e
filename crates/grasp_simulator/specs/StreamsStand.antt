-- How the code's table of streams stands for the streams of a network.
use Rattle.std.specs.Prelude.{◌≡◌, ℕ, ◌-◌, ◌*◌, ◌%◌, ◌/◌, ◌^◌, ◌≤◌, ◌==◌, ◌&&◌, Bool, true, false, List, [], Option, None, Some, length, count_by, slice_get, if◌then◌else◌}
use Rattle.std.specs.Map.{lookup}
use Rattle.grasp_session.specs.Messages.{Side}
use Rattle.grasp_types.specs.declared.address.Locator.{Locator}
use Rattle.grasp_wire.specs.Laws.{encoded}
use Rattle.grasp_model_network.specs.Streams.{StreamEnd, Arrival, not_yet, lives, turned_away, told_closed, Direction, StreamState, is_number, is_same_end, change_at_end}
use Rattle.grasp_model_network.specs.World.{end_of}
use Rattle.grasp_laws_delivery.specs.Ready.{Every, AreSent}
use Rattle.grasp_simulator.specs.declared.stream.Sent.{Sent}
use Rattle.grasp_simulator.specs.declared.stream.Standing.{Standing}
use Rattle.grasp_simulator.specs.declared.stream.Standing.TheVariants as standing
use Rattle.grasp_simulator.specs.declared.stream.Stream.{Stream}
use Rattle.grasp_simulator.specs.declared.stream.LifeEnd.{LifeEnd}
use Rattle.grasp_simulator.specs.declared.streams.Streams.{Streams}

abbrev pub key_of : StreamEnd → LifeEnd
key_of e = record { life = e.node; number = e.number }

abbrev pub same_near : LifeEnd → LifeEnd → Bool
same_near a b = a.life == b.life && a.number == b.number

-- the number of the dial that was sent from this end, by the code's index
abbrev pub dial_at : List (LifeEnd × ℕ) → StreamEnd → Option ℕ
dial_at index e = lookup (same_near (key_of e)) index

-- ---- one stream

abbrev pub arrival_of : Standing → Arrival
arrival_of standing.NotYet = not_yet
arrival_of standing.Lives = lives
arrival_of standing.TurnedAway = turned_away
arrival_of standing.ToldClosed = told_closed

-- the bytes of a direction's messages, and how many were delivered. Whether it is ended changes no event, and isn't kept
pub record SentStands (code : Sent) (d : Direction) : Type 0 where
  pub bytes : code.bytes ≡ encoded d.sent
  pub delivered : code.delivered ≡ d.delivered

-- the far end of the stream of this number, where it was opened
abbrev pub far_end : Option ℕ → ℕ → Option StreamEnd
far_end None k = None
far_end (Some life) k = Some (end_of life (2 * k - 1))

-- the code keeps this stream, whose dial was sent as that of this number. The node that dialled gave it an even number
pub record StreamStands (code : Stream) (k : ℕ) (t : StreamState) : Type 0 where
  pub near : t.near ≡ end_of code.near code.number
  pub even : t.near.number % 2 ≡ 0
  pub to : code.to ≡ t.to
  pub far : t.far ≡ far_end code.far k
  pub near_side : arrival_of code.near_side ≡ t.near_side
  pub far_side : arrival_of code.far_side ≡ t.far_side
  pub from_near : SentStands code.from_near t.from_near
  pub from_far : SentStands code.from_far t.from_far

-- ---- the table

-- how a stream whose dial is queued, with this near end and to this locator, begins once that is sent: whether its far side was told before
-- that it is closed. None where the dial is never sent, since its life has ended
abbrev pub Queueing : Type 0
Queueing = StreamEnd → Locator → Option Bool

abbrev pub first_arrival : Bool → Arrival
first_arrival true = told_closed
first_arrival false = not_yet

abbrev pub HasSides : Option Bool → Arrival → Arrival → Type 0
HasSides None near far = Unit {0}
HasSides (Some closed) near far = (near ≡ lives) × (far ≡ first_arrival closed)

-- the dial of the stream isn't sent: nothing else was either, and the code knows of no stream of this near end
pub record IsQueued (index : List (LifeEnd × ℕ)) (begins : Queueing) (t : StreamState) : Type 0 where
  pub unknown : dial_at index t.near ≡ None
  pub even : t.near.number % 2 ≡ 0
  pub sides : HasSides (begins t.near t.to) t.near_side t.far_side
  pub far : t.far ≡ None
  pub near_sent : t.from_near.sent ≡ []
  pub near_delivered : t.from_near.delivered ≡ 0
  pub far_sent : t.from_far.sent ≡ []
  pub far_delivered : t.from_far.delivered ≡ 0

abbrev pub HeldAs : Option Stream → ℕ → StreamState → Type 0
HeldAs None k t = ⊥
HeldAs (Some code) k t = StreamStands code k t

-- the K-th dial's stream stands at place K - 1, and is found there by its near end
pub record IsDialled (streams : List Stream) (index : List (LifeEnd × ℕ)) (k : ℕ) (t : StreamState) : Type 0 where
  pub least : 1 ≤ k
  pub known : dial_at index t.near ≡ Some k
  pub held : HeldAs (slice_get streams (k - 1)) k t

abbrev pub TalkStands : List Stream → List (LifeEnd × ℕ) → Queueing → StreamState → Option ℕ → Type 0
TalkStands streams index begins t None = IsQueued index begins t
TalkStands streams index begins t (Some k) = IsDialled streams index k t

-- the stream of this number
abbrev pub numbers : ℕ → StreamState → Bool
numbers k t = is_number k t.number

-- the stream was dialled from this end
abbrev pub IsNearOf : StreamEnd → Option Stream → Type 0
IsNearOf e None = ⊥
IsNearOf e (Some code) = (code.near ≡ e.node) × (code.number ≡ e.number)

-- the code keeps at most so many streams, of each of which both numbers fit
abbrev pub most_streams : ℕ
most_streams = 2 ^ 62

-- what the code holds stands for these streams, of which so many were dialled: each of the numbers from 1 on is that of one stream
pub record TableStands (streams : List Stream) (index : List (LifeEnd × ℕ)) (begins : Queueing) (ts : List StreamState) (dials : ℕ) : Type 0 where
  pub dialled : dials ≡ length streams
  pub each : Every (λ t. TalkStands streams index begins t t.number) ts
  pub once : (k : ℕ) → 1 ≤ k → k ≤ dials → count_by (numbers k) ts ≡ 1
  pub few : dials ≤ most_streams
  pub found : (e : StreamEnd) (k : ℕ) → dial_at index e ≡ Some k → (1 ≤ k) × (k ≤ dials) × IsNearOf e (slice_get streams (k - 1))

abbrev pub StreamsStand : Streams → Queueing → List StreamState → ℕ → Type 0
StreamsStand code begins ts dials = TableStands code.list.items code.near.entries begins ts dials

-- Inside: the stream with this end is changed so by it, where each that has it was dialled
abbrev pub ChangesAt : Streams → Streams → ℕ → ℕ → (StreamState → Side → StreamState) → Type 0
ChangesAt before after node number f = (begins : Queueing) (ts : List StreamState) (dials : ℕ) → AreSent ts (end_of node number) → StreamsStand before begins ts dials → StreamsStand after begins (change_at_end ts (end_of node number) f) dials

-- Inside: the code keeps the stream of this number, where there is one
abbrev pub IsTalk : ℕ → Option Stream → Option StreamState → Type 0
IsTalk k None None = Unit {0}
IsTalk k None (Some t) = ⊥
IsTalk k (Some code) None = ⊥
IsTalk k (Some code) (Some t) = StreamStands code k t

-- ---- the place of an end: that of its stream, and whether it is the far end

-- Inside: the place of a stream with this near end
abbrev pub near_here : Option Stream → StreamEnd → ℕ → Option (ℕ × Bool)
near_here None e i = None
near_here (Some code) e i = if is_same_end e (end_of code.near code.number) then Some (i, false) else None

-- Inside: the place of the stream with this near end, where the index has this number for it
abbrev pub near_place : List Stream → StreamEnd → Option ℕ → Option (ℕ × Bool)
near_place streams e None = None
near_place streams e (Some k) = near_here (slice_get streams (k - 1)) e (k - 1)

-- Inside: the place of a stream whose far end is this node's
abbrev pub far_here : Option Stream → ℕ → ℕ → Option (ℕ × Bool)
far_here None node i = None
far_here (Some code) node i = if is_number node code.far then Some (i, true) else None

-- Inside: an even number is that of a near end, and 2K - 1 that of the K-th stream's far one
abbrev pub place_in : List Stream → List (LifeEnd × ℕ) → ℕ → ℕ → Option (ℕ × Bool)
place_in streams index node number =
    if (number % 2) == 0
    then near_place streams (end_of node number) (dial_at index (end_of node number))
    else far_here (slice_get streams (number / 2)) node (number / 2)
