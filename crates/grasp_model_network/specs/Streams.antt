-- Streams between nodes: who dialled whom, what was said, and how far each direction was delivered.
use Rattle.std.specs.Prelude.{ℕ, ◌+◌, ◌==◌, ◌&&◌, Bool, true, false, if◌then◌else◌, List, [], ◌∷◌, ◌++◌, length, map, Option, None, Some, is_some, find, position, count_by, take, drop}
use Rattle.grasp_session.specs.Conversation.{Said, says}
use Rattle.grasp_session.specs.Messages.{Side, Near, Far, other}
use Rattle.grasp_types.specs.declared.address.Locator.{Locator}
use Rattle.grasp_types.specs.declared.message.Message.{Message}
use Rattle.grasp_wire.specs.Laws.{encoded}

-- a stream at a node: which of the nodes' lives, and the number that the stream has there
pub record StreamEnd : Type 0 where
  pub node : ℕ
  pub number : ℕ

abbrev pub is_same_end : StreamEnd → StreamEnd → Bool
is_same_end a b = a.node == b.node && a.number == b.number

-- how a side of a stream stands: it isn't opened there yet, it lives, it was turned away, or it was told that the stream is closed
pub data Arrival : Type 0 where
  not_yet : Arrival
  lives : Arrival
  turned_away : Arrival
  told_closed : Arrival

-- what comes on the stream is delivered to this side
abbrev pub is_reached : Arrival → Bool
is_reached not_yet = false
is_reached lives = true
is_reached turned_away = false
is_reached told_closed = false

abbrev pub is_waiting : Arrival → Bool
is_waiting not_yet = true
is_waiting lives = false
is_waiting turned_away = false
is_waiting told_closed = false

-- one direction: the messages that were sent, oldest first, how many of their bytes were delivered, and whether the sender has ended it
pub record Direction : Type 0 where
  pub sent : List Message
  pub delivered : ℕ
  pub ended : Bool

abbrev pub no_direction : Direction
no_direction = record { sent = []; delivered = 0; ended = false }

-- a stream: the end that dials; whom it dials; its number among all dials that were sent, once its dial is sent; the end at which it
-- was opened, if it was; how each side stands; what each side sent; and what was said, newest first: each message that a side has made and queued
pub record StreamState : Type 0 where
  pub near : StreamEnd
  pub to : Locator
  pub number : Option ℕ
  pub far : Option StreamEnd
  pub near_side : Arrival
  pub far_side : Arrival
  pub from_near : Direction
  pub from_far : Direction
  pub said : List Said

-- a stream whose dial is queued
abbrev pub fresh_stream : StreamEnd → Locator → StreamState
fresh_stream near to = record {
  near = near;
  to = to;
  number = None;
  far = None;
  near_side = lives;
  far_side = not_yet;
  from_near = no_direction;
  from_far = no_direction;
  said = [];
}

-- ---- sides

abbrev pub end_at : StreamState → Side → Option StreamEnd
end_at t Near = Some t.near
end_at t Far = t.far

abbrev pub side_at : StreamState → Side → Arrival
side_at t Near = t.near_side
side_at t Far = t.far_side

-- what this side sent
abbrev pub sent_by : StreamState → Side → Direction
sent_by t Near = t.from_near
sent_by t Far = t.from_far

abbrev pub is_at_end : StreamEnd → Option StreamEnd → Bool
is_at_end e None = false
is_at_end e (Some end) = is_same_end e end

-- the side of the stream that this end is
abbrev pub side_of_end : StreamEnd → StreamState → Option Side
side_of_end e t = if is_same_end e t.near then Some Near else (if is_at_end e t.far then Some Far else None)

abbrev pub has_end : StreamEnd → StreamState → Bool
has_end e t = is_some (side_of_end e t)

-- the next so many bytes that the side sent, or all that are left
abbrev pub next_bytes : StreamState → Side → ℕ → List ℕ
next_bytes t side count = take count (drop (sent_by t side).delivered (encoded (sent_by t side).sent))

-- ---- changes of a stream by one of its sides

abbrev pub with_direction : StreamState → Side → Direction → StreamState
with_direction t Near d = record t { from_near = d }
with_direction t Far d = record t { from_far = d }

-- the stream once this side of it stands so
abbrev pub with_side : Arrival → StreamState → Side → StreamState
with_side a t Near = record t { near_side = a }
with_side a t Far = record t { far_side = a }

-- the stream once this side has said a message
abbrev pub with_said : Message → StreamState → Side → StreamState
with_said m t side = record t { said = says side m ∷ t.said }

-- the stream once a message of this side is sent
abbrev pub with_sent : Message → StreamState → Side → StreamState
with_sent m t side = with_direction t side (record (sent_by t side) { sent = (sent_by t side).sent ++ m ∷ [] })

-- the stream once this side has ended its direction
abbrev pub with_ended : StreamState → Side → StreamState
with_ended t side = with_direction t side (record (sent_by t side) { ended = true })

-- the next so many bytes that the other side sent are delivered to it, or all that are left
abbrev pub with_delivered : ℕ → StreamState → Side → StreamState
with_delivered count t side =
    with_direction t (other side) (record (sent_by t (other side)) { delivered = (sent_by t (other side)).delivered + length (next_bytes t (other side) count) })

-- the dial is sent, as that of this number
abbrev pub with_number : ℕ → StreamState → Side → StreamState
with_number k t side = record t { number = Some k }

-- the stream is opened at this end, which took it or turned it away
abbrev pub with_far : StreamEnd → Arrival → StreamState → Side → StreamState
with_far far a t side = record t { far = Some far; far_side = a }

-- ---- streams of a network, in the order in which their dials were queued

abbrev pub is_number : ℕ → Option ℕ → Bool
is_number k None = false
is_number k (Some n) = n == k

-- the stream of this number among the dials that were sent
abbrev pub stream_numbered : List StreamState → ℕ → Option StreamState
stream_numbered ts k = find (λ t. is_number k t.number) ts

-- the place of the stream of this end
abbrev pub place_of_end : List StreamState → StreamEnd → Option ℕ
place_of_end ts e = position (has_end e) ts

-- how many streams have this end: one, or none that a node knows of
abbrev pub count_at_end : List StreamState → StreamEnd → ℕ
count_at_end ts e = count_by (has_end e) ts

abbrev pub changed_by : (StreamState → Side → StreamState) → StreamState → Option Side → StreamState
changed_by f t None = t
changed_by f t (Some side) = f t side

-- a stream is changed by the side that has this end, where it has it
abbrev pub at_end : StreamEnd → (StreamState → Side → StreamState) → StreamState → StreamState
at_end e f t = changed_by f t (side_of_end e t)

-- the streams, of which that of this end is changed
abbrev pub change_at_end : List StreamState → StreamEnd → (StreamState → Side → StreamState) → List StreamState
change_at_end ts e f = map (at_end e f) ts
