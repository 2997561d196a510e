-- Inside: what the code's table of streams keeps of one stream, and how a side changes it.
use Rattle.std.specs.Prelude.{ℕ, ◌+◌, ◌-◌, ◌*◌, ◌^◌, ◌==◌, ◌&&◌, ◌||◌, Bool, true, false, not, min, if◌then◌else◌, List, [], ◌++◌, length, take, drop, Option, None, Some}
use Rattle.grasp_types.specs.declared.address.Locator.{Locator}
use Rattle.grasp_simulator.specs.declared.stream.Sent.{Sent}
use Rattle.grasp_simulator.specs.declared.stream.Standing.TheVariants.{NotYet, Lives, TurnedAway, ToldClosed}
use Rattle.grasp_simulator.specs.declared.stream.Standing.{Standing}
use Rattle.grasp_simulator.specs.declared.stream.Stream.{Stream}
use Rattle.grasp_simulator.specs.declared.stream.LifeEnd.{LifeEnd}
use Rattle.grasp_model_network.specs.Streams.{is_number}
use Rattle.grasp_simulator.specs.Listening.{listener_from}

-- ---- one direction

abbrev pub more_sent : Sent → List ℕ → Sent
more_sent d bytes = record d { bytes = d.bytes ++ bytes }

-- the next so many bytes that aren't delivered yet, or all that are left
abbrev pub piece_of : Sent → ℕ → List ℕ
piece_of d count = take count (drop d.delivered d.bytes)

abbrev pub more_delivered : Sent → ℕ → Sent
more_delivered d count = record d { delivered = d.delivered + length (piece_of d count) }

-- ---- a stream, by its far side or its near one

abbrev pub sent_from : Stream → Bool → Sent
sent_from s true = s.from_far
sent_from s false = s.from_near

abbrev pub stream_sent : Stream → Bool → List ℕ → Stream
stream_sent s true bytes = record s { from_far = more_sent s.from_far bytes }
stream_sent s false bytes = record s { from_near = more_sent s.from_near bytes }

-- what the other side sent is delivered to this one
abbrev pub stream_delivered : Stream → Bool → ℕ → Stream
stream_delivered s true count = record s { from_near = more_delivered s.from_near count }
stream_delivered s false count = record s { from_far = more_delivered s.from_far count }

abbrev pub stream_told : Stream → Bool → Stream
stream_told s true = record s { far_side = ToldClosed }
stream_told s false = record s { near_side = ToldClosed }

abbrev pub standing_by : Bool → Standing
standing_by true = Lives
standing_by false = TurnedAway

abbrev pub stream_opened : Stream → ℕ → Bool → Stream
stream_opened s life taken = record s { far = Some life; far_side = standing_by taken }

-- ---- what a side is reached by

abbrev pub is_living : Standing → Bool
is_living Lives = true
is_living NotYet = false
is_living TurnedAway = false
is_living ToldClosed = false

-- the number of the K-th stream where it arrived: 2K - 1, or what is left of it in 64 bits
abbrev pub far_number : ℕ → ℕ
far_number k = min (k * 2) (2 ^ 64 - 1) - 1

abbrev pub far_side_at : Option ℕ → ℕ → Option LifeEnd
far_side_at None k = None
far_side_at (Some life) k = Some (record { life = life; number = far_number k })

-- the end of a side of the stream of this number, where what comes is delivered to it
abbrev pub side_end : Stream → ℕ → Bool → Option LifeEnd
side_end s k true = if is_living s.far_side then far_side_at s.far k else None
side_end s k false = if is_living s.near_side then Some (record { life = s.near; number = s.number }) else None

abbrev pub side_of : Option Stream → ℕ → Bool → Option LifeEnd
side_of None k far = None
side_of (Some s) k far = side_end s k far

-- the next so many bytes that the other side sent
abbrev pub piece_at : Option Stream → Bool → ℕ → List ℕ
piece_at None far count = []
piece_at (Some s) far count = piece_of (sent_from s (not far)) count

-- ---- a stream whose dial was just sent

abbrev pub no_sent : Sent
no_sent = record { bytes = []; delivered = 0 }

-- its far side was told before that the stream is closed, or waits to be opened
abbrev pub first_standing : Bool → Standing
first_standing true = ToldClosed
first_standing false = NotYet

abbrev pub first_stream : ℕ → ℕ → Locator → Bool → Stream
first_stream life number to closed =
    record { near = life; number = number; to = to; far = None; near_side = Lives; far_side = first_standing closed; from_near = no_sent; from_far = no_sent }

-- ---- a life that ends

abbrev pub is_unopened : Standing → Bool
is_unopened NotYet = true
is_unopened Lives = false
is_unopened TurnedAway = false
is_unopened ToldClosed = false

-- the stream goes to this node, among so many, and wasn't opened there
abbrev pub goes_to : ℕ → ℕ → Stream → Bool
goes_to node nodes s = is_unopened s.far_side && is_number node (listener_from 1 nodes s.to)

abbrev pub closed_if : Bool → Standing → Standing
closed_if true a = ToldClosed
closed_if false a = a

-- a side of the life of this node that ends, among so many, is told that the stream is closed, and so is one that waits for the node
abbrev pub ended_at : ℕ → ℕ → ℕ → Stream → Stream
ended_at life node nodes s = record s {
  near_side = closed_if (s.near == life) s.near_side;
  far_side = closed_if (is_number life s.far || goes_to node nodes s) s.far_side;
}
