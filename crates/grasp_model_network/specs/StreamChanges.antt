-- What an event changes of a stream: how a side of it stands, and how much was delivered to a side.
use Rattle.std.specs.Prelude.{ℕ, Bool, true, false, Option, None, Some}
use Rattle.grasp_session.specs.Messages.{Side, Near, Far}
use Rattle.grasp_model_network.specs.Streams.{StreamEnd, StreamState, end_at, side_at, is_reached, stream_numbered, change_at_end, with_delivered, told_closed, with_side, Arrival, lives, turned_away, with_far}
use Rattle.grasp_model_network.specs.Visits.{Visit}
use Rattle.grasp_model_network.specs.World.{WorldState, end_of}
use Rattle.grasp_types.specs.declared.reply.Reply.{Reply}
use Rattle.grasp_types.specs.declared.reply.Reply.TheVariants as reply

-- the side of an event
abbrev pub side_named : Bool → Side
side_named true = Far
side_named false = Near

-- a side of a stream: the stream, and the end that the side has
pub record Reached : Type 0 where
  pub talk : StreamState
  pub at : StreamEnd

abbrev pub reached_at : StreamState → Bool → Option StreamEnd → Option Reached
reached_at t true (Some e) = Some (record { talk = t; at = e })
reached_at t true None = None
reached_at t false e = None

abbrev pub reached_in : Side → Option StreamState → Option Reached
reached_in side None = None
reached_in side (Some t) = reached_at t (is_reached (side_at t side)) (end_at t side)

-- this side of the stream of this number; none where there is no such stream, where the side isn't there, and where it was turned away
-- or was told that the stream is closed
unfoldable pub reached_side : WorldState → ℕ → Side → Option Reached
reached_side w k side = reached_in side (stream_numbered w.streams k)

-- the network once up to this many of the next bytes are delivered to this side, where it is there
abbrev pub delivered : WorldState → ℕ → Option Reached → WorldState
delivered w count None = w
delivered w count (Some x) = record w { streams = change_at_end w.streams x.at (with_delivered count) }

-- the side is told
abbrev pub told : WorldState → Option Reached → WorldState
told w None = w
told w (Some x) = record w { streams = change_at_end w.streams x.at (with_side told_closed) }

-- how the far side stands then
abbrev pub arrival_by : Reply → Arrival
arrival_by reply.Turned = turned_away
arrival_by _ = lives

-- the stream with this near end is opened at this node, under this number
abbrev pub arrived : WorldState → Visit → ℕ → Reply → Option StreamState → WorldState
arrived w v number r None = w
arrived w v number r (Some t) = record w { streams = change_at_end w.streams t.near (with_far (end_of v.node number) (arrival_by r)) }
