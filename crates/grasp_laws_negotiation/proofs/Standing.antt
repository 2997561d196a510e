-- How a stream of a network stands as a talk, and how its ends stand at their nodes.
use Rattle.std.proofs.Common.{◌≡◌, ℕ, List, [], Option, Some, None, reverse}
use Rattle.grasp_model_node.specs.Streams.{past_of}
use Rattle.grasp_laws_node_stories.specs.Stories.{IsClear}
use Rattle.grasp_laws_node_stories.specs.StreamMoves.{view_on}
use Rattle.grasp_session.specs.Messages.{Side}
use Rattle.grasp_session.specs.Talk.{Absent, Refused, Party, Talk, Move, run, Reached}
use Rattle.grasp_session.specs.Transcript.{Transcript}
use Rattle.grasp_wire.specs.Cutter.{Past}
use Rattle.grasp_model_network.specs.Streams.{StreamEnd, StreamState, end_at}
use Rattle.grasp_model_network.specs.World.{Seat, WorldState, seat_at, end_of}
use Rattle.grasp_laws_delivery.specs.Saying.{OfEachStream}
use Rattle.grasp_laws_negotiation.proofs.TalkSteps.{Fits}
use Rattle.grasp_laws_negotiation.specs.Negotiations.{IsNegotiation}

-- the transcript of the session on a stream of this number at a node
abbrev pub view_seat : ℕ → Option Seat → Option Transcript
view_seat stream None = None
view_seat stream (Some seat) = view_on seat.core stream

-- an open end has taken what its record was given, and it didn't decline
pub record OpenStands (past : Past) (p : Party) : Type 0 where
  pub taken : p.taken ≡ reverse past.given
  pub awake : p.stage ≡ Refused → ⊥

-- an end stands as the party does
pub record EndStands (w : WorldState) (e : StreamEnd) (p : Party) : Type 0 where
  pub fits : Fits (view_seat e.number (seat_at w e.node)) p.stage
  pub opens : (seat : Seat) (past : Past) → seat_at w e.node ≡ Some seat → past_of seat.core.streams e.number ≡ Some past → OpenStands past p

-- a side that isn't opened yet has done nothing
abbrev pub SideStands : WorldState → Option StreamEnd → Party → Type 0
SideStands w None p = (p.stage ≡ Absent) × (p.taken ≡ [])
SideStands w (Some e) p = EndStands w e p

-- the stream stands as a talk
pub record Stands (w : WorldState) (t : StreamState) : Type 0 where
  pub talk : Talk
  pub reached : Reached talk
  pub said_is : talk.said ≡ t.said
  pub near : EndStands w t.near talk.near
  pub far : SideStands w t.far talk.far

-- the stream stands as a talk to which some moves lead from this one
pub record GoesTo (y : WorldState) (u : StreamState) (before : Talk) : Type 0 where
  pub stands : Stands y u
  pub moves : List Move
  pub ran : stands.talk ≡ run before moves

-- no stream has this end
abbrev pub NoStream : List StreamState → StreamEnd → Type 0
NoStream ts e = OfEachStream (λ t. (side : Side) → end_at t side ≡ Some e → ⊥) ts

-- what is kept of a network: each stream of its nodes is clear, a number without a stream had no session, and each negotiation stands as a talk
pub record NetworkStands (w : WorldState) : Type 0 where
  pub clear : (node : ℕ) (seat : Seat) → seat_at w node ≡ Some seat → (stream : ℕ) → IsClear seat.core stream
  pub unseen : (node : ℕ) (seat : Seat) → seat_at w node ≡ Some seat → (stream : ℕ) → NoStream w.streams (end_of node stream) → view_on seat.core stream ≡ None
  pub streams : OfEachStream (λ t. IsNegotiation t → Stands w t) w.streams
