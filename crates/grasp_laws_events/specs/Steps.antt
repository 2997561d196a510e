-- Which step each event makes, and the node and the agent after it: what an event names is looked up in the network, and comes to the node to
-- which it belongs (RFC 8990, sections 2.5.4 to 2.5.6).
use Rattle.std.specs.Prelude.{◌≡◌, ℕ, Bool, true, false, [], Some, drop, length, take, slice_get}
use Rattle.grasp_agent.specs.Calls.{next_call}
use Rattle.grasp_agent.specs.Replies.{after_reply}
use Rattle.grasp_agent.specs.States.{AgentState}
use Rattle.grasp_model_network.specs.Events.{Occurs, visit_of, after_event}
use Rattle.grasp_model_network.specs.Openings.{opened_seat}
use Rattle.grasp_model_network.specs.Runs.{IsReached, first_world}
use Rattle.grasp_model_network.specs.Setting.{Member, Setting, numbered}
use Rattle.grasp_model_network.specs.Streams.{StreamEnd, StreamState, end_at, lives, not_yet, sent_by, side_at}
use Rattle.grasp_model_network.specs.Visits.{Visit, Choice}
use Rattle.grasp_model_network.specs.World.{Seat, SentDatagram, WorldState, present_life, seat_at}
use Rattle.grasp_model_network.specs.declared.event.Event.{Event}
use Rattle.grasp_model_network.specs.declared.event.Event.TheVariants as event
use Rattle.grasp_model_node.specs.Queue.{encoding}
use Rattle.grasp_pool.specs.Functions.{pool_of}
use Rattle.grasp_session.specs.Messages.{Side, Near, Far, other}
use Rattle.grasp_types.specs.declared.call.Call.{Call}
use Rattle.grasp_types.specs.declared.traffic.Input.{Input}
use Rattle.grasp_types.specs.declared.traffic.Input.TheVariants as input
use Rattle.grasp_wire.specs.Laws.{encoded}

-- ---- the beginning

-- in the first network each member has one life, of its own number, which has its plan and its roots; nothing was sent, and nothing is offered
pub record NetworksBegin : Type 0 where
  pub lives : (s : Setting) → length (first_world s).lives ≡ length s.members
  pub own : (s : Setting) (node : ℕ) (m : Member) → numbered s.members node ≡ Some m → present_life (first_world s) node ≡ node
  pub nodes : (s : Setting) (node : ℕ) (m : Member) → numbered s.members node ≡ Some m
      → seat_at (first_world s) node ≡ Some (opened_seat m.plan (pool_of m.roots))
  pub datagrams : (s : Setting) → (first_world s).datagrams ≡ []
  pub streams : (s : Setting) → (first_world s).streams ≡ []
  pub dials : (s : Setting) → (first_world s).dials ≡ 0
  pub offers : (s : Setting) → (first_world s).offers ≡ []
  pub settled : (s : Setting) → (first_world s).settled ≡ []

-- ---- what an event names

-- the stream has this number among the dials that were sent
pub record IsTalkNumbered (w : WorldState) (k : ℕ) (t : StreamState) : Type 0 where
  pub place : ℕ
  pub stands : slice_get w.streams place ≡ Some t
  pub number : t.number ≡ Some k

-- the side that an event names
abbrev pub far_or_near : Bool → Side
far_or_near true = Far
far_or_near false = Near

-- this side of the stream of this number lives; its end is one of this life, which stands so
pub record SideLives (w : WorldState) (k : ℕ) (side : Side) (t : StreamState) (e : StreamEnd) (seat : Seat) : Type 0 where
  pub talk : IsTalkNumbered w k t
  pub living : side_at t side ≡ lives
  pub end : end_at t side ≡ Some e
  pub here : seat_at w e.node ≡ Some seat

-- the stream of this number, which this life dialled, waits to be opened; this member listens where it was dialled to, and its present life stands so
pub record WaitsToOpen (s : Setting) (w : WorldState) (k node : ℕ) (t : StreamState) (dialling seat : Seat) : Type 0 where
  pub talk : IsTalkNumbered w k t
  pub waits : t.far_side ≡ not_yet
  pub member : Member
  pub found : numbered s.members node ≡ Some member
  pub listens : member.plan.locator ≡ t.to
  pub dialled : seat_at w t.near.node ≡ Some dialling
  pub here : seat_at w (present_life w node) ≡ Some seat

-- ---- the step

-- the event's step is made by this life, which stands so, at this reading, with this input
abbrev pub StepsAt : Setting → WorldState → Event → ℕ → Seat → ℕ → Input → Type 0
StepsAt s w e life seat now i = visit_of s w e ≡ Some (record { node = life; seat = seat; now = now; input = i })

-- and at the life's own reading
abbrev pub StepsWith : Setting → WorldState → Event → ℕ → Seat → Input → Type 0
StepsWith s w e life seat i = StepsAt s w e life seat seat.core.reading i

-- each event whose node, datagram or side is there makes this step
pub record EventsMakeSteps : Type 0 where
  -- a clock: a drain of nothing at the reading that it shows
  pub clocks : (s : Setting) (w : WorldState) (node millis : ℕ) (seat : Seat) → seat_at w (present_life w node) ≡ Some seat
      → StepsAt s w (event.Clock node millis) (present_life w node) seat millis (input.Drain 0)
  -- the agent of prefixes makes its next call, as the agent that it is
  pub agents : (s : Setting) (w : WorldState) (node : ℕ) (hold : Bool) (seat : Seat) → seat_at w (present_life w node) ≡ Some seat
      → StepsWith s w (event.Agent node hold) (present_life w node) seat (input.Api seat.agent.asa (next_call seat.agent))
  -- another agent makes a call
  pub calls : (s : Setting) (w : WorldState) (node asa : ℕ) (call : Call) (hold : Bool) (seat : Seat) → seat_at w (present_life w node) ≡ Some seat
      → StepsWith s w (event.Api node asa call hold) (present_life w node) seat (input.Api asa call)
  -- outputs are drained
  pub drains : (s : Setting) (w : WorldState) (node max : ℕ) (seat : Seat) → seat_at w (present_life w node) ≡ Some seat
      → StepsWith s w (event.Drain node max) (present_life w node) seat (input.Drain max)
  -- a datagram comes in at its receiver, on the link and from the neighbour of its route, as its message's bytes
  pub datagrams : (s : Setting) (w : WorldState) (index : ℕ) (hold : Bool) (d : SentDatagram) (seat : Seat) → numbered w.datagrams index ≡ Some d
      → seat_at w (present_life w d.route.receiver) ≡ Some seat
      → StepsWith s w (event.Datagram index hold) (present_life w d.route.receiver) seat
      (input.Datagram d.route.link d.route.from (encoding d.message))
  -- a stream is opened where it was dialled to, under the number with which it arrives, and from the address with which it does
  pub arrivals : (s : Setting) (w : WorldState) (k node : ℕ) (hold : Bool) (t : StreamState) (dialling seat : Seat) → IsReached s w
      → WaitsToOpen s w k node t dialling seat
      → StepsWith s w (event.Arrive k hold) (present_life w node) seat
      (input.Opened (s.arrives_as (present_life w node) k) (s.arrives_from k dialling.core.plan.address))
  -- the next bytes that the other side sent come in at a side that lives
  pub pieces : (s : Setting) (w : WorldState) (k count : ℕ) (far hold : Bool) (t : StreamState) (e : StreamEnd) (seat : Seat) → IsReached s w
      → SideLives w k (far_or_near far) t e seat
      → StepsWith s w (event.Bytes k far count hold) e.node seat
      (input.Bytes e.number (take count (drop (sent_by t (other (far_or_near far))).delivered (encoded (sent_by t (other (far_or_near far))).sent))))
  -- a side that lives is told that the stream is closed
  pub cuts : (s : Setting) (w : WorldState) (k : ℕ) (far hold : Bool) (t : StreamState) (e : StreamEnd) (seat : Seat) → IsReached s w
      → SideLives w k (far_or_near far) t e seat → StepsWith s w (event.Cut k far hold) e.node seat (input.Closed e.number)

-- and an event of a stream makes a step for no other one, and for no other side
pub record StepsHaveStreams : Type 0 where
  pub arrivals : (s : Setting) (w : WorldState) (k : ℕ) (hold : Bool) (v : Visit) → visit_of s w (event.Arrive k hold) ≡ Some v
      → (node : ℕ) × (v.node ≡ present_life w node) × ((t : StreamState) × ((dialling : Seat) × WaitsToOpen s w k node t dialling v.seat))
  pub pieces : (s : Setting) (w : WorldState) (k count : ℕ) (far hold : Bool) (v : Visit) → visit_of s w (event.Bytes k far count hold) ≡ Some v
      → (t : StreamState) × ((e : StreamEnd) × SideLives w k (far_or_near far) t e v.seat)
  pub cuts : (s : Setting) (w : WorldState) (k : ℕ) (far hold : Bool) (v : Visit) → visit_of s w (event.Cut k far hold) ≡ Some v
      → (t : StreamState) × ((e : StreamEnd) × SideLives w k (far_or_near far) t e v.seat)

-- ---- what the step leaves

-- nothing is sent behind the step
abbrev pub SendsNothingBehind : Event → Type 0
SendsNothingBehind (event.Clock node millis) = Unit {0}
SendsNothingBehind (event.Want node length longest peer) = Unit {0}
SendsNothingBehind (event.Return node prefix peer) = Unit {0}
SendsNothingBehind (event.Agent node hold) = hold ≡ true
SendsNothingBehind (event.Api node asa call hold) = hold ≡ true
SendsNothingBehind (event.Datagram index hold) = hold ≡ true
SendsNothingBehind (event.Arrive k hold) = hold ≡ true
SendsNothingBehind (event.Bytes k far count hold) = hold ≡ true
SendsNothingBehind (event.Cut k far hold) = hold ≡ true
SendsNothingBehind (event.Drain node max) = Unit {0}

-- the agent of prefixes takes the reply to its own call, and is told of no other
abbrev pub agent_beside : Event → AgentState → Choice → AgentState
agent_beside (event.Agent node hold) a c = after_reply a c.reply
agent_beside _ a c = a

-- the life that makes the step is then what its node's step has made of it
abbrev pub StepsLeaveNodes : Type 0
StepsLeaveNodes = (s : Setting) (w : WorldState) (e : Event) (c : Choice) (v : Visit) → Occurs s w e c → visit_of s w e ≡ Some v
    → SendsNothingBehind e
    → seat_at (after_event s w e c) v.node ≡ Some (record { core = c.after; agent = agent_beside e v.seat.agent c })
