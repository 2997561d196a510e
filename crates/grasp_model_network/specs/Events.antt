-- What an event does: at most one step of a node, what comes of it, and then a drain of that node.
use Rattle.std.specs.Prelude.{◌≡◌, ◌≢◌, ◌≤◌, ℕ, Bool, true, false, not, Option, None, Some, IsSome, length}
use Rattle.grasp_types.specs.Prefix.{IsPrefix}
use Rattle.grasp_model_network.specs.EventSteps.{call_visit, after_agent_call, agent_visit, after_agent, arrival_visit, after_arrival, clock_visit, after_clock, cut_visit, after_cut, datagram_visit, after_delivery, drain_visit, piece_visit, after_piece}
use Rattle.grasp_model_network.specs.StreamChanges.{side_named}
use Rattle.grasp_model_network.specs.Plans.{IsNode}
use Rattle.grasp_model_network.specs.Ranges.{IsCall}
use Rattle.grasp_model_network.specs.Sending.{drained, event_drain}
use Rattle.grasp_model_network.specs.Setting.{Setting}
use Rattle.grasp_model_network.specs.Telling.{telling_of, after_told}
use Rattle.grasp_model_network.specs.Visits.{Visit, Choice, MayCome}
use Rattle.grasp_model_network.specs.World.{WorldState, present_life, is_too_much}
use Rattle.grasp_model_network.specs.declared.event.Event.{Event}
use Rattle.grasp_model_network.specs.declared.event.Event.TheVariants as event
use Rattle.grasp_model_network.specs.declared.report.WorldStop.{WorldStop}
use Rattle.grasp_model_network.specs.declared.report.WorldStop.TheVariants as stop

-- ---- which events may be asked for

-- the number is that of a life
abbrev pub IsLife : WorldState → ℕ → Type 0
IsLife w node = IsNode (length w.seats) node

-- a prefix of this length, or of one up to the longest, can be wanted
pub record AreLengths (length longest : ℕ) : Type 0 where
  pub least : 1 ≤ length
  pub rising : length ≤ longest
  pub most : longest ≤ 128

-- among so many nodes, and so many peers that a want or a return can name: the nodes and the peer that it names are there, no call is made
-- as agent 1, which is the node's own, what a call carries is within its ranges, the lengths of a want are lengths of prefixes, and what is
-- given back is a prefix
abbrev pub IsFitAmong : ℕ → ℕ → Event → Type 0
IsFitAmong nodes peers (event.Clock node millis) = IsNode nodes node
IsFitAmong nodes peers (event.Want node length longest peer) = IsNode nodes node × IsNode peers peer × AreLengths length longest
IsFitAmong nodes peers (event.Return node prefix peer) = IsNode nodes node × IsNode peers peer × IsPrefix prefix.address prefix.length
IsFitAmong nodes peers (event.Agent node hold) = IsNode nodes node
IsFitAmong nodes peers (event.Api node asa call hold) = IsNode nodes node × (asa ≢ 1) × IsCall call
IsFitAmong nodes peers (event.Datagram index hold) = Unit {0}
IsFitAmong nodes peers (event.Arrive stream hold) = Unit {0}
IsFitAmong nodes peers (event.Bytes stream far count hold) = Unit {0}
IsFitAmong nodes peers (event.Cut stream far hold) = Unit {0}
IsFitAmong nodes peers (event.Drain node max) = IsNode nodes node

abbrev pub IsFit : Setting → WorldState → Event → Type 0
IsFit s w e = IsFitAmong (length s.members) (length s.peers) e

-- ---- the step

-- the step that an event makes, where it makes one: an event names a member, and its present life makes the step
abbrev pub visit_of : Setting → WorldState → Event → Option Visit
visit_of s w (event.Clock node millis) = clock_visit w (present_life w node) millis
visit_of s w (event.Want node length longest peer) = None
visit_of s w (event.Return node prefix peer) = None
visit_of s w (event.Agent node hold) = agent_visit w (present_life w node)
visit_of s w (event.Api node asa call hold) = call_visit w (present_life w node) asa call
visit_of s w (event.Datagram index hold) = datagram_visit w index
visit_of s w (event.Arrive stream hold) = arrival_visit s w stream
visit_of s w (event.Bytes stream far count hold) = piece_visit w stream (side_named far) count
visit_of s w (event.Cut stream far hold) = cut_visit w stream (side_named far)
visit_of s w (event.Drain node max) = drain_visit w (present_life w node) max

-- the network after the step and what comes of it
abbrev pub after_visit : Setting → WorldState → Event → Visit → Choice → WorldState
after_visit s w (event.Clock node millis) v c = after_clock w v c
after_visit s w (event.Want node length longest peer) v c = w
after_visit s w (event.Return node prefix peer) v c = w
after_visit s w (event.Agent node hold) v c = after_agent w v c
after_visit s w (event.Api node asa call hold) v c = after_agent_call w v asa call c
after_visit s w (event.Datagram index hold) v c = after_delivery w v index c
after_visit s w (event.Arrive stream hold) v c = after_arrival s w v stream c
after_visit s w (event.Bytes stream far count hold) v c = after_piece w v stream (side_named far) count c
after_visit s w (event.Cut stream far hold) v c = after_cut w v stream (side_named far) c
after_visit s w (event.Drain node max) v c = drained s w v.node max

-- ---- the drain behind it

-- outputs of the node are sent behind the step, unless the event is held, a clock, a want, a return or itself a drain
abbrev pub drains : Event → Bool
drains (event.Clock node millis) = false
drains (event.Want node length longest peer) = false
drains (event.Return node prefix peer) = false
drains (event.Agent node hold) = not hold
drains (event.Api node asa call hold) = not hold
drains (event.Datagram index hold) = not hold
drains (event.Arrive stream hold) = not hold
drains (event.Bytes stream far count hold) = not hold
drains (event.Cut stream far hold) = not hold
drains (event.Drain node max) = false

abbrev pub drained_behind : Bool → Setting → WorldState → ℕ → WorldState
drained_behind true s w node = drained s w node event_drain
drained_behind false s w node = w

-- ---- the whole

-- an event without a step changes the network by what it tells an agent alone
abbrev pub after_none : Setting → WorldState → Event → WorldState
after_none s w e = after_told w (telling_of s w e)

abbrev pub after_by : Setting → WorldState → Event → Choice → Option Visit → WorldState
after_by s w e c None = after_none s w e
after_by s w e c (Some v) = drained_behind (drains e) s (after_visit s w e v c) v.node

-- the network after an event, whose step came out so
unfoldable pub after_event : Setting → WorldState → Event → Choice → WorldState
after_event s w e c = after_by s w e c (visit_of s w e)

-- the event may come out so: it may be asked for, its step is a step of the node for which there was memory, and no more was sent than
-- may be. All is determined but for want of memory, by the one division of a stream and the one message of a datagram
pub record Occurs (s : Setting) (w : WorldState) (e : Event) (c : Choice) : Type 0 where
  pub fit : IsFit s w e
  pub comes : MayCome (visit_of s w e) c
  pub enough : is_too_much (after_event s w e c) ≡ false

-- more was sent than may be, with a step that came out so and with the drain behind it
pub record Overflows (s : Setting) (w : WorldState) (e : Event) : Type 0 where
  pub choice : Choice
  pub comes : MayCome (visit_of s w e) choice
  pub too_much : is_too_much (after_event s w e choice) ≡ true

-- an event may take memory, unless it is a clock, a want or a return
abbrev pub wants_memory : Event → Bool
wants_memory (event.Clock node millis) = false
wants_memory (event.Want node length longest peer) = false
wants_memory (event.Return node prefix peer) = false
wants_memory _ = true

-- why the event may stop the network: because more was sent than may be, or, where it may take memory and makes a step, for want of it
abbrev pub MayStop : Setting → WorldState → Event → WorldStop → Type 0
MayStop s w e stop.TooMuch = Overflows s w e
MayStop s w e stop.OutOfMemory = (wants_memory e ≡ true) × IsSome (visit_of s w e)
