-- What a step queues for neighbours. A discovery and a flood are sent on only where they weren't remembered, whole: to
-- every neighbour of every other link, with the loop count less by one and never with 0 (RFC 8990, sections 2.5.4.4 and
-- 2.5.6.2). Nothing else is sent by datagram but what an agent's call begins.
use Rattle.std.specs.Prelude.{◌≡◌, ◌≢◌, ◌≤◌, ◌<◌, ◌-◌, ◌+◌, ◌⊎◌, ◌++◌, max, drop, ℕ, true, false, List, [], ◌∷◌, length, slice_get, All, AllPairs, Contains, Option, None, Some}
use Rattle.grasp_discovery.specs.Discoveries as discovery
use Rattle.grasp_discovery.specs.declared.memory.Memory.{Memory}
use Rattle.grasp_flood.specs.Floods as flood
use Rattle.grasp_types.specs.Flood.{first_loops}
use Rattle.grasp_types.specs.Origin.{origin_of}
use Rattle.grasp_types.specs.declared.address.Address.{Address}
use Rattle.grasp_types.specs.declared.call.Call.{Call}
use Rattle.grasp_types.specs.declared.call.Call.TheVariants as call
use Rattle.grasp_types.specs.declared.flood.FloodPart.{FloodPart}
use Rattle.grasp_types.specs.declared.links.Neighbour.{Neighbour}
use Rattle.grasp_types.specs.declared.message.Answer.{Answer}
use Rattle.grasp_types.specs.declared.message.Message.{Message}
use Rattle.grasp_types.specs.declared.message.Message.TheVariants.{Noop, Discovery, Response, ReqNeg, ReqSyn, Negotiate, End, Wait, Synch, Flood, Invalid}
use Rattle.grasp_types.specs.declared.objective.Objective.{Objective}
use Rattle.grasp_types.specs.declared.origin.Origin.{Origin}
use Rattle.grasp_types.specs.declared.reply.ApiAnswer.{ApiAnswer}
use Rattle.grasp_types.specs.declared.reply.ApiAnswer.TheVariants.{Searching, Done}
use Rattle.grasp_types.specs.declared.reply.Reply.{Reply}
use Rattle.grasp_types.specs.declared.reply.Reply.TheVariants as reply
use Rattle.grasp_types.specs.declared.traffic.Input.{Input}
use Rattle.grasp_types.specs.declared.traffic.Input.TheVariants as input
use Rattle.grasp_model_node.specs.Begin.{begin}
use Rattle.grasp_model_node.specs.Datagrams.{lowered, loops_of}
use Rattle.grasp_model_node.specs.FloodCalls.{discovery_message, flood_message}
use Rattle.grasp_model_node.specs.Hear.{neighbour_at}
use Rattle.grasp_model_node.specs.Node.{NodeState}
use Rattle.grasp_model_node.specs.Queue.{Queued, datagram, dial, send, along, all_ways, other_ways}
use Rattle.grasp_model_node.specs.Step.{Coming, NodeStep}
use Rattle.grasp_model_node.specs.Streams.{next_stream}
use Rattle.grasp_model_node.specs.declared.way.Way.{Way}

-- ---- a datagram

-- the neighbour from whom it came is dialled on the next stream, for one response of this session number and initiator
pub record Responds (n : NodeState) (link from session : ℕ) (initiator : Address) (after : NodeState) : Type 0 where
  pub neighbour : Neighbour
  pub came_from : neighbour_at n link from ≡ Some neighbour
  pub ttl : ℕ
  pub told : Answer
  pub queued : after.queue
      ≡ n.queue ++ dial (next_stream n.streams) neighbour.locator ∷ send (next_stream n.streams) (Response session initiator ttl told None) ∷ []

-- the message goes along every way to another link; what came had a loop count of 2 or more
pub record SendsOn (n : NodeState) (link loops : ℕ) (m : Message) (after : NodeState) : Type 0 where
  pub loops_left : 2 ≤ loops
  pub queued : after.queue ≡ n.queue ++ along m (other_ways link n.plan.links)

-- a discovery queues nothing; or it wasn't remembered and is now, and is answered, or sent on with a loop count less by one
abbrev pub DiscoveryQueues : NodeState → ℕ → ℕ → ℕ → Address → Objective → NodeState → Type 0
DiscoveryQueues n link from session initiator o after =
    (after.queue ≡ n.queue)
    ⊎ ((Responds n link from session initiator after ⊎ SendsOn n link o.loops (Discovery session initiator (lowered o)) after)
    × (discovery.remembers n.discoveries (origin_of session initiator) ≡ false)
    × (discovery.remembers after.discoveries (origin_of session initiator) ≡ true))

-- a flood queues nothing; or it wasn't remembered and is now, and is sent on with its first loop count less by one
abbrev pub FloodQueues : NodeState → ℕ → ℕ → Address → ℕ → List FloodPart → NodeState → Type 0
FloodQueues n link session initiator ttl parts after =
    (after.queue ≡ n.queue)
    ⊎ (SendsOn n link (loops_of parts) (Flood session initiator ttl (first_loops parts (loops_of parts - 1))) after
    × (flood.remembers n.floods (origin_of session initiator) ≡ false)
    × (flood.remembers after.floods (origin_of session initiator) ≡ true))

-- any other message, or none, queues nothing
abbrev pub DatagramQueues : NodeState → ℕ → ℕ → Option Message → NodeState → Type 0
DatagramQueues n link from (Some (Discovery session initiator o)) after = DiscoveryQueues n link from session initiator o after
DatagramQueues n link from (Some (Flood session initiator ttl parts)) after = FloodQueues n link session initiator ttl parts after
DatagramQueues n link from None after = after.queue ≡ n.queue
DatagramQueues n link from (Some Noop) after = after.queue ≡ n.queue
DatagramQueues n link from (Some (Response session initiator ttl told o)) after = after.queue ≡ n.queue
DatagramQueues n link from (Some (ReqNeg session o)) after = after.queue ≡ n.queue
DatagramQueues n link from (Some (ReqSyn session o)) after = after.queue ≡ n.queue
DatagramQueues n link from (Some (Negotiate session o)) after = after.queue ≡ n.queue
DatagramQueues n link from (Some (End session verdict)) after = after.queue ≡ n.queue
DatagramQueues n link from (Some (Wait session millis)) after = after.queue ≡ n.queue
DatagramQueues n link from (Some (Synch session o)) after = after.queue ≡ n.queue
DatagramQueues n link from (Some (Invalid session detail)) after = after.queue ≡ n.queue

-- ---- any other input

abbrev pub IsNoDatagram : Queued → Type 0
IsNoDatagram (datagram on to message) = ⊥
IsNoDatagram (dial stream to) = Unit {0}
IsNoDatagram (send stream message) = Unit {0}

-- what is queued behind the others is no datagram
pub record AddsNoDatagram (n after : NodeState) : Type 0 where
  pub more : List Queued
  pub queued : after.queue ≡ n.queue ++ more
  pub none : All IsNoDatagram more

-- the message that a call begins where it is answered so, with the session number that is drawn next
abbrev pub own_message : NodeState → ℕ → Call → ApiAnswer → Option Message
own_message n asa (call.Discover name kind loops timeout) Searching = Some (discovery_message n name kind loops)
own_message n asa (call.Flood name value ttl loops) Done = Some (flood_message n asa name value ttl loops)
own_message n asa it answer = None

-- the message goes along every way, once its number is drawn; where there is none no datagram is queued
abbrev pub Spreads : NodeState → Option Message → NodeState → Type 0
Spreads n None after = AddsNoDatagram n after
Spreads n (Some m) after = (after.queue ≡ n.queue ++ along m (all_ways n.plan.links)) × (after.drawn ≡ n.drawn + 1)

abbrev pub CallQueues : NodeState → ℕ → Call → Reply → NodeState → Type 0
CallQueues n asa it (reply.Api answer) after = Spreads n (own_message n asa it answer) after
CallQueues n asa it _ after = after.queue ≡ n.queue

-- a drain takes from the front
abbrev pub DrainQueues : NodeState → ℕ → Reply → NodeState → Type 0
DrainQueues n max (reply.Outputs outputs) after = after.queue ≡ drop max n.queue
DrainQueues n max _ after = after.queue ≡ n.queue

-- ---- every input

abbrev pub Queues : NodeState → Input → Coming → Reply → NodeState → Type 0
Queues n (input.Api asa it) x r after = CallQueues n asa it r after
Queues n (input.Datagram link from bytes) x r after = DatagramQueues n link from x.carried after
Queues n (input.Opened stream from) x r after = after.queue ≡ n.queue
Queues n (input.Bytes stream bytes) x r after = AddsNoDatagram n after
Queues n (input.Closed stream) x r after = after.queue ≡ n.queue
Queues n (input.Drain max) x r after = DrainQueues n max r after

abbrev pub RelaysAreOnce : Type 0
RelaysAreOnce = (n after : NodeState) (now : ℕ) (i : Input) (x : Coming) (r : Reply) → NodeStep n now i x r after → Queues (begin n now) i x r after

-- ---- how long it is remembered

-- a beginning takes no memory away whose end is after the reading
pub record BeginKeeps (n : NodeState) (now : ℕ) : Type 0 where
  pub discoveries : (memory : Origin × Memory) → Contains n.discoveries.memories memory → max n.reading now < memory.1.end → Contains (begin n now).discoveries.memories memory
  pub floods : (memory : Origin × ℕ) → Contains n.floods.memories memory → max n.reading now < memory.1 → Contains (begin n now).floods.memories memory

-- no memory goes, so what is remembered stays remembered
pub record KeepsMemories (n after : NodeState) : Type 0 where
  pub discoveries : (memory : Origin × Memory) → Contains n.discoveries.memories memory → Contains after.discoveries.memories memory
  pub floods : (memory : Origin × ℕ) → Contains n.floods.memories memory → Contains after.floods.memories memory
  pub discovery_stays : (origin : Origin) → discovery.remembers n.discoveries origin ≡ true → discovery.remembers after.discoveries origin ≡ true
  pub flood_stays : (origin : Origin) → flood.remembers n.floods origin ≡ true → flood.remembers after.floods origin ≡ true

-- only a beginning takes memories away, and only those that have ended
abbrev pub MemoriesStay : Type 0
MemoriesStay = ((n : NodeState) (now : ℕ) → BeginKeeps n now)
    × ((n after : NodeState) (now : ℕ) (i : Input) (x : Coming) (r : Reply) → NodeStep n now i x r after → KeepsMemories (begin n now) after)

-- ---- along each way once

-- no two ways are the same, so nothing is sent twice along one
abbrev pub WaysAreDistinct : Type 0
WaysAreDistinct = (links : List (List Neighbour)) → AllPairs (λ a b. a ≢ b) (all_ways links)
    × ((link : ℕ) → AllPairs (λ a b. a ≢ b) (other_ways link links))

-- the way is that to a neighbour on one of the links
pub record IsWay (links : List (List Neighbour)) (way : Way) : Type 0 where
  pub neighbours : List Neighbour
  pub is_link : slice_get links way.link ≡ Some neighbours
  pub has_neighbour : way.to < length neighbours

abbrev pub WaysAreAll : Type 0
WaysAreAll = (links : List (List Neighbour)) (way : Way) → (Contains (all_ways links) way → IsWay links way) × (IsWay links way → Contains (all_ways links) way)
