-- The datagrams that a step of a node queues are messages in range.
use Rattle.std.proofs.Common.{◌≡◌, sym, subst, arith, ℕ, ◌-◌, ◌≤◌, List, [], ◌∷◌, ◌++◌, All, Option, Some, None, inl, inr}
use Rattle.std.proofs.lemmas.List.Elements.{All-cons, All-nil, All-append, All-drop, All-weaker}
use Rattle.grasp_asa.specs.Registrations.{is_of}
use Rattle.grasp_cbor.specs.DataItem.{DataItem}
use Rattle.grasp_model_node.proofs.Facts.{session_below, objective_lowered, flood_parts_lowered}
use Rattle.grasp_model_node.specs.Datagrams.{lowered, loops_of}
use Rattle.grasp_model_node.specs.FloodCalls.{looked_for, flooded, flood_message}
use Rattle.grasp_model_node.specs.Node.{NodeState}
use Rattle.grasp_model_node.specs.Queue.{Queued, datagram, dial, send, along, all_ways, other_ways}
use Rattle.grasp_laws_node.specs.Relays.{IsNoDatagram, Responds, SendsOn, DiscoveryQueues, FloodQueues, DatagramQueues, AddsNoDatagram, own_message, Spreads, CallQueues, DrainQueues, Queues}
use Rattle.grasp_model_node.specs.Step.{Coming, IsComing}
use Rattle.grasp_model_node.specs.Streams.{next_stream}
use Rattle.grasp_model_node.specs.declared.way.Way.{Way}
use Rattle.grasp_types.proofs.Facts.{some_part}
use Rattle.grasp_types.specs.Address.{IsAddress}
use Rattle.grasp_types.specs.Flood.{first_loops}
use Rattle.grasp_types.specs.Message.{IsMessage, IsFloodPart}
use Rattle.grasp_types.specs.declared.address.Address.{Address}
use Rattle.grasp_types.specs.declared.call.Call.{Call}
use Rattle.grasp_types.specs.declared.call.Call.TheVariants as call
use Rattle.grasp_types.specs.declared.flood.FloodPart.{FloodPart}
use Rattle.grasp_types.specs.declared.message.Message.{Message}
use Rattle.grasp_types.specs.declared.message.Message.TheVariants.{Discovery, Response, Flood}
use Rattle.grasp_types.specs.declared.objective.Objective.{Objective}
use Rattle.grasp_types.specs.declared.reply.ApiAnswer.{ApiAnswer}
use Rattle.grasp_types.specs.declared.reply.ApiAnswer.TheVariants as answer
use Rattle.grasp_types.specs.declared.reply.Reply.{Reply}
use Rattle.grasp_types.specs.declared.reply.Reply.TheVariants as reply
use Rattle.grasp_types.specs.declared.session.Kind.{Kind}
use Rattle.grasp_types.specs.declared.session.Kind.TheVariants.{Negotiation, Synchronization}
use Rattle.grasp_types.specs.declared.traffic.Input.{Input}
use Rattle.grasp_types.specs.declared.traffic.Input.TheVariants as input
use Rattle.grasp_model_network.specs.Ranges.{IsCall}
use Rattle.grasp_laws_delivery.proofs.Fine.Registry.{AreEntered, found_entered}
use Rattle.grasp_laws_delivery.proofs.InRange.Datagrams.{IsCarried}
use Rattle.grasp_laws_delivery.proofs.InRange.Nodes.{IsGoodInput, carried_is}

-- a datagram that is queued is a message in range
abbrev pub IsRanged : Queued → Type 0
IsRanged (datagram link to m) = IsMessage m
IsRanged (dial stream to) = Unit {0}
IsRanged (send stream m) = Unit {0}

abbrev pub IsQueueRanged : NodeState → Type 0
IsQueueRanged n = All IsRanged n.queue

-- ---- what is queued

along_ranged : (m : Message) (ways : List Way) → IsMessage m → All IsRanged (along m ways)
along_ranged m [] k = All-nil IsRanged
along_ranged m (way ∷ ways) k = All-cons IsRanged (datagram way.link way.to m) (along m ways) k (along_ranged m ways k)

no_datagram : (q : Queued) → IsNoDatagram q → IsRanged q
no_datagram (datagram link to m) n = absurd n
no_datagram (dial stream to) n = tt
no_datagram (send stream m) n = tt

as_before : (n after : NodeState) → after.queue ≡ n.queue → IsQueueRanged n → IsQueueRanged after
as_before n after e q = subst (All IsRanged) (sym e) q

with_more : (n after : NodeState) (more : List Queued) → after.queue ≡ n.queue ++ more → All IsRanged more → IsQueueRanged n → IsQueueRanged after
with_more n after more e m q = subst (All IsRanged) (sym e) (All-append IsRanged n.queue more q m)

adds_none : (n after : NodeState) → AddsNoDatagram n after → IsQueueRanged n → IsQueueRanged after
adds_none n after a q = with_more n after a.more a.queued (All-weaker IsNoDatagram IsRanged no_datagram a.more a.none) q

-- ---- a datagram that is sent on

sends_on : (n : NodeState) (link loops : ℕ) (m : Message) (after : NodeState) → SendsOn n link loops m after → IsMessage m → IsQueueRanged n → IsQueueRanged after
sends_on n link loops m after on k q = with_more n after (along m (other_ways link n.plan.links)) on.queued (along_ranged m (other_ways link n.plan.links) k) q

responds : (n : NodeState) (link from session : ℕ) (initiator : Address) (after : NodeState) → Responds n link from session initiator after → IsQueueRanged n → IsQueueRanged after
responds n link from session initiator after r q = with_more n after outputs r.queued two q where
  m : Message
  m = Response session initiator r.ttl r.told None

  outputs : List Queued
  outputs = dial (next_stream n.streams) r.neighbour.locator ∷ send (next_stream n.streams) m ∷ []

  two : All IsRanged outputs
  two =
      All-cons IsRanged (dial (next_stream n.streams) r.neighbour.locator) (send (next_stream n.streams) m ∷ []) tt
      (All-cons IsRanged (send (next_stream n.streams) m) [] tt (All-nil IsRanged))

discovery_queue : (n : NodeState) (link from session : ℕ) (initiator : Address) (o : Objective) (after : NodeState) → DiscoveryQueues n link from session initiator o after
    → IsMessage (Discovery session initiator o) → IsQueueRanged n → IsQueueRanged after
discovery_queue n link from session initiator o after (inl e) k q = as_before n after e q
discovery_queue n link from session initiator o after (inr (inl r, a, b)) k q = responds n link from session initiator after r q
discovery_queue n link from session initiator o after (inr (inr on, a, b)) k q =
    sends_on n link o.loops (Discovery session initiator (lowered o)) after on (k.0, k.1, objective_lowered o k.2) q

flood_queue : (n : NodeState) (link session : ℕ) (initiator : Address) (ttl : ℕ) (parts : List FloodPart) (after : NodeState) → FloodQueues n link session initiator ttl parts after
    → IsMessage (Flood session initiator ttl parts) → IsQueueRanged n → IsQueueRanged after
flood_queue n link session initiator ttl parts after (inl e) k q = as_before n after e q
flood_queue n link session initiator ttl parts after (inr (on, a, b)) k q =
    sends_on n link (loops_of parts) (Flood session initiator ttl (first_loops parts (loops_of parts - 1))) after on (k.0, k.1, k.2, flood_parts_lowered parts k.3) q

datagram_queue : (n : NodeState) (link from : ℕ) (m : Option Message) (after : NodeState) → DatagramQueues n link from m after → IsCarried m → IsQueueRanged n → IsQueueRanged after
datagram_queue n link from (Some (Discovery session initiator o)) after d k q = discovery_queue n link from session initiator o after d k q
datagram_queue n link from (Some (Flood session initiator ttl parts)) after d k q = flood_queue n link session initiator ttl parts after d k q
datagram_queue n link from _ after d k q = as_before n after d q

-- ---- what a call begins

small_flags : (kind : Kind) (name : List ℕ) (loops : ℕ) → (looked_for name kind loops).flags ≤ 15
small_flags Negotiation name loops = omega arith
small_flags Synchronization name loops = omega arith

own_flood : (n : NodeState) (asa : ℕ) (name : List ℕ) (value : DataItem) (ttl loops : ℕ) → IsCall (call.Flood name value ttl loops) → IsAddress n.plan.address → AreEntered n.registrations
    → IsMessage (flood_message n asa name value ttl loops)
own_flood n asa name value ttl loops k address entered =
    (session_below n, address, k.2, record { some = some_part part; each = All-cons IsFloodPart part [] is_part (All-nil IsFloodPart) }) where
      part : FloodPart
      part = flooded n asa name value loops

      is_part : IsFloodPart part
      is_part = record {
        objective = record { name = k.0; flags = found_entered (is_of asa name) n.registrations.objectives entered; loops = k.3; value = k.1 };
        locator = tt;
      }

own_ranged : (n : NodeState) (asa : ℕ) (it : Call) (a : ApiAnswer) → IsCall it → IsAddress n.plan.address → AreEntered n.registrations → IsCarried (own_message n asa it a)
own_ranged n asa (call.Discover name kind loops timeout) answer.Searching k address entered =
    (session_below n, address, record { name = k.0; flags = small_flags kind name loops; loops = k.1; value = tt })
own_ranged n asa (call.Flood name value ttl loops) answer.Done k address entered = own_flood n asa name value ttl loops k address entered
own_ranged n asa it a k address entered = tt

spread_queue : (n : NodeState) (m : Option Message) (after : NodeState) → Spreads n m after → IsCarried m → IsQueueRanged n → IsQueueRanged after
spread_queue n None after a k q = adds_none n after a q
spread_queue n (Some m) after a k q = with_more n after (along m (all_ways n.plan.links)) a.0 (along_ranged m (all_ways n.plan.links) k) q

call_queue : (n : NodeState) (asa : ℕ) (it : Call) (r : Reply) (after : NodeState) → CallQueues n asa it r after → IsCall it → IsAddress n.plan.address → AreEntered n.registrations
    → IsQueueRanged n → IsQueueRanged after
call_queue n asa it (reply.Api a) after c k address entered q = spread_queue n (own_message n asa it a) after c (own_ranged n asa it a k address entered) q
call_queue n asa it _ after c k address entered q = as_before n after c q

drain_queue : (n : NodeState) (max : ℕ) (r : Reply) (after : NodeState) → DrainQueues n max r after → IsQueueRanged n → IsQueueRanged after
drain_queue n max (reply.Outputs outputs) after d q = subst (All IsRanged) (sym d) (All-drop IsRanged max n.queue q)
drain_queue n max _ after d q = as_before n after d q

-- ---- every input

pub input_queue : (n : NodeState) (i : Input) (x : Coming) (r : Reply) (after : NodeState) → Queues n i x r after → IsComing n i x → IsGoodInput i → IsAddress n.plan.address → AreEntered n.registrations
    → IsQueueRanged n → IsQueueRanged after
input_queue n (input.Api asa it) x r after u c k address entered q = call_queue n asa it r after u k address entered q
input_queue n (input.Datagram link from bytes) x r after u c k address entered q = datagram_queue n link from x.carried after u (carried_is n.plan.limit bytes x.carried c) q
input_queue n (input.Opened stream from) x r after u c k address entered q = as_before n after u q
input_queue n (input.Bytes stream bytes) x r after u c k address entered q = adds_none n after u q
input_queue n (input.Closed stream) x r after u c k address entered q = as_before n after u q
input_queue n (input.Drain max) x r after u c k address entered q = drain_queue n max r after u q
