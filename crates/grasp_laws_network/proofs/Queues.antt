-- A step that doesn't drain leaves what is queued as it is.
use Rattle.std.proofs.Common.{◌≡◌, sym, ap, ◌∙◌, subst, ℕ, List, [], ◌++◌, length, drop, Option, Some, None, append-nil, inl, inr}
use Rattle.std.proofs.Math.Seq.{drop-append_seam}
use Rattle.grasp_laws_node.proofs.Beginning.{beginnings_end}
use Rattle.grasp_laws_node.proofs.Remembered.{relays_once}
use Rattle.grasp_model_node.specs.Begin.{begin}
use Rattle.grasp_model_node.specs.Node.{NodeState}
use Rattle.grasp_model_node.specs.Queue.{Queued, along, all_ways, other_ways}
use Rattle.grasp_laws_node.specs.Relays.{Responds, SendsOn, DiscoveryQueues, FloodQueues, DatagramQueues, own_message, Spreads, CallQueues, DrainQueues, Queues}
use Rattle.grasp_model_node.specs.Step.{Coming}
use Rattle.grasp_types.specs.declared.address.Address.{Address}
use Rattle.grasp_types.specs.declared.call.Call.{Call}
use Rattle.grasp_types.specs.declared.flood.FloodPart.{FloodPart}
use Rattle.grasp_types.specs.declared.message.Message.{Message}
use Rattle.grasp_types.specs.declared.message.Message.TheVariants.{Discovery, Flood}
use Rattle.grasp_types.specs.declared.objective.Objective.{Objective}
use Rattle.grasp_types.specs.declared.reply.Reply.{Reply}
use Rattle.grasp_types.specs.declared.reply.Reply.TheVariants as reply
use Rattle.grasp_types.specs.declared.traffic.Input.{Input}
use Rattle.grasp_types.specs.declared.traffic.Input.TheVariants as input
use Rattle.grasp_laws_network.specs.Keeping.{TakesNothing, IsLonger, QueuesGrow}
use Rattle.grasp_model_network.specs.Sending.{gained}

-- the queue has what it had, and perhaps more behind it
abbrev QueueGrows : NodeState → NodeState → Type 0
QueueGrows n after = IsLonger n.queue after.queue

pub as_queued : (n after : NodeState) → after.queue ≡ n.queue → QueueGrows n after
as_queued n after e = ([], e ∙ sym (append-nil n.queue))

pub sends_on : (n : NodeState) (link loops : ℕ) (m : Message) (after : NodeState) → SendsOn n link loops m after → QueueGrows n after
sends_on n link loops m after q = (along m (other_ways link n.plan.links), q.queued)

pub responds : (n : NodeState) (link from session : ℕ) (initiator : Address) (after : NodeState) → Responds n link from session initiator after → QueueGrows n after
responds n link from session initiator after q = (_, q.queued)

pub discovery_grows : (n : NodeState) (link from session : ℕ) (initiator : Address) (o : Objective) (after : NodeState)
    → DiscoveryQueues n link from session initiator o after → QueueGrows n after
discovery_grows n link from session initiator o after (inl e) = as_queued n after e
discovery_grows n link from session initiator o after (inr (inl q, a, b)) = responds n link from session initiator after q
discovery_grows n link from session initiator o after (inr (inr q, a, b)) = sends_on n link o.loops _ after q

pub flood_grows : (n : NodeState) (link session : ℕ) (initiator : Address) (ttl : ℕ) (parts : List FloodPart) (after : NodeState)
    → FloodQueues n link session initiator ttl parts after → QueueGrows n after
flood_grows n link session initiator ttl parts after (inl e) = as_queued n after e
flood_grows n link session initiator ttl parts after (inr (q, a, b)) = sends_on n link _ _ after q

pub datagram_grows : (n : NodeState) (link from : ℕ) (m : Option Message) (after : NodeState) → DatagramQueues n link from m after → QueueGrows n after
datagram_grows n link from (Some (Discovery session initiator o)) after q = discovery_grows n link from session initiator o after q
datagram_grows n link from (Some (Flood session initiator ttl parts)) after q = flood_grows n link session initiator ttl parts after q
datagram_grows n link from _ after q = as_queued n after q

pub spreads_grow : (n : NodeState) (m : Option Message) (after : NodeState) → Spreads n m after → QueueGrows n after
spreads_grow n None after q = (q.more, q.queued)
spreads_grow n (Some m) after q = (along m (all_ways n.plan.links), q.0)

pub call_grows : (n : NodeState) (asa : ℕ) (it : Call) (r : Reply) (after : NodeState) → CallQueues n asa it r after → QueueGrows n after
call_grows n asa it (reply.Api answer) after q = spreads_grow n (own_message n asa it answer) after q
call_grows n asa it _ after q = as_queued n after q

pub drain_grows : (n : NodeState) (r : Reply) (after : NodeState) → DrainQueues n 0 r after → QueueGrows n after
drain_grows n (reply.Api answer) after q = as_queued n after q
drain_grows n _ after q = as_queued n after q

pub input_grows : (n : NodeState) (i : Input) (x : Coming) (r : Reply) (after : NodeState) → TakesNothing i → Queues n i x r after → QueueGrows n after
input_grows n (input.Api asa it) x r after t q = call_grows n asa it r after q
input_grows n (input.Datagram link from bytes) x r after t q = datagram_grows n link from x.carried after q
input_grows n (input.Opened stream from) x r after t q = as_queued n after q
input_grows n (input.Bytes stream bytes) x r after t q = (q.more, q.queued)
input_grows n (input.Closed stream) x r after t q = as_queued n after q
input_grows n (input.Drain max) x r after t q = drain_grows n r after (subst (λ k. DrainQueues n k r after) t q)

-- what a longer list has gained
pub what_came : (before after : NodeState) (old : List Queued) → old ≡ before.queue → IsLonger old after.queue → after.queue ≡ before.queue ++ gained before after
what_came before after old same longer = by_more longer.0 (longer.1 ∙ ap (λ q. q ++ longer.0) same) where
  by_more : (more : List Queued) → after.queue ≡ before.queue ++ more → after.queue ≡ before.queue ++ gained before after
  by_more more e = e ∙ ap (λ q. before.queue ++ q) (sym (ap (λ q. drop (length before.queue) q) e ∙ drop-append_seam before.queue more))

pub queues_grow : QueuesGrow
queues_grow v c nothing step =
    what_came v.seat.core c.after (begin v.seat.core v.now).queue (beginnings_end v.seat.core v.now).0.queue
    (input_grows (begin v.seat.core v.now) v.input c.coming c.reply c.after nothing (relays_once v.seat.core c.after v.now v.input c.coming c.reply step.steps))
