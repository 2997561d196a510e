-- What a step queues: where what came in is so, and what the call itself begins, so is each datagram in the queue.
use Rattle.std.proofs.Common.{◌≡◌, sym, subst, ℕ, ◌-◌, List, [], ◌∷◌, ◌++◌, All, Option, Some, None, inl, inr}
use Rattle.std.proofs.lemmas.List.Elements.{All-append, All-drop, All-cons, All-nil, All-weaker}
use Rattle.grasp_model_node.specs.Datagrams.{lowered, loops_of}
use Rattle.grasp_model_node.specs.Node.{NodeState}
use Rattle.grasp_model_node.specs.Queue.{Queued, datagram, dial, send, along, all_ways, other_ways}
use Rattle.grasp_laws_node.specs.Relays.{Responds, SendsOn, DiscoveryQueues, FloodQueues, DatagramQueues, IsNoDatagram, AddsNoDatagram, own_message, Spreads, CallQueues, DrainQueues, Queues}
use Rattle.grasp_model_node.specs.Step.{Coming}
use Rattle.grasp_model_node.specs.Streams.{next_stream}
use Rattle.grasp_model_node.specs.declared.way.Way.{Way}
use Rattle.grasp_types.specs.Flood.{first_loops}
use Rattle.grasp_types.specs.declared.address.Address.{Address}
use Rattle.grasp_types.specs.declared.call.Call.{Call}
use Rattle.grasp_types.specs.declared.flood.FloodPart.{FloodPart}
use Rattle.grasp_types.specs.declared.message.Message.{Message}
use Rattle.grasp_types.specs.declared.message.Message.TheVariants.{Discovery, Response, Flood}
use Rattle.grasp_types.specs.declared.objective.Objective.{Objective}
use Rattle.grasp_types.specs.declared.reply.Reply.{Reply}
use Rattle.grasp_types.specs.declared.reply.Reply.TheVariants as reply
use Rattle.grasp_types.specs.declared.traffic.Input.{Input}
use Rattle.grasp_types.specs.declared.traffic.Input.TheVariants as input

-- the message, where there is one, is so
abbrev pub OptionIs : (Message → Type 0) → Option Message → Type 0
OptionIs P None = Unit {0}
OptionIs P (Some m) = P m

-- the message is so, where it is for a neighbour
abbrev pub QueuedIs : (Message → Type 0) → Queued → Type 0
QueuedIs P (datagram link to m) = P m
QueuedIs P (dial stream to) = Unit {0}
QueuedIs P (send stream m) = Unit {0}

abbrev pub QueueIs : (Message → Type 0) → NodeState → Type 0
QueueIs P n = All (QueuedIs P) n.queue

abbrev pub OwnIs : (Message → Type 0) → NodeState → ℕ → Call → Reply → Type 0
OwnIs P n asa it (reply.Api answer) = OptionIs P (own_message n asa it answer)
OwnIs P n asa it _ = Unit {0}

-- what a call begins is so, and what a datagram carries
abbrev pub InputIs : (Message → Type 0) → NodeState → Input → Coming → Reply → Type 0
InputIs P n (input.Api asa it) x r = OwnIs P n asa it r
InputIs P n (input.Datagram link from bytes) x r = OptionIs P x.carried
InputIs P n _ x r = Unit {0}

-- what is sent on, with a loop count less by one, is so still
pub record GoesOn (P : Message → Type 0) : Type 0 where
  pub discoveries : (session : ℕ) (initiator : Address) (o : Objective) → P (Discovery session initiator o) → P (Discovery session initiator (lowered o))
  pub floods : (session : ℕ) (initiator : Address) (ttl : ℕ) (parts : List FloodPart) → P (Flood session initiator ttl parts)
      → P (Flood session initiator ttl (first_loops parts (loops_of parts - 1)))

pub queued_weaker : (P Q : Message → Type 0) → ((m : Message) → P m → Q m) → (q : Queued) → QueuedIs P q → QueuedIs Q q
queued_weaker P Q so (datagram link to m) k = so m k
queued_weaker P Q so (dial stream to) k = tt
queued_weaker P Q so (send stream m) k = tt

module _ (P : Message → Type 0) where
  along_ways : (m : Message) (ways : List Way) → P m → All (QueuedIs P) (along m ways)
  along_ways m [] k = All-nil (QueuedIs P)
  along_ways m (way ∷ ways) k = All-cons (QueuedIs P) (datagram way.link way.to m) (along m ways) k (along_ways m ways k)

  no_datagram : (q : Queued) → IsNoDatagram q → QueuedIs P q
  no_datagram (datagram link to m) n = absurd n
  no_datagram (dial stream to) n = tt
  no_datagram (send stream m) n = tt

  as_before : (n after : NodeState) → after.queue ≡ n.queue → QueueIs P n → QueueIs P after
  as_before n after e q = subst (All (QueuedIs P)) (sym e) q

  with_more : (n after : NodeState) (more : List Queued) → after.queue ≡ n.queue ++ more → All (QueuedIs P) more → QueueIs P n → QueueIs P after
  with_more n after more e m q = subst (All (QueuedIs P)) (sym e) (All-append (QueuedIs P) n.queue more q m)

  -- ---- a datagram

  sends_on : (n : NodeState) (link loops : ℕ) (m : Message) (after : NodeState) → SendsOn n link loops m after → P m → QueueIs P n → QueueIs P after
  sends_on n link loops m after on k q = with_more n after (along m (other_ways link n.plan.links)) on.queued (along_ways m (other_ways link n.plan.links) k) q

  responds : (n : NodeState) (link from session : ℕ) (initiator : Address) (after : NodeState) → Responds n link from session initiator after → QueueIs P n → QueueIs P after
  responds n link from session initiator after r q = with_more n after outputs r.queued two q where
    m : Message
    m = Response session initiator r.ttl r.told None

    outputs : List Queued
    outputs = dial (next_stream n.streams) r.neighbour.locator ∷ send (next_stream n.streams) m ∷ []

    two : All (QueuedIs P) outputs
    two =
        All-cons (QueuedIs P) (dial (next_stream n.streams) r.neighbour.locator) (send (next_stream n.streams) m ∷ []) tt
        (All-cons (QueuedIs P) (send (next_stream n.streams) m) [] tt (All-nil (QueuedIs P)))

  discovery_queue : GoesOn P → (n : NodeState) (link from session : ℕ) (initiator : Address) (o : Objective) (after : NodeState) → DiscoveryQueues n link from session initiator o after
      → P (Discovery session initiator o) → QueueIs P n → QueueIs P after
  discovery_queue g n link from session initiator o after (inl e) k q = as_before n after e q
  discovery_queue g n link from session initiator o after (inr (inl r, a, b)) k q = responds n link from session initiator after r q
  discovery_queue g n link from session initiator o after (inr (inr on, a, b)) k q =
      sends_on n link o.loops (Discovery session initiator (lowered o)) after on (g.discoveries session initiator o k) q

  flood_queue : GoesOn P → (n : NodeState) (link session : ℕ) (initiator : Address) (ttl : ℕ) (parts : List FloodPart) (after : NodeState) → FloodQueues n link session initiator ttl parts after
      → P (Flood session initiator ttl parts) → QueueIs P n → QueueIs P after
  flood_queue g n link session initiator ttl parts after (inl e) k q = as_before n after e q
  flood_queue g n link session initiator ttl parts after (inr (on, a, b)) k q =
      sends_on n link (loops_of parts) (Flood session initiator ttl (first_loops parts (loops_of parts - 1))) after on (g.floods session initiator ttl parts k) q

  datagram_queue : GoesOn P → (n : NodeState) (link from : ℕ) (m : Option Message) (after : NodeState) → DatagramQueues n link from m after → OptionIs P m → QueueIs P n → QueueIs P after
  datagram_queue g n link from (Some (Discovery session initiator o)) after d k q = discovery_queue g n link from session initiator o after d k q
  datagram_queue g n link from (Some (Flood session initiator ttl parts)) after d k q = flood_queue g n link session initiator ttl parts after d k q
  datagram_queue g n link from _ after d k q = as_before n after d q

  -- ---- other inputs

  adds_none : (n after : NodeState) → AddsNoDatagram n after → QueueIs P n → QueueIs P after
  adds_none n after a q = with_more n after a.more a.queued (All-weaker IsNoDatagram (QueuedIs P) no_datagram a.more a.none) q

  spread_queue : (n : NodeState) (m : Option Message) (after : NodeState) → Spreads n m after → OptionIs P m → QueueIs P n → QueueIs P after
  spread_queue n None after a k q = adds_none n after a q
  spread_queue n (Some m) after a k q = with_more n after (along m (all_ways n.plan.links)) a.0 (along_ways m (all_ways n.plan.links) k) q

  call_queue : (n : NodeState) (asa : ℕ) (it : Call) (r : Reply) (after : NodeState) → CallQueues n asa it r after → OwnIs P n asa it r → QueueIs P n → QueueIs P after
  call_queue n asa it (reply.Api answer) after c k q = spread_queue n (own_message n asa it answer) after c k q
  call_queue n asa it _ after c k q = as_before n after c q

  drain_queue : (n : NodeState) (max : ℕ) (r : Reply) (after : NodeState) → DrainQueues n max r after → QueueIs P n → QueueIs P after
  drain_queue n max (reply.Outputs outputs) after d q = subst (All (QueuedIs P)) (sym d) (All-drop (QueuedIs P) max n.queue q)
  drain_queue n max _ after d q = as_before n after d q

  -- ---- every input

  pub input_queue : GoesOn P → (n : NodeState) (i : Input) (x : Coming) (r : Reply) (after : NodeState) → Queues n i x r after → InputIs P n i x r → QueueIs P n → QueueIs P after
  input_queue g n (input.Api asa it) x r after u k q = call_queue n asa it r after u k q
  input_queue g n (input.Datagram link from bytes) x r after u k q = datagram_queue g n link from x.carried after u k q
  input_queue g n (input.Opened stream from) x r after u k q = as_before n after u q
  input_queue g n (input.Bytes stream bytes) x r after u k q = adds_none n after u q
  input_queue g n (input.Closed stream) x r after u k q = as_before n after u q
  input_queue g n (input.Drain max) x r after u k q = drain_queue n max r after u q
