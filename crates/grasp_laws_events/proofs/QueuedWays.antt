-- Each datagram that a node has queued is for a neighbour that its plan has.
use Rattle.std.proofs.Common.{◌≡◌, sym, ap, ◌∙◌, subst, ℕ, ◌-◌, ◌==◌, not, List, [], ◌∷◌, ◌++◌, All, Option, Some, None, inl, inr}
use Rattle.std.specs.List.{Contains}
use Rattle.std.proofs.lemmas.List.Elements.{All-append, All-contains_itself, All-cons, All-drop, All-filter, All-head, All-nil, All-tail, All-weaker}
use Rattle.grasp_laws_network.proofs.EachNode.{reached_each}
use Rattle.grasp_laws_network.specs.Nodes.{OfEachNode}
use Rattle.grasp_laws_node.proofs.Apart.{ways_all}
use Rattle.grasp_laws_node.proofs.Beginning.{beginnings_end}
use Rattle.grasp_laws_node.proofs.PlansStay.{step_plan}
use Rattle.grasp_laws_node.proofs.Remembered.{relays_once}
use Rattle.grasp_laws_node.specs.Relays.{IsWay, Responds, SendsOn, DiscoveryQueues, FloodQueues, DatagramQueues, IsNoDatagram, AddsNoDatagram, own_message, Spreads, CallQueues, DrainQueues, Queues}
use Rattle.grasp_model_network.specs.Runs.{IsReached}
use Rattle.grasp_model_network.specs.Setting.{Setting}
use Rattle.grasp_model_network.specs.World.{WorldState}
use Rattle.grasp_model_node.specs.Begin.{begin}
use Rattle.grasp_model_node.specs.Datagrams.{lowered, loops_of}
use Rattle.grasp_model_node.specs.Node.{NodeState}
use Rattle.grasp_model_node.specs.Queue.{Queued, datagram, dial, send, along, all_ways, other_ways}
use Rattle.grasp_model_node.specs.Step.{Coming, NodeStep}
use Rattle.grasp_model_node.specs.Streams.{next_stream}
use Rattle.grasp_model_node.specs.declared.way.Way.{Way}
use Rattle.grasp_types.specs.Flood.{first_loops}
use Rattle.grasp_types.specs.declared.address.Address.{Address}
use Rattle.grasp_types.specs.declared.call.Call.{Call}
use Rattle.grasp_types.specs.declared.flood.FloodPart.{FloodPart}
use Rattle.grasp_types.specs.declared.links.Neighbour.{Neighbour}
use Rattle.grasp_types.specs.declared.message.Message.{Message}
use Rattle.grasp_types.specs.declared.message.Message.TheVariants.{Discovery, Response, Flood}
use Rattle.grasp_types.specs.declared.objective.Objective.{Objective}
use Rattle.grasp_types.specs.declared.reply.Reply.{Reply}
use Rattle.grasp_types.specs.declared.reply.Reply.TheVariants as reply
use Rattle.grasp_types.specs.declared.traffic.Input.{Input}
use Rattle.grasp_types.specs.declared.traffic.Input.TheVariants as input

-- an output for a neighbour is for one on these links
abbrev pub HasWay : List (List Neighbour) → Queued → Type 0
HasWay links (datagram link to m) = IsWay links (record { link = link; to = to })
HasWay links (dial stream to) = Unit {0}
HasWay links (send stream m) = Unit {0}

abbrev pub HaveWays : NodeState → Type 0
HaveWays n = All (HasWay n.plan.links) n.queue

-- ---- ways

all_are_ways : (links : List (List Neighbour)) → All (IsWay links) (all_ways links)
all_are_ways links =
    All-weaker (λ (w : Way). Contains (all_ways links) w) (IsWay links) (λ w h. (ways_all links w).0 h) (all_ways links) (All-contains_itself (all_ways links))

others_are_ways : (link : ℕ) (links : List (List Neighbour)) → All (IsWay links) (other_ways link links)
others_are_ways link links = All-filter (λ (w : Way). not (w.link == link)) (IsWay links) (all_ways links) (all_are_ways links)

along_ways : (links : List (List Neighbour)) (m : Message) (ways : List Way) → All (IsWay links) ways → All (HasWay links) (along m ways)
along_ways links m [] k = All-nil (HasWay links)
along_ways links m (way ∷ ways) k =
    All-cons (HasWay links) (datagram way.link way.to m) (along m ways) (All-head (IsWay links) way ways k) (along_ways links m ways (All-tail (IsWay links) way ways k))

no_datagram : (links : List (List Neighbour)) (q : Queued) → IsNoDatagram q → HasWay links q
no_datagram links (datagram link to m) n = absurd n
no_datagram links (dial stream to) n = tt
no_datagram links (send stream m) n = tt

-- ---- queues, by the links of the node whose step has begun

-- the outputs that are queued are for neighbours on these links
abbrev Have : List (List Neighbour) → NodeState → Type 0
Have links n = All (HasWay links) n.queue

as_before : (links : List (List Neighbour)) (n after : NodeState) → after.queue ≡ n.queue → Have links n → Have links after
as_before links n after e q = subst (All (HasWay links)) (sym e) q

with_more : (links : List (List Neighbour)) (n after : NodeState) (more : List Queued) → after.queue ≡ n.queue ++ more → All (HasWay links) more → Have links n → Have links after
with_more links n after more e m q = subst (All (HasWay links)) (sym e) (All-append (HasWay links) n.queue more q m)

sends_on : (n : NodeState) (link loops : ℕ) (m : Message) (after : NodeState) → SendsOn n link loops m after → Have n.plan.links n → Have n.plan.links after
sends_on n link loops m after on q =
    with_more n.plan.links n after (along m (other_ways link n.plan.links)) on.queued
    (along_ways n.plan.links m (other_ways link n.plan.links) (others_are_ways link n.plan.links)) q

responds : (n : NodeState) (link from session : ℕ) (initiator : Address) (after : NodeState) → Responds n link from session initiator after → Have n.plan.links n
    → Have n.plan.links after
responds n link from session initiator after r q = with_more n.plan.links n after outputs r.queued two q where
  m : Message
  m = Response session initiator r.ttl r.told None

  outputs : List Queued
  outputs = dial (next_stream n.streams) r.neighbour.locator ∷ send (next_stream n.streams) m ∷ []

  two : All (HasWay n.plan.links) outputs
  two =
      All-cons (HasWay n.plan.links) (dial (next_stream n.streams) r.neighbour.locator) (send (next_stream n.streams) m ∷ []) tt
      (All-cons (HasWay n.plan.links) (send (next_stream n.streams) m) [] tt (All-nil (HasWay n.plan.links)))

discovery_queue : (n : NodeState) (link from session : ℕ) (initiator : Address) (o : Objective) (after : NodeState) → DiscoveryQueues n link from session initiator o after
    → Have n.plan.links n → Have n.plan.links after
discovery_queue n link from session initiator o after (inl e) q = as_before n.plan.links n after e q
discovery_queue n link from session initiator o after (inr (inl r, a, b)) q = responds n link from session initiator after r q
discovery_queue n link from session initiator o after (inr (inr on, a, b)) q = sends_on n link o.loops (Discovery session initiator (lowered o)) after on q

flood_queue : (n : NodeState) (link session : ℕ) (initiator : Address) (ttl : ℕ) (parts : List FloodPart) (after : NodeState) → FloodQueues n link session initiator ttl parts after
    → Have n.plan.links n → Have n.plan.links after
flood_queue n link session initiator ttl parts after (inl e) q = as_before n.plan.links n after e q
flood_queue n link session initiator ttl parts after (inr (on, a, b)) q =
    sends_on n link (loops_of parts) (Flood session initiator ttl (first_loops parts (loops_of parts - 1))) after on q

datagram_queue : (n : NodeState) (link from : ℕ) (m : Option Message) (after : NodeState) → DatagramQueues n link from m after → Have n.plan.links n → Have n.plan.links after
datagram_queue n link from (Some (Discovery session initiator o)) after d q = discovery_queue n link from session initiator o after d q
datagram_queue n link from (Some (Flood session initiator ttl parts)) after d q = flood_queue n link session initiator ttl parts after d q
datagram_queue n link from _ after d q = as_before n.plan.links n after d q

adds_none : (n after : NodeState) → AddsNoDatagram n after → Have n.plan.links n → Have n.plan.links after
adds_none n after a q = with_more n.plan.links n after a.more a.queued (All-weaker IsNoDatagram (HasWay n.plan.links) (no_datagram n.plan.links) a.more a.none) q

spread_queue : (n : NodeState) (m : Option Message) (after : NodeState) → Spreads n m after → Have n.plan.links n → Have n.plan.links after
spread_queue n None after a q = adds_none n after a q
spread_queue n (Some m) after a q =
    with_more n.plan.links n after (along m (all_ways n.plan.links)) a.0 (along_ways n.plan.links m (all_ways n.plan.links) (all_are_ways n.plan.links)) q

call_queue : (n : NodeState) (asa : ℕ) (it : Call) (r : Reply) (after : NodeState) → CallQueues n asa it r after → Have n.plan.links n → Have n.plan.links after
call_queue n asa it (reply.Api answer) after c q = spread_queue n (own_message n asa it answer) after c q
call_queue n asa it _ after c q = as_before n.plan.links n after c q

drain_queue : (n : NodeState) (max : ℕ) (r : Reply) (after : NodeState) → DrainQueues n max r after → Have n.plan.links n → Have n.plan.links after
drain_queue n max (reply.Outputs outputs) after d q = subst (All (HasWay n.plan.links)) (sym d) (All-drop (HasWay n.plan.links) max n.queue q)
drain_queue n max _ after d q = as_before n.plan.links n after d q

input_queue : (n : NodeState) (i : Input) (x : Coming) (r : Reply) (after : NodeState) → Queues n i x r after → Have n.plan.links n → Have n.plan.links after
input_queue n (input.Api asa it) x r after u q = call_queue n asa it r after u q
input_queue n (input.Datagram link from bytes) x r after u q = datagram_queue n link from x.carried after u q
input_queue n (input.Opened stream from) x r after u q = as_before n.plan.links n after u q
input_queue n (input.Bytes stream bytes) x r after u q = adds_none n after u q
input_queue n (input.Closed stream) x r after u q = as_before n.plan.links n after u q
input_queue n (input.Drain max) x r after u q = drain_queue n max r after u q

-- ---- every step

step_ways : (n after : NodeState) (now : ℕ) (i : Input) (x : Coming) (r : Reply) → HaveWays n → NodeStep n now i x r after → HaveWays after
step_ways n after now i x r q step =
    subst (λ (links : List (List Neighbour)). Have links after) (ap (λ p. p.links) (begun ∙ sym (step_plan n after now i x r step)))
    (input_queue (begin n now) i x r after (relays_once n after now i x r step) at_begin)
  where
    begun : (begin n now).plan ≡ n.plan
    begun = (beginnings_end n now).0.plan

    at_begin : Have (begin n now).plan.links (begin n now)
    at_begin =
        subst (λ (links : List (List Neighbour)). Have links (begin n now)) (ap (λ p. p.links) (sym begun))
        (subst (All (HasWay n.plan.links)) (sym (beginnings_end n now).0.queue) q)

-- so it is in every network that turns lead to
pub queued_ways : (s : Setting) (w : WorldState) → IsReached s w → OfEachNode (λ life n. HaveWays n) w
queued_ways s w r = reached_each (λ life n. HaveWays n) s w (λ life. step_ways) (λ life node m e. All-nil (HasWay m.plan.links)) r
