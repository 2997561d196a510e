-- What is so of a node and its streams stays so where more streams arrive.
use Rattle.std.proofs.Common.{◌≡◌, ◌+◌, inl, inr, ◌∙◌, ℕ, List, [], ◌∷◌, ◌++◌, Option, Some, None}
use Rattle.std.proofs.lemmas.List.Elements.{All-weaker}
use Rattle.grasp_model_node.specs.Node.{NodeState}
use Rattle.grasp_model_node.specs.Queue.{Queued, datagram, dial, send}
use Rattle.grasp_model_node.specs.Streams.{StreamRecord}
use Rattle.grasp_types.specs.declared.address.Locator.{Locator}
use Rattle.grasp_laws_node.specs.Sends.{IsKnown, Follows, RecordsKnown}
use Rattle.grasp_model_network.specs.Streams.{StreamEnd}
use Rattle.grasp_model_network.specs.World.{Seat, end_of}
use Rattle.grasp_laws_delivery.specs.Heads.{Head, HasFar, nears_at}
use Rattle.grasp_laws_delivery.specs.Kept.{IsArrived, IsQueuedDial, WaitsBehind, HeadWaits, QueueKept, NodeKept}
use Rattle.grasp_laws_delivery.specs.Ready.{Every}
use Rattle.grasp_laws_delivery.proofs.Counts.{every_weaker}

-- ---- more is known

module _ (P Q : ℕ → Type 0) (more : (n : ℕ) → P n → Q n) where
  pub known_wider : (dialled n : ℕ) → IsKnown P dialled n → IsKnown Q dialled n
  known_wider dialled n (inl p) = inl (more n p)
  known_wider dialled n (inr k) = inr k

  pub follows_wider : (qs : List Queued) (d e : ℕ) → Follows P d qs e → Follows Q d qs e
  follows_wider [] d e h = h
  follows_wider (datagram link to m ∷ qs) d e h = follows_wider qs d e h
  follows_wider (dial stream to ∷ qs) d e h = (h.0, follows_wider qs (d + 1) e h.1)
  follows_wider (send stream m ∷ qs) d e h = (known_wider d stream h.0, follows_wider qs d e h.1)

  pub records_wider : (n : NodeState) → RecordsKnown P n → RecordsKnown Q n
  records_wider n a =
      All-weaker (λ (x : StreamRecord). IsKnown P n.streams.dialled x.number) (λ (x : StreamRecord). IsKnown Q n.streams.dialled x.number) (λ x. known_wider n.streams.dialled x.number) n.streams.records a

-- ---- the queue

pub queued_more : (stream : ℕ) (to : Locator) (qs more : List Queued) → IsQueuedDial stream to qs → IsQueuedDial stream to (qs ++ more)
queued_more stream to [] more h = absurd h
queued_more stream to (datagram link on m ∷ qs) more h = queued_more stream to qs more h
queued_more stream to (dial next peer ∷ qs) more (inl is) = inl is
queued_more stream to (dial next peer ∷ qs) more (inr h) = inr (queued_more stream to qs more h)
queued_more stream to (send on m ∷ qs) more h = queued_more stream to qs more h

pub queued_behind : (stream : ℕ) (to : Locator) (qs more : List Queued) → IsQueuedDial stream to more → IsQueuedDial stream to (qs ++ more)
queued_behind stream to [] more h = h
queued_behind stream to (datagram link on m ∷ qs) more h = queued_behind stream to qs more h
queued_behind stream to (dial next peer ∷ qs) more h = inr (queued_behind stream to qs more h)
queued_behind stream to (send on m ∷ qs) more h = queued_behind stream to qs more h

waits_more : (sent : ℕ) (qs more : List Queued) (stream : ℕ) (to : Locator) (number : Option ℕ) → WaitsBehind sent qs stream to number → WaitsBehind sent (qs ++ more) stream to number
waits_more sent qs more stream to None w = (w.0, queued_more stream to qs more w.1)
waits_more sent qs more stream to (Some k) w = w

pub heads_wait_more : (node sent : ℕ) (qs more : List Queued) (hs : List Head) → Every (HeadWaits node sent qs) hs → Every (HeadWaits node sent (qs ++ more)) hs
heads_wait_more node sent qs more hs h =
    every_weaker (HeadWaits node sent qs) (HeadWaits node sent (qs ++ more)) (λ x w at. waits_more sent qs more x.near.number x.to x.number (w at)) hs h

-- ---- a node among other streams

-- whatever is opened stays opened
abbrev pub FarsStay : List Head → List Head → Type 0
FarsStay hs ks = (e : StreamEnd) → HasFar e hs → HasFar e ks

abbrev pub WaitsStay : ℕ → List Head → List Head → Type 0
WaitsStay node hs ks = (sent : ℕ) (queue : List Queued) → Every (HeadWaits node sent queue) hs → Every (HeadWaits node sent queue) ks

module _ (hs ks : List Head) (fars : FarsStay hs ks) where
  pub arrived_stays : (node number : ℕ) → IsArrived hs node number → IsArrived ks node number
  arrived_stays node number a = fars (end_of node number) a

  pub queue_moved : (node : ℕ) (queue : List Queued) (dialled : ℕ) → WaitsStay node hs ks → QueueKept hs node queue dialled → QueueKept ks node queue dialled
  queue_moved node queue dialled waits k = record {
    sent = k.sent;
    follows = follows_wider (λ number. IsArrived hs node number) (λ number. IsArrived ks node number) (arrived_stays node) queue k.sent dialled k.follows;
    waits = waits k.sent queue k.waits;
  }

  pub node_moved : (node : ℕ) (seat : Seat) → nears_at node ks ≡ nears_at node hs → WaitsStay node hs ks → NodeKept hs node seat → NodeKept ks node seat
  node_moved node seat nears waits k = record {
    queue = queue_moved node seat.core.queue seat.core.streams.dialled waits k.queue;
    records = records_wider (λ number. IsArrived hs node number) (λ number. IsArrived ks node number) (arrived_stays node) seat.core k.records;
    nears = nears ∙ k.nears;
  }
