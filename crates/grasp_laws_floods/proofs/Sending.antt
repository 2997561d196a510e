-- What is sent: where each message in a node's queue is so, so is each that was sent, and nothing else is noted.
use Rattle.std.proofs.Common.{◌≡◌, refl, ◌∙◌, ℕ, ◌≤◌, Bool, true, false, List, [], ◌∷◌, fold, take, All, Option, Some, None}
use Rattle.std.proofs.lemmas.List.Elements.{All-head, All-tail, All-push, All-take}
use Rattle.grasp_model_node.specs.Begin.{begin}
use Rattle.grasp_model_node.specs.Draining.{closes, after_drain}
use Rattle.grasp_model_node.specs.Node.{NodeState}
use Rattle.grasp_model_node.specs.Queue.{Queued, datagram, dial, send}
use Rattle.grasp_laws_network.proofs.EachNode.{put_each}
use Rattle.grasp_laws_network.proofs.Sent.{sending_keeps_nodes}
use Rattle.grasp_model_network.specs.Events.{drained_behind}
use Rattle.grasp_laws_network.specs.Nodes.{OfEachNode}
use Rattle.grasp_model_network.specs.Routes.{Route, route_of}
use Rattle.grasp_model_network.specs.Sending as network
use Rattle.grasp_model_network.specs.Sending.{seat_with, posted, having_sent, having_closed, handed_over, drained_from, drained_at, event_drain}
use Rattle.grasp_model_network.specs.Setting.{Setting}
use Rattle.grasp_model_network.specs.World.{Seat, SentDatagram, WorldState, member_of, seat_at, with_seat}
use Rattle.grasp_types.specs.declared.message.Message.{Message}
use Rattle.grasp_laws_floods.proofs.Queueing.{QueuedIs, QueueIs}

abbrev pub SentIs : (Message → Type 0) → SentDatagram → Type 0
SentIs P d = P d.message

-- only messages that are so are sent, and nothing is noted
record Sends (P : Message → Type 0) (w x : WorldState) : Type 0 where
  sent : All (SentIs P) w.datagrams → All (SentIs P) x.datagrams
  flood_calls : x.flood_calls ≡ w.flood_calls
  floods_read : x.floods_read ≡ w.floods_read
  searches : x.searches ≡ w.searches

-- the nodes and the messages that were sent are so after a drain, and nothing is noted
pub record DrainedIs (P : Message → Type 0) (N : ℕ → NodeState → Type 0) (w x : WorldState) : Type 0 where
  pub nodes : OfEachNode N x
  pub sent : All (SentIs P) x.datagrams
  pub flood_calls : x.flood_calls ≡ w.flood_calls
  pub floods_read : x.floods_read ≡ w.floods_read
  pub searches : x.searches ≡ w.searches

-- a node that is so is so when a step has begun and after a drain, and what it queues is so
pub record Draining (P : Message → Type 0) (N : ℕ → NodeState → Type 0) : Type 0 where
  pub begins : (node : ℕ) (n : NodeState) → N node n → N node (begin n n.reading)
  pub drains : (node max : ℕ) (n : NodeState) → N node n → N node (after_drain (begin n n.reading) max)
  pub queue : (node : ℕ) (n : NodeState) → N node n → QueueIs P n

module _ (P : Message → Type 0) where
  none_sent : (w : WorldState) → Sends P w w
  none_sent w = record { sent = λ all. all; flood_calls = refl; floods_read = refl; searches = refl }

  then_sent : (w x y : WorldState) → Sends P w x → Sends P x y → Sends P w y
  then_sent w x y a b = record {
    sent = λ all. b.sent (a.sent all);
    flood_calls = b.flood_calls ∙ a.flood_calls;
    floods_read = b.floods_read ∙ a.floods_read;
    searches = b.searches ∙ a.searches;
  }

  posting : (w : WorldState) (m : Message) (route : Option Route) → P m → Sends P w (posted w m route)
  posting w m None k = none_sent w
  posting w m (Some route) k = record {
    sent = λ all. All-push (SentIs P) w.datagrams (record { route = route; message = m }) all k;
    flood_calls = refl;
    floods_read = refl;
    searches = refl;
  }

  one_sent : (s : Setting) (node : ℕ) (w : WorldState) (q : Queued) → QueuedIs P q → Sends P w (having_sent s node w q)
  one_sent s node w (datagram link to m) k = posting w m (route_of s (member_of w node) link to) k
  one_sent s node w (dial stream to) k = record { sent = λ all. all; flood_calls = refl; floods_read = refl; searches = refl }
  one_sent s node w (send stream m) k = record { sent = λ all. all; flood_calls = refl; floods_read = refl; searches = refl }

  all_sent : (s : Setting) (node : ℕ) (qs : List Queued) (w : WorldState) → All (QueuedIs P) qs → Sends P w (fold (having_sent s node) w qs)
  all_sent s node [] w k = none_sent w
  all_sent s node (q ∷ qs) w k =
      then_sent w (having_sent s node w q) (fold (having_sent s node) (having_sent s node w q) qs) (one_sent s node w q (All-head (QueuedIs P) q qs k))
      (all_sent s node qs (having_sent s node w q) (All-tail (QueuedIs P) q qs k))

  closings_sent : (node : ℕ) (streams : List ℕ) (w : WorldState) → Sends P w (fold (having_closed node) w streams)
  closings_sent node [] w = none_sent w
  closings_sent node (stream ∷ streams) w =
      then_sent w (having_closed node w stream) (fold (having_closed node) (having_closed node w stream) streams)
      (record { sent = λ all. all; flood_calls = refl; floods_read = refl; searches = refl }) (closings_sent node streams (having_closed node w stream))

  handed : (s : Setting) (w : WorldState) (node : ℕ) (qs : List Queued) (streams : List ℕ) → All (QueuedIs P) qs → Sends P w (handed_over s w node qs streams)
  unfolding handed_over
  handed s w node qs streams k =
      then_sent w (fold (having_sent s node) w qs) (fold (having_closed node) (fold (having_sent s node) w qs) streams) (all_sent s node qs w k)
      (closings_sent node streams (fold (having_sent s node) w qs))

-- ---- drains

module _ (P : Message → Type 0) (N : ℕ → NodeState → Type 0) (d : Draining P N) (s : Setting) where
  nothing_drained : (w : WorldState) → OfEachNode N w → All (SentIs P) w.datagrams → DrainedIs P N w w
  nothing_drained w each sent = record { nodes = each; sent = sent; flood_calls = refl; floods_read = refl; searches = refl }

  from_drained : (w : WorldState) (node max : ℕ) (seat : Seat) (m : NodeState) → 1 ≤ node → OfEachNode N w → All (SentIs P) w.datagrams → All (QueuedIs P) m.queue → N node (after_drain m max)
      → DrainedIs P N w (drained_from s w node seat m max)
  from_drained w node max seat m least each sent queue after = so (handed P s put node (take max m.queue) (closes m max) (All-take (QueuedIs P) max m.queue queue)) where
    put : WorldState
    put = with_seat w node (seat_with (after_drain m max) seat.agent)

    so : Sends P put (drained_from s w node seat m max) → DrainedIs P N w (drained_from s w node seat m max)
    so sends = record {
      nodes = put_each N w (drained_from s w node seat m max) node (seat_with (after_drain m max) seat.agent) least
          (sending_keeps_nodes s put node (take max m.queue) (closes m max)) after each;
      sent = sends.sent sent;
      flood_calls = sends.flood_calls;
      floods_read = sends.floods_read;
      searches = sends.searches;
    }

  at_drained : (w : WorldState) (node max : ℕ) (o : Option Seat) → seat_at w node ≡ o → 1 ≤ node → OfEachNode N w → All (SentIs P) w.datagrams → DrainedIs P N w (drained_at s w node max o)
  at_drained w node max None here least each sent = nothing_drained w each sent
  at_drained w node max (Some seat) here least each sent =
      from_drained w node max seat (begin seat.core seat.core.reading) least each sent (d.queue node (begin seat.core seat.core.reading) (d.begins node seat.core (each node seat here)))
      (d.drains node max seat.core (each node seat here))

  pub drained_is : (w : WorldState) (node max : ℕ) → 1 ≤ node → OfEachNode N w → All (SentIs P) w.datagrams → DrainedIs P N w (network.drained s w node max)
  unfolding network.drained
  drained_is w node max least each sent = at_drained w node max (seat_at w node) refl least each sent

  pub behind_is : (b : Bool) (w : WorldState) (node : ℕ) → 1 ≤ node → OfEachNode N w → All (SentIs P) w.datagrams → DrainedIs P N w (drained_behind b s w node)
  behind_is true w node least each sent = drained_is w node event_drain least each sent
  behind_is false w node least each sent = nothing_drained w each sent
