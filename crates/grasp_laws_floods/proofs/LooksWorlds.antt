-- What is so of a network: each discovery that its nodes keep and queue, and that was sent, was begun by a search. What is sent leaves it so.
use Rattle.std.proofs.Common.{◌≡◌, ℕ, ◌≤◌, Bool, List, ◌++◌, All}
use Rattle.std.proofs.lemmas.List.Elements.{All-weaker}
use Rattle.grasp_model_node.specs.Begin.{begin}
use Rattle.grasp_model_node.specs.Draining.{drained, after_drain}
use Rattle.grasp_model_node.specs.Node.{NodeState}
use Rattle.grasp_laws_network.proofs.EachNode.{drain_steps}
use Rattle.grasp_model_network.specs.Events.{drained_behind}
use Rattle.grasp_laws_network.specs.Nodes.{OfEachNode}
use Rattle.grasp_model_network.specs.Sending as network
use Rattle.grasp_model_network.specs.Setting.{Setting}
use Rattle.grasp_model_network.specs.Visits.{no_choice}
use Rattle.grasp_model_network.specs.World.{SentDatagram, WorldState}
use Rattle.grasp_types.specs.declared.reply.Reply.TheVariants as reply
use Rattle.grasp_types.specs.declared.traffic.Input.TheVariants as input
use Rattle.grasp_laws_floods.proofs.Looks.{MessageLooks, message_looks_more}
use Rattle.grasp_laws_floods.proofs.LooksNodes.{NodeLooks, node_looks_more, begin_looks, step_looks}
use Rattle.grasp_laws_floods.proofs.Sending.{SentIs, DrainedIs, Draining, drained_is, behind_is}
use Rattle.grasp_laws_floods.specs.Sought.{Sought}

abbrev pub SentLooks : List Sought → SentDatagram → Type 0
SentLooks xs d = SentIs (MessageLooks xs) d

pub record WorldLooks (xs : List Sought) (w : WorldState) : Type 0 where
  pub nodes : OfEachNode (NodeLooks xs) w
  pub sent : All (SentLooks xs) w.datagrams

pub world_looks_more : (xs more : List Sought) (w : WorldState) → WorldLooks xs w → WorldLooks (xs ++ more) w
world_looks_more xs more w k = record {
  nodes = λ node seat found. node_looks_more xs more node seat.core (k.nodes node seat found);
  sent = All-weaker (SentLooks xs) (SentLooks (xs ++ more)) (λ d. message_looks_more xs more d.message) w.datagrams k.sent;
}

-- ---- drains

-- after a drain all searches and discoveries in the network are still of the given searches, and no search is added
pub record DrainedLooks (xs : List Sought) (w x : WorldState) : Type 0 where
  pub looks : WorldLooks xs x
  pub searches : x.searches ≡ w.searches

drain_node : (xs : List Sought) (node max : ℕ) (n : NodeState) → NodeLooks xs node n → NodeLooks xs node (after_drain (begin n n.reading) max)
drain_node xs node max n k =
    step_looks xs node n (after_drain (begin n n.reading) max) n.reading (input.Drain max) no_choice.coming (reply.Outputs (drained (begin n n.reading) max))
    (drain_steps n n.reading max no_choice.coming) tt tt k

looks_drain : (xs : List Sought) → Draining (MessageLooks xs) (NodeLooks xs)
looks_drain xs = record { begins = λ node n k. begin_looks xs node n n.reading k; drains = drain_node xs; queue = λ node n k. k.queue }

so_drained : (xs : List Sought) (w x : WorldState) → DrainedIs (MessageLooks xs) (NodeLooks xs) w x → DrainedLooks xs w x
so_drained xs w x d = record { looks = record { nodes = d.nodes; sent = d.sent }; searches = d.searches }

pub drained_looks : (s : Setting) (xs : List Sought) (w : WorldState) (node max : ℕ) → 1 ≤ node → WorldLooks xs w → DrainedLooks xs w (network.drained s w node max)
drained_looks s xs w node max least k =
    so_drained xs w (network.drained s w node max) (drained_is (MessageLooks xs) (NodeLooks xs) (looks_drain xs) s w node max least k.nodes k.sent)

pub behind_looks : (b : Bool) (s : Setting) (xs : List Sought) (w : WorldState) (node : ℕ) → 1 ≤ node → WorldLooks xs w → DrainedLooks xs w (drained_behind b s w node)
behind_looks b s xs w node least k =
    so_drained xs w (drained_behind b s w node) (behind_is (MessageLooks xs) (NodeLooks xs) (looks_drain xs) s b w node least k.nodes k.sent)
