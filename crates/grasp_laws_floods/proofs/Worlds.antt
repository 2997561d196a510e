-- What is so of a network: each flood that its nodes keep and queue, that was sent and that was read was made. What is sent leaves it so.
use Rattle.std.proofs.Common.{◌≡◌, sym, subst, ℕ, ◌≤◌, Bool, List, All}
use Rattle.std.proofs.lemmas.List.Elements.{All-weaker}
use Rattle.grasp_model_node.specs.Begin.{begin}
use Rattle.grasp_model_node.specs.Draining.{drained, after_drain}
use Rattle.grasp_model_node.specs.Node.{NodeState}
use Rattle.grasp_laws_network.proofs.EachNode.{drain_steps}
use Rattle.grasp_laws_network.specs.Nodes.{OfEachNode}
use Rattle.grasp_model_network.specs.Sending as network
use Rattle.grasp_model_network.specs.Events.{drained_behind}
use Rattle.grasp_model_network.specs.Setting.{Member, Setting}
use Rattle.grasp_model_network.specs.Visits.{no_choice}
use Rattle.grasp_model_network.specs.World.{SentDatagram, FloodCall, WorldState}
use Rattle.grasp_types.specs.declared.flood.FloodRead.{FloodRead}
use Rattle.grasp_types.specs.declared.reply.Reply.TheVariants as reply
use Rattle.grasp_types.specs.declared.traffic.Input.TheVariants as input
use Rattle.grasp_laws_floods.proofs.Lives.{IsMore}
use Rattle.grasp_laws_floods.proofs.Made.{ReadMade, MessageMade, QueuedMade, EntryMade, made_more, message_more, queued_more}
use Rattle.grasp_laws_floods.proofs.Nodes.{NodeMade, begin_made, step_made}
use Rattle.grasp_laws_floods.proofs.Sending.{SentIs, DrainedIs, Draining, drained_is, behind_is}

abbrev pub SentMade : List Member → List FloodCall → SentDatagram → Type 0
SentMade ms calls d = SentIs (MessageMade ms calls) d

pub record WorldMade (ms : List Member) (calls : List FloodCall) (w : WorldState) : Type 0 where
  pub nodes : OfEachNode (NodeMade ms calls) w
  pub sent : All (SentMade ms calls) w.datagrams
  pub read : All (ReadMade ms calls) w.floods_read

-- ---- more lives and more calls

module _ (ms ns : List Member) (calls called : List FloodCall) (more : IsMore ms ns calls called) where
  pub node_more : (node : ℕ) (n : NodeState) → NodeMade ms calls node n → NodeMade ns called node n
  node_more node n k = record {
    tables = record {
      entries = All-weaker (EntryMade ms calls) (EntryMade ns called) (λ entry. made_more ms ns calls called more _ _ _) n.floods.entries k.tables.entries;
      flags = k.tables.flags;
    };
    queue = All-weaker (QueuedMade ms calls) (QueuedMade ns called) (queued_more ms ns calls called more) n.queue k.queue;
    member = k.member;
    found = more.lives node k.member k.found;
    plan = k.plan;
  }

  pub sent_more : (d : SentDatagram) → SentMade ms calls d → SentMade ns called d
  sent_more d = message_more ms ns calls called more d.message

  pub read_more : (r : FloodRead) → ReadMade ms calls r → ReadMade ns called r
  read_more r = made_more ms ns calls called more r.initiator r.objective r.locator

  pub world_more : (w : WorldState) → WorldMade ms calls w → WorldMade ns called w
  world_more w k = record {
    nodes = λ node seat found. node_more node seat.core (k.nodes node seat found);
    sent = All-weaker (SentMade ms calls) (SentMade ns called) sent_more w.datagrams k.sent;
    read = All-weaker (ReadMade ms calls) (ReadMade ns called) read_more w.floods_read k.read;
  }

-- ---- drains

-- after a drain all floods in the network were made by these calls, and no call and no flood read is added
pub record Drained (ms : List Member) (calls : List FloodCall) (w x : WorldState) : Type 0 where
  pub made : WorldMade ms calls x
  pub calls_same : x.flood_calls ≡ w.flood_calls
  pub read_same : x.floods_read ≡ w.floods_read

drain_node : (ms : List Member) (calls : List FloodCall) (node max : ℕ) (n : NodeState) → NodeMade ms calls node n → NodeMade ms calls node (after_drain (begin n n.reading) max)
drain_node ms calls node max n k =
    step_made ms calls node n (after_drain (begin n n.reading) max) n.reading (input.Drain max) no_choice.coming (reply.Outputs (drained (begin n n.reading) max))
    (drain_steps n n.reading max no_choice.coming) tt k

made_drains : (ms : List Member) (calls : List FloodCall) → Draining (MessageMade ms calls) (NodeMade ms calls)
made_drains ms calls = record { begins = λ node n k. begin_made ms calls node n n.reading k; drains = drain_node ms calls; queue = λ node n k. k.queue }

so_drained : (ms : List Member) (calls : List FloodCall) (w x : WorldState) → WorldMade ms calls w → DrainedIs (MessageMade ms calls) (NodeMade ms calls) w x → Drained ms calls w x
so_drained ms calls w x k d = record {
  made = record { nodes = d.nodes; sent = d.sent; read = subst (All (ReadMade ms calls)) (sym d.floods_read) k.read };
  calls_same = d.flood_calls;
  read_same = d.floods_read;
}

pub drained_made : (s : Setting) (ms : List Member) (calls : List FloodCall) (w : WorldState) (node max : ℕ) → 1 ≤ node → WorldMade ms calls w → Drained ms calls w (network.drained s w node max)
drained_made s ms calls w node max least k =
    so_drained ms calls w (network.drained s w node max) k (drained_is (MessageMade ms calls) (NodeMade ms calls) (made_drains ms calls) s w node max least k.nodes k.sent)

pub behind_made : (b : Bool) (s : Setting) (ms : List Member) (calls : List FloodCall) (w : WorldState) (node : ℕ) → 1 ≤ node → WorldMade ms calls w → Drained ms calls w (drained_behind b s w node)
behind_made b s ms calls w node least k =
    so_drained ms calls w (drained_behind b s w node) k (behind_is (MessageMade ms calls) (NodeMade ms calls) (made_drains ms calls) s b w node least k.nodes k.sent)
