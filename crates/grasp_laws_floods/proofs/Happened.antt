-- Each event leaves it so: what is kept, queued, sent and read of floods was made.
use Rattle.std.proofs.Common.{◌≡◌, refl, sym, ◌∙◌, subst, ℕ, ◌≤◌, List, [], ◌++◌, length, All, Option, Some, None, append-nil}
use Rattle.std.proofs.lemmas.List.Elements.{All-append, All-nil, All-weaker}
use Rattle.grasp_agent.specs.Calls.{next_call}
use Rattle.grasp_agent.specs.Replies.{after_reply}
use Rattle.grasp_agent.specs.States.{AgentState}
use Rattle.grasp_model_node.specs.Begin.{begin}
use Rattle.grasp_model_node.specs.Step.{Acts}
use Rattle.grasp_laws_network.proofs.EachNode.{stepped_each, one_each}
use Rattle.grasp_laws_network.proofs.Here.{visits_are_here}
use Rattle.grasp_laws_network.proofs.Telling.{none_one}
use Rattle.grasp_laws_network.specs.Telling.{OneAgent}
use Rattle.grasp_model_network.specs.EventSteps.{after_agent_call, agent_input, after_agent, after_arrival, after_clock, after_cut, after_delivery, after_piece}
use Rattle.grasp_model_network.specs.StreamChanges.{arrived, told, Reached, reached_side, side_named, delivered}
use Rattle.grasp_model_network.specs.Events.{visit_of, after_visit, after_by, after_event, drains, drained_behind, Occurs}
use Rattle.grasp_laws_network.specs.Keeping.{IsHere}
use Rattle.grasp_laws_network.specs.Nodes.{OfEachNode}
use Rattle.grasp_model_network.specs.Notes.{noted, floods_in, floods_read_in}
use Rattle.grasp_model_network.specs.Sending.{stepped}
use Rattle.grasp_model_network.specs.Setting.{Member, Setting}
use Rattle.grasp_model_network.specs.Streams.{StreamState, stream_numbered}
use Rattle.grasp_model_network.specs.Visits.{Visit, Choice, MayCome, VisitStep}
use Rattle.grasp_model_network.specs.World.{FloodCall, WorldState}
use Rattle.grasp_model_network.specs.declared.event.Event.{Event}
use Rattle.grasp_model_network.specs.declared.event.Event.TheVariants as event
use Rattle.grasp_types.specs.declared.call.Call.{Call}
use Rattle.grasp_types.specs.declared.flood.FloodRead.{FloodRead}
use Rattle.grasp_types.specs.declared.reply.Reply.{Reply}
use Rattle.grasp_types.specs.declared.traffic.Input.TheVariants as input
use Rattle.grasp_laws_floods.proofs.AgentCalls.{agent_calls}
use Rattle.grasp_laws_floods.proofs.Inputs.{quiet_made, datagram_made, call_made, agent_made}
use Rattle.grasp_laws_floods.proofs.Lives.{IsMore, more_calls}
use Rattle.grasp_laws_floods.proofs.Made.{ReadMade}
use Rattle.grasp_laws_floods.proofs.Nodes.{NodeMade, begin_made, step_made}
use Rattle.grasp_laws_floods.proofs.Queued.{InputMade}
use Rattle.grasp_laws_floods.proofs.Answering.{read_made}
use Rattle.grasp_laws_floods.proofs.Visited.{IsQuiet, IsSent, GivenBy, given_by}
use Rattle.grasp_laws_floods.proofs.Worlds.{SentMade, WorldMade, Drained, world_more, node_more, read_more, drained_made, behind_made}
use Rattle.grasp_laws_floods.proofs.Ranges.{IsInRange, IsEventInRange, AreGood, HasAddresses, event_range, good_addresses}

-- a network whose calls of floods made all floods in it
abbrev pub IsMade : List Member → WorldState → Type 0
IsMade ms w = WorldMade ms w.flood_calls w

-- two networks with the same nodes, datagrams, calls of floods and floods that were read
pub record SameNotes (w x : WorldState) : Type 0 where
  pub seats : x.seats ≡ w.seats
  pub datagrams : x.datagrams ≡ w.datagrams
  pub flood_calls : x.flood_calls ≡ w.flood_calls
  pub floods_read : x.floods_read ≡ w.floods_read

same_notes : (w : WorldState) → SameNotes w w
same_notes w = record { seats = refl; datagrams = refl; flood_calls = refl; floods_read = refl }

arrived_notes : (w : WorldState) (v : Visit) (number : ℕ) (r : Reply) (o : Option StreamState) → SameNotes w (arrived w v number r o)
arrived_notes w v number r None = same_notes w
arrived_notes w v number r (Some t) = record { seats = refl; datagrams = refl; flood_calls = refl; floods_read = refl }

delivered_notes : (w : WorldState) (count : ℕ) (o : Option Reached) → SameNotes w (delivered w count o)
delivered_notes w count None = same_notes w
delivered_notes w count (Some x) = record { seats = refl; datagrams = refl; flood_calls = refl; floods_read = refl }

told_notes : (w : WorldState) (o : Option Reached) → SameNotes w (told w o)
told_notes w None = same_notes w
told_notes w (Some x) = record { seats = refl; datagrams = refl; flood_calls = refl; floods_read = refl }

-- ---- what an event reads

-- the floods that an event reads were made by calls before the event
pub record Reads (ms : List Member) (w x : WorldState) : Type 0 where
  pub more : List FloodRead
  pub read : x.floods_read ≡ w.floods_read ++ more
  pub made : All (ReadMade ms w.flood_calls) more

-- after an event all floods in the network were made by its calls, and the event has read only floods that were made before it
pub record Goes (ms : List Member) (w x : WorldState) : Type 0 where
  pub made : IsMade ms x
  pub reads : Reads ms w x

reads_none : (ms : List Member) (w x : WorldState) → x.floods_read ≡ w.floods_read → Reads ms w x
reads_none ms w x e = record { more = []; read = e ∙ sym (append-nil w.floods_read); made = All-nil (ReadMade ms w.flood_calls) }

-- ---- a step that notes nothing

-- the node is as its step has left it, and nothing is sent or noted
still : (ms : List Member) (w x y : WorldState) (v : Visit) (c : Choice) (agent : AgentState) → 1 ≤ v.node → SameNotes w x → SameNotes (stepped x v c.after agent) y
    → NodeMade ms w.flood_calls v.node c.after → IsMade ms w → Goes ms w y
unfolding stepped
still ms w x y v c agent least a b node k = record {
  made = subst (λ calls. WorldMade ms calls y) (sym (b.flood_calls ∙ a.flood_calls)) (record {
    nodes = stepped_each (NodeMade ms w.flood_calls) w x y v c.after agent least a.seats b.seats node k.nodes;
    sent = subst (All (SentMade ms w.flood_calls)) (sym (b.datagrams ∙ a.datagrams)) k.sent;
    read = subst (All (ReadMade ms w.flood_calls)) (sym (b.floods_read ∙ a.floods_read)) k.read;
  });
  reads = reads_none ms w y (b.floods_read ∙ a.floods_read);
}

-- ---- a step that an agent's call makes

-- what is noted of it, and what it reads, is added
pub record Noted (w y : WorldState) (v : Visit) (asa : ℕ) (it : Call) (c : Choice) (agent : AgentState) : Type 0 where
  pub seats : y.seats ≡ (stepped w v c.after agent).seats
  pub datagrams : y.datagrams ≡ w.datagrams
  pub flood_calls : y.flood_calls ≡ w.flood_calls ++ floods_in v asa it c.reply
  pub floods_read : y.floods_read ≡ w.floods_read ++ floods_read_in c.reply

called : (ms : List Member) (w y : WorldState) (v : Visit) (asa : ℕ) (it : Call) (c : Choice) (agent : AgentState) → 1 ≤ v.node → Noted w y v asa it c agent
    → All (ReadMade ms w.flood_calls) (floods_read_in c.reply) → NodeMade ms (w.flood_calls ++ floods_in v asa it c.reply) v.node c.after → IsMade ms w → Goes ms w y
called ms w y v asa it c agent least e read node k = so (world_more ms ms w.flood_calls calls more w k) where
  calls : List FloodCall
  calls = w.flood_calls ++ floods_in v asa it c.reply

  more : IsMore ms ms w.flood_calls calls
  more = more_calls ms w.flood_calls (floods_in v asa it c.reply)

  so : WorldMade ms calls w → Goes ms w y
  so m = record {
    made = subst (λ calls. WorldMade ms calls y) (sym e.flood_calls) (record {
      nodes = stepped_each (NodeMade ms calls) w w y v c.after agent least refl e.seats node m.nodes;
      sent = subst (All (SentMade ms calls)) (sym e.datagrams) m.sent;
      read = subst (All (ReadMade ms calls)) (sym e.floods_read)
          (All-append (ReadMade ms calls) w.floods_read (floods_read_in c.reply) m.read
          (All-weaker (ReadMade ms w.flood_calls) (ReadMade ms calls) (read_more ms ms w.flood_calls calls more) (floods_read_in c.reply) read));
    });
    reads = record { more = floods_read_in c.reply; read = e.floods_read; made = read };
  }

-- ---- the step of each event

-- the node before its step, and what its call reads
at_node : (ms : List Member) (w : WorldState) (v : Visit) → IsHere w v → IsMade ms w → NodeMade ms w.flood_calls v.node v.seat.core
at_node ms w v here k = k.nodes v.node v.seat here.stands

steps_on : (ms : List Member) (calls : List FloodCall) (v : Visit) (c : Choice) → VisitStep v c → InputMade ms calls (begin v.seat.core v.now) v.input c.coming c.reply
    → NodeMade ms calls v.node v.seat.core → NodeMade ms calls v.node c.after
steps_on ms calls v c step given k = step_made ms calls v.node v.seat.core c.after v.now v.input c.coming c.reply step.steps given k

quiet_on : (ms : List Member) (calls : List FloodCall) (v : Visit) (c : Choice) → VisitStep v c → IsQuiet v.input → NodeMade ms calls v.node v.seat.core → NodeMade ms calls v.node c.after
quiet_on ms calls v c step q k = steps_on ms calls v c step (quiet_made ms calls (begin v.seat.core v.now) v.input c.coming c.reply q) k

datagram_on : (ms : List Member) (w : WorldState) (v : Visit) (c : Choice) (index : ℕ) → AreGood ms → VisitStep v c → IsSent w index v.input → IsMade ms w
    → NodeMade ms w.flood_calls v.node v.seat.core → NodeMade ms w.flood_calls v.node c.after
datagram_on ms w v c index good step is k n =
    steps_on ms w.flood_calls v c step
    (datagram_made ms w.flood_calls w v.node index (begin v.seat.core v.now) v.input c.coming c.reply good (begin_made ms w.flood_calls v.node v.seat.core v.now n) k.sent is step.steps.is_coming) n

reads_on : (ms : List Member) (w : WorldState) (v : Visit) (c : Choice) (asa : ℕ) (it : Call) → VisitStep v c → v.input ≡ input.Api asa it → NodeMade ms w.flood_calls v.node v.seat.core
    → All (ReadMade ms w.flood_calls) (floods_read_in c.reply)
reads_on ms w v c asa it step is n =
    read_made ms w.flood_calls (begin v.seat.core v.now) c.after asa it c.reply
    (subst (λ i. Acts (begin v.seat.core v.now) i c.coming c.reply c.after) is step.steps.acts) (begin_made ms w.flood_calls v.node v.seat.core v.now n).tables.entries

call_on : (ms : List Member) (w : WorldState) (v : Visit) (c : Choice) (asa : ℕ) (it : Call) → HasAddresses ms → IsInRange it → VisitStep v c → v.input ≡ input.Api asa it
    → NodeMade ms w.flood_calls v.node v.seat.core → NodeMade ms (w.flood_calls ++ floods_in v asa it c.reply) v.node c.after
call_on ms w v c asa it addresses range step is n =
    steps_on ms (w.flood_calls ++ floods_in v asa it c.reply) v c step
    (subst (λ i. InputMade ms (w.flood_calls ++ floods_in v asa it c.reply) (begin v.seat.core v.now) i c.coming c.reply) (sym is)
    (call_made ms w.flood_calls w.flood_calls v asa it c.coming c.reply addresses range (begin_made ms w.flood_calls v.node v.seat.core v.now n)))
    (node_more ms ms w.flood_calls (w.flood_calls ++ floods_in v asa it c.reply) (more_calls ms w.flood_calls (floods_in v asa it c.reply)) v.node v.seat.core n)

agent_on : (ms : List Member) (w : WorldState) (v : Visit) (c : Choice) → VisitStep v c → v.input ≡ agent_input v.seat.agent → NodeMade ms w.flood_calls v.node v.seat.core
    → NodeMade ms (w.flood_calls ++ floods_in v v.seat.agent.asa (next_call v.seat.agent) c.reply) v.node c.after
agent_on ms w v c step is n =
    steps_on ms (w.flood_calls ++ floods_in v v.seat.agent.asa (next_call v.seat.agent) c.reply) v c step
    (subst (λ i. InputMade ms (w.flood_calls ++ floods_in v v.seat.agent.asa (next_call v.seat.agent) c.reply) (begin v.seat.core v.now) i c.coming c.reply) (sym is)
    (agent_made ms (w.flood_calls ++ floods_in v v.seat.agent.asa (next_call v.seat.agent) c.reply) (begin v.seat.core v.now) v.seat.agent.asa (next_call v.seat.agent) c.coming c.reply
    (agent_calls v.seat.agent)))
    (node_more ms ms w.flood_calls (w.flood_calls ++ floods_in v v.seat.agent.asa (next_call v.seat.agent) c.reply)
    (more_calls ms w.flood_calls (floods_in v v.seat.agent.asa (next_call v.seat.agent) c.reply)) v.node v.seat.core n)

drain_goes : (ms : List Member) (w x : WorldState) → Drained ms w.flood_calls w x → Goes ms w x
drain_goes ms w x d = record { made = subst (λ calls. WorldMade ms calls x) (sym d.calls_same) d.made; reads = reads_none ms w x d.read_same }

visit_goes : (s : Setting) (ms : List Member) (w : WorldState) (e : Event) (v : Visit) (c : Choice) → AreGood ms → HasAddresses ms → IsEventInRange e → 1 ≤ v.node → VisitStep v c → GivenBy w e v
    → NodeMade ms w.flood_calls v.node v.seat.core → IsMade ms w → Goes ms w (after_visit s w e v c)
unfolding after_clock after_agent after_agent_call after_delivery after_arrival after_piece after_cut noted stepped
visit_goes s ms w (event.Clock node millis) v c good addresses range least step given n k =
    still ms w w (after_clock w v c) v c v.seat.agent least (same_notes w) (same_notes (stepped w v c.after v.seat.agent)) (quiet_on ms w.flood_calls v c step given n) k
visit_goes s ms w (event.Want node wanted longest peer) v c good addresses range least step given n k = record { made = k; reads = reads_none ms w w refl }
visit_goes s ms w (event.Return node prefix peer) v c good addresses range least step given n k = record { made = k; reads = reads_none ms w w refl }
visit_goes s ms w (event.Agent node hold) v c good addresses range least step given n k =
    called ms w (after_agent w v c) v v.seat.agent.asa (next_call v.seat.agent) c (after_reply v.seat.agent c.reply) least
    (record { seats = refl; datagrams = refl; flood_calls = refl; floods_read = refl })
    (reads_on ms w v c v.seat.agent.asa (next_call v.seat.agent) step given n) (agent_on ms w v c step given n) k
visit_goes s ms w (event.Api node asa it hold) v c good addresses range least step given n k =
    called ms w (after_agent_call w v asa it c) v asa it c v.seat.agent least
    (record { seats = refl; datagrams = refl; flood_calls = refl; floods_read = refl })
    (reads_on ms w v c asa it step given n) (call_on ms w v c asa it addresses range step given n) k
visit_goes s ms w (event.Datagram index hold) v c good addresses range least step given n k =
    still ms w w (after_delivery w v index c) v c v.seat.agent least (same_notes w) (record { seats = refl; datagrams = refl; flood_calls = refl; floods_read = refl })
    (datagram_on ms w v c index good step given k n) k
visit_goes s ms w (event.Arrive stream hold) v c good addresses range least step given n k =
    still ms w (arrived w v (s.arrives_as v.node stream) c.reply (stream_numbered w.streams stream)) (after_arrival s w v stream c) v c v.seat.agent least
    (arrived_notes w v (s.arrives_as v.node stream) c.reply (stream_numbered w.streams stream)) (same_notes (after_arrival s w v stream c)) (quiet_on ms w.flood_calls v c step given n) k
visit_goes s ms w (event.Bytes stream far count hold) v c good addresses range least step given n k =
    still ms w (delivered w count (reached_side w stream (side_named far))) (after_piece w v stream (side_named far) count c) v c v.seat.agent least
    (delivered_notes w count (reached_side w stream (side_named far))) (same_notes (after_piece w v stream (side_named far) count c)) (quiet_on ms w.flood_calls v c step given n) k
visit_goes s ms w (event.Cut stream far hold) v c good addresses range least step given n k =
    still ms w (told w (reached_side w stream (side_named far))) (after_cut w v stream (side_named far) c) v c v.seat.agent least
    (told_notes w (reached_side w stream (side_named far))) (same_notes (after_cut w v stream (side_named far) c)) (quiet_on ms w.flood_calls v c step given n) k
visit_goes s ms w (event.Drain node max) v c good addresses range least step given n k = drain_goes ms w (after_visit s w (event.Drain node max) v c) (drained_made s ms w.flood_calls w v.node max least k)

-- ---- the drain behind it

goes_then : (ms : List Member) (w x y : WorldState) → Goes ms w x → Drained ms x.flood_calls x y → Goes ms w y
goes_then ms w x y a d = record {
  made = subst (λ calls. WorldMade ms calls y) (sym d.calls_same) d.made;
  reads = record { more = a.reads.more; read = d.read_same ∙ a.reads.read; made = a.reads.made };
}

-- ---- another agent

pub one_goes : (ms : List Member) (w x : WorldState) → OneAgent w x → IsMade ms w → Goes ms w x
one_goes ms w x o k =
    subst (λ (y : WorldState). OfEachNode (NodeMade ms w.flood_calls) y → Goes ms w y) (sym o.after)
    (λ each. record { made = record { nodes = each; sent = k.sent; read = k.read }; reads = reads_none ms w _ refl }) (one_each (NodeMade ms w.flood_calls) w x o k.nodes)

-- ---- an event

by_goes : (s : Setting) (ms : List Member) (w : WorldState) (e : Event) (c : Choice) (o : Option Visit) → AreGood ms → HasAddresses ms → IsEventInRange e → visit_of s w e ≡ o → MayCome o c
    → IsMade ms w → Goes ms w (after_by s w e c o)
by_goes s ms w e c None good addresses range is comes k = none_one s w e (λ x. Goes ms w x) (record { made = k; reads = reads_none ms w w refl }) (λ x o. one_goes ms w x o k)
by_goes s ms w e c (Some v) good addresses range is comes k = here (visits_are_here s w e v is) where
  here : IsHere w v → Goes ms w (after_by s w e c (Some v))
  here h = behind (visit_goes s ms w e v c good addresses range h.member.least comes (given_by s w e v is) (at_node ms w v h k) k) where
    behind : Goes ms w (after_visit s w e v c) → Goes ms w (after_by s w e c (Some v))
    behind g =
        goes_then ms w (after_visit s w e v c) (drained_behind (drains e) s (after_visit s w e v c) v.node) g
        (behind_made (drains e) s ms (after_visit s w e v c).flood_calls (after_visit s w e v c) v.node h.member.least g.made)

pub event_goes : (s : Setting) (ms : List Member) (w : WorldState) (e : Event) (c : Choice) → AreGood ms → Occurs s w e c → IsMade ms w → Goes ms w (after_event s w e c)
unfolding after_event
event_goes s ms w e c good occurs k =
    by_goes s ms w e c (visit_of s w e) good (good_addresses ms good) (event_range (length s.members) (length s.peers) e occurs.fit) refl occurs.comes k
