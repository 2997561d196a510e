-- What is so of each node of a network: what it keeps and queues of floods was made. Each step leaves it so.
use Rattle.std.proofs.Common.{◌≡◌, sym, ◌∙◌, subst, ℕ, max, List, All, Some}
use Rattle.std.proofs.lemmas.List.Elements.{All-filter}
use Rattle.grasp_laws_node.proofs.DatagramsAlone.{datagrams_leave}
use Rattle.grasp_laws_node.proofs.Remembered.{Begun, begun, relays_once}
use Rattle.grasp_laws_node.proofs.StreamsAlone.{peers_leave}
use Rattle.grasp_model_node.specs.Begin.{begin}
use Rattle.grasp_model_node.specs.Node.{NodeState}
use Rattle.grasp_model_node.specs.Step.{Coming, Calls, NodeStep}
use Rattle.grasp_flood.specs.Floods as flood
use Rattle.grasp_flood.specs.declared.keys.FloodKey.{FloodKey}
use Rattle.grasp_flood.specs.declared.kept.FloodKept.{FloodKept}
use Rattle.grasp_laws_node.proofs.PlansStay.{step_plan}
use Rattle.grasp_model_network.specs.Setting.{Member, numbered}
use Rattle.grasp_model_network.specs.World.{FloodCall}
use Rattle.grasp_types.specs.declared.call.Call.{Call}
use Rattle.grasp_types.specs.declared.reply.Reply.{Reply}
use Rattle.grasp_types.specs.declared.reply.Reply.TheVariants as reply
use Rattle.grasp_types.specs.declared.traffic.Input.{Input}
use Rattle.grasp_types.specs.declared.traffic.Input.TheVariants as input
use Rattle.grasp_laws_floods.proofs.CallTables.{Tables, tables_stay, call_tables}
use Rattle.grasp_laws_floods.proofs.Heard.{datagram_entries}
use Rattle.grasp_laws_floods.proofs.Leaving.{stream_leaves, drain_leaves, taking}
use Rattle.grasp_laws_floods.proofs.Made.{EntryMade, QueuedMade}
use Rattle.grasp_laws_floods.proofs.Queued.{QueueMade, InputMade, made_queue}
use Rattle.grasp_laws_floods.proofs.Registries.{AllHaveFlags}
use Rattle.grasp_laws_floods.proofs.Ranges.{IsInRange}

-- the node has the plan of the member of this number, the floods that it keeps and queues were made, and what is registered has flags
pub record NodeMade (ms : List Member) (calls : List FloodCall) (node : ℕ) (n : NodeState) : Type 0 where
  pub tables : Tables (EntryMade ms calls) n
  pub queue : QueueMade ms calls n
  pub member : Member
  pub found : numbered ms node ≡ Some member
  pub plan : n.plan ≡ member.plan

-- ---- the beginning of a step

begun_made : (ms : List Member) (calls : List FloodCall) (node : ℕ) (n after : NodeState) (now : ℕ) → Begun n after now → NodeMade ms calls node n → NodeMade ms calls node after
begun_made ms calls node n after now b k = record {
  tables = record {
    entries = subst (λ (f : flood.Floods). All (EntryMade ms calls) f.entries) (sym b.floods)
        (All-filter (λ entry. flood.is_after (max n.reading now) entry.1.end) (EntryMade ms calls) n.floods.entries k.tables.entries);
    flags = subst AllHaveFlags (sym b.registrations) k.tables.flags;
  };
  queue = subst (All (QueuedMade ms calls)) (sym b.queue) k.queue;
  member = k.member;
  found = k.found;
  plan = b.plan ∙ k.plan;
}

pub begin_made : (ms : List Member) (calls : List FloodCall) (node : ℕ) (n : NodeState) (now : ℕ) → NodeMade ms calls node n → NodeMade ms calls node (begin n now)
begin_made ms calls node n now k = begun_made ms calls node n (begin n now) now (begun n now) k

-- ---- each input

calls_tables : (P : FloodKey × FloodKept → Type 0) (n after : NodeState) (asa : ℕ) (it : Call) (r : Reply) → IsInRange it → Calls n asa it r after → Tables P n → Tables P after
calls_tables P n after asa it (reply.Api answer) k c t = subst (Tables P) (sym c.1) (call_tables P n asa it answer k t)
calls_tables P n after asa it (reply.Refused refused) k c t = subst (Tables P) (sym c.1) t
calls_tables P n after asa it _ k c t = absurd c

acts_tables : (ms : List Member) (calls : List FloodCall) (n after : NodeState) (now : ℕ) (i : Input) (x : Coming) (r : Reply) → NodeStep n now i x r after → InputMade ms calls (begin n now) i x r
    → Tables (EntryMade ms calls) (begin n now) → Tables (EntryMade ms calls) after
acts_tables ms calls n after now (input.Api asa it) x r step k t = calls_tables (EntryMade ms calls) (begin n now) after asa it r k.0 step.acts t
acts_tables ms calls n after now (input.Datagram link from bytes) x r step k t = record {
  entries = taking (λ m. All (EntryMade ms calls) m.floods.entries) (begin n now) after link from x r step.acts (datagram_entries ms calls (begin n now) link from x.carried k t.entries) t.entries;
  flags = subst AllHaveFlags (sym (datagrams_leave n after now link from bytes x r step).registrations) t.flags;
}
acts_tables ms calls n after now (input.Opened stream from) x r step k t =
    tables_stay (EntryMade ms calls) (begin n now) after (stream_leaves stream x (begin n now) after ((peers_leave n after now stream x r).0 from step)) t
acts_tables ms calls n after now (input.Bytes stream bytes) x r step k t =
    tables_stay (EntryMade ms calls) (begin n now) after (stream_leaves stream x (begin n now) after ((peers_leave n after now stream x r).1 bytes step)) t
acts_tables ms calls n after now (input.Closed stream) x r step k t =
    tables_stay (EntryMade ms calls) (begin n now) after (stream_leaves stream x (begin n now) after ((peers_leave n after now stream x r).2 step)) t
acts_tables ms calls n after now (input.Drain most) x r step k t = tables_stay (EntryMade ms calls) (begin n now) after (drain_leaves (begin n now) after most r step.acts) t

-- ---- a step

pub step_made : (ms : List Member) (calls : List FloodCall) (node : ℕ) (n after : NodeState) (now : ℕ) (i : Input) (x : Coming) (r : Reply) → NodeStep n now i x r after
    → InputMade ms calls (begin n now) i x r → NodeMade ms calls node n → NodeMade ms calls node after
step_made ms calls node n after now i x r step k made = from (begin_made ms calls node n now made) where
  from : NodeMade ms calls node (begin n now) → NodeMade ms calls node after
  from b = record {
    tables = acts_tables ms calls n after now i x r step k b.tables;
    queue = made_queue ms calls (begin n now) i x r after (relays_once n after now i x r step) k b.queue;
    member = made.member;
    found = made.found;
    plan = step_plan n after now i x r step ∙ made.plan;
  }
