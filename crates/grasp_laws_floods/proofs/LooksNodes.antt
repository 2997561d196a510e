-- What is so of each node: the discoveries that it keeps and queues were begun by searches. Each step leaves it so.
use Rattle.std.proofs.Common.{◌≡◌, refl, sym, ap, ◌∙◌, subst, ℕ, max, nat_lt, List, ◌++◌, All}
use Rattle.std.proofs.lemmas.List.Elements.{All-filter, All-map, All-weaker}
use Rattle.grasp_laws_node.proofs.DatagramsAlone.{datagrams_leave}
use Rattle.grasp_laws_node.proofs.Remembered.{Begun, begun, relays_once}
use Rattle.grasp_laws_node.proofs.StreamsAlone.{peers_leave}
use Rattle.grasp_model_node.specs.Begin.{begin}
use Rattle.grasp_model_node.specs.Draws.{next_session}
use Rattle.grasp_model_node.specs.FloodCalls.{looked_for, wanted_flags}
use Rattle.grasp_model_node.specs.Node.{NodeState}
use Rattle.grasp_laws_node.specs.Relays.{own_message}
use Rattle.grasp_model_node.specs.Step.{Coming, Calls, NodeStep}
use Rattle.grasp_discovery.specs.Discoveries as discovery
use Rattle.grasp_discovery.specs.Topic.{topic_of, kind_of}
use Rattle.grasp_discovery.specs.declared.search.Search.{Search}
use Rattle.grasp_types.specs.declared.call.Call.{Call}
use Rattle.grasp_types.specs.declared.call.Call.TheVariants as call
use Rattle.grasp_types.specs.declared.reply.ApiAnswer.{ApiAnswer}
use Rattle.grasp_types.specs.declared.reply.ApiAnswer.TheVariants as answer
use Rattle.grasp_types.specs.declared.reply.Reply.{Reply}
use Rattle.grasp_types.specs.declared.reply.Reply.TheVariants as reply
use Rattle.grasp_types.specs.declared.session.Kind.{Kind}
use Rattle.grasp_types.specs.declared.session.Kind.TheVariants.{Negotiation, Synchronization}
use Rattle.grasp_types.specs.declared.traffic.Input.{Input}
use Rattle.grasp_types.specs.declared.traffic.Input.TheVariants as input
use Rattle.grasp_laws_floods.proofs.Leaving.{stream_leaves, drain_leaves, taking}
use Rattle.grasp_laws_floods.proofs.Looks.{DiscoveryLooks, OptionLooks, QueuedLooks, MemoryLooks, SearchLooks, looks_more, queued_looks_more, search_looks_more}
use Rattle.grasp_laws_floods.proofs.LooksQueued.{QueueLooks, InputLooks, input_queue_looks}
use Rattle.grasp_laws_floods.proofs.LooksTables.{LooksKept, IsBegun, OwnBegun, looks_stay, call_kept, datagram_memories}
use Rattle.grasp_laws_floods.specs.Sought.{Sought}

pub record NodeLooks (xs : List Sought) (node : ℕ) (n : NodeState) : Type 0 where
  pub kept : LooksKept xs node n
  pub queue : QueueLooks xs n

pub node_looks_more : (xs more : List Sought) (node : ℕ) (n : NodeState) → NodeLooks xs node n → NodeLooks (xs ++ more) node n
node_looks_more xs more node n k = record {
  kept = record {
    searches = All-weaker (SearchLooks xs node) (SearchLooks (xs ++ more) node) (search_looks_more xs more node) n.discoveries.searches k.kept.searches;
    memories = All-weaker (MemoryLooks xs) (MemoryLooks (xs ++ more)) (λ memory. looks_more xs more memory.0.session memory.0.initiator memory.1.topic) n.discoveries.memories k.kept.memories;
  };
  queue = All-weaker (QueuedLooks xs) (QueuedLooks (xs ++ more)) (queued_looks_more xs more) n.queue k.queue;
}

-- ---- the beginning of a step

reading_looks : (xs : List Sought) (node now : ℕ) (search : Search) → SearchLooks xs node search → SearchLooks xs node (discovery.after_reading now search)
reading_looks xs node now search k = record {
  it = k.it;
  among = k.among;
  is = record { node_is = k.is.node_is; session_is = k.is.session_is; topic_is = k.is.topic_is };
}

begun_looks : (xs : List Sought) (node : ℕ) (n after : NodeState) (now : ℕ) → Begun n after now → NodeLooks xs node n → NodeLooks xs node after
begun_looks xs node n after now b k = record {
  kept = record {
    searches = subst (λ (d : discovery.Discoveries). All (SearchLooks xs node) d.searches) (sym b.discoveries)
        (All-map (SearchLooks xs node) (discovery.after_reading (max n.reading now)) n.discoveries.searches
        (All-weaker (SearchLooks xs node) (λ search. SearchLooks xs node (discovery.after_reading (max n.reading now) search)) (reading_looks xs node (max n.reading now)) n.discoveries.searches k.kept.searches));
    memories = subst (λ (d : discovery.Discoveries). All (MemoryLooks xs) d.memories) (sym b.discoveries)
        (All-filter (λ memory. nat_lt (max n.reading now) memory.1.end) (MemoryLooks xs) n.discoveries.memories k.kept.memories);
  };
  queue = subst (All (QueuedLooks xs)) (sym b.queue) k.queue;
}

pub begin_looks : (xs : List Sought) (node : ℕ) (n : NodeState) (now : ℕ) → NodeLooks xs node n → NodeLooks xs node (begin n now)
begin_looks xs node n now k = begun_looks xs node n (begin n now) now (begun n now) k

-- ---- what a call begins

abbrev pub InputBegun : List Sought → ℕ → NodeState → Input → Reply → Type 0
InputBegun xs node n (input.Api asa it) (reply.Api a) = OwnBegun xs node n it a
InputBegun xs node n _ _ = Unit {0}

kind_again : (kind : Kind) → kind_of (wanted_flags kind) ≡ kind
kind_again Negotiation = refl
kind_again Synchronization = refl

own_discovery : (xs : List Sought) (node : ℕ) (n : NodeState) (name : List ℕ) (kind : Kind) (loops : ℕ) → IsBegun xs node n (topic_of name kind)
    → DiscoveryLooks xs (next_session n) n.plan.address (looked_for name kind loops)
own_discovery xs node n name kind loops b = record {
  search = record { it = b.it; among = b.among; told = b.address_is; session_is = b.session_is; topic_is = ap (topic_of name) (kind_again kind) ∙ b.topic_is };
  flags = ap wanted_flags (sym (kind_again kind));
}

own_looks : (xs : List Sought) (node : ℕ) (n : NodeState) (asa : ℕ) (it : Call) (a : ApiAnswer) → OwnBegun xs node n it a → OptionLooks xs (own_message n asa it a)
own_looks xs node n asa (call.Discover name kind loops timeout) answer.Searching b = own_discovery xs node n name kind loops (b refl)
own_looks xs node n asa (call.Flood name value ttl loops) answer.Done b = tt
own_looks xs node n asa it a b = tt

-- ---- each input

calls_kept : (xs : List Sought) (node : ℕ) (n after : NodeState) (asa : ℕ) (it : Call) (r : Reply) → Calls n asa it r after → InputBegun xs node n (input.Api asa it) r
    → LooksKept xs node n → LooksKept xs node after
calls_kept xs node n after asa it (reply.Api a) c own k = subst (LooksKept xs node) (sym c.1) (call_kept xs node n asa it a c.0 own k)
calls_kept xs node n after asa it (reply.Refused refused) c own k = subst (LooksKept xs node) (sym c.1) k
calls_kept xs node n after asa it _ c own k = absurd c

acts_kept : (xs : List Sought) (node : ℕ) (n after : NodeState) (now : ℕ) (i : Input) (x : Coming) (r : Reply) → NodeStep n now i x r after → InputLooks xs (begin n now) i x r
    → InputBegun xs node (begin n now) i r → LooksKept xs node (begin n now) → LooksKept xs node after
acts_kept xs node n after now (input.Api asa it) x r step given own k = calls_kept xs node (begin n now) after asa it r step.acts own k
acts_kept xs node n after now (input.Datagram link from bytes) x r step given own k = record {
  searches = subst (All (SearchLooks xs node)) (sym (datagrams_leave n after now link from bytes x r step).searches) k.searches;
  memories = taking (λ m. All (MemoryLooks xs) m.discoveries.memories) (begin n now) after link from x r step.acts (datagram_memories xs (begin n now) link from x.carried given k.memories) k.memories;
}
acts_kept xs node n after now (input.Opened stream from) x r step given own k =
    looks_stay xs node (begin n now) after (stream_leaves stream x (begin n now) after ((peers_leave n after now stream x r).0 from step)) k
acts_kept xs node n after now (input.Bytes stream bytes) x r step given own k =
    looks_stay xs node (begin n now) after (stream_leaves stream x (begin n now) after ((peers_leave n after now stream x r).1 bytes step)) k
acts_kept xs node n after now (input.Closed stream) x r step given own k =
    looks_stay xs node (begin n now) after (stream_leaves stream x (begin n now) after ((peers_leave n after now stream x r).2 step)) k
acts_kept xs node n after now (input.Drain most) x r step given own k = looks_stay xs node (begin n now) after (drain_leaves (begin n now) after most r step.acts) k

pub step_looks : (xs : List Sought) (node : ℕ) (n after : NodeState) (now : ℕ) (i : Input) (x : Coming) (r : Reply) → NodeStep n now i x r after
    → InputLooks xs (begin n now) i x r → InputBegun xs node (begin n now) i r → NodeLooks xs node n → NodeLooks xs node after
step_looks xs node n after now i x r step given own looks = from (begin_looks xs node n now looks) where
  from : NodeLooks xs node (begin n now) → NodeLooks xs node after
  from b = record {
    kept = acts_kept xs node n after now i x r step given own b.kept;
    queue = input_queue_looks xs (begin n now) i x r after (relays_once n after now i x r step) given b.queue;
  }

-- what a call begins to send was begun by its search
pub begun_input : (xs : List Sought) (node : ℕ) (n : NodeState) (asa : ℕ) (it : Call) (x : Coming) (r : Reply) → InputBegun xs node n (input.Api asa it) r
    → InputLooks xs n (input.Api asa it) x r
begun_input xs node n asa it x (reply.Api a) b = own_looks xs node n asa it a b
begun_input xs node n asa it x _ b = tt
