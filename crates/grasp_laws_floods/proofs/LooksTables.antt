-- What a node keeps of searches and discoveries was begun by searches: each call and each datagram leaves it so.
use Rattle.std.proofs.Common.{◌≡◌, refl, sym, ◌∙◌, subst, ℕ, Bool, true, false, cond, not, ◌==◌, List, All, Option, Ok}
use Rattle.std.specs.Prelude.{Contains}
use Rattle.std.proofs.lemmas.List.Elements.{All-filter, All-push}
use Rattle.grasp_asa.specs.Answers.{names_of}
use Rattle.grasp_model_node.specs.Datagrams.{discovery_kept, discovery_heard, is_dropped, after_discovery, flood_kept, flood_heard, after_flood, after_datagram}
use Rattle.grasp_model_node.specs.Declines.{Declining, after_declines, declines_of}
use Rattle.grasp_model_node.specs.Draws.{next_session}
use Rattle.grasp_model_node.specs.FloodCalls.{find_of, found_as, looked}
use Rattle.grasp_model_node.specs.Moves.{with_registrations, with_sessions, with_discoveries, with_floods, with_draw, begin_closing, dial_record, queue_up}
use Rattle.grasp_model_node.specs.Node.{NodeState}
use Rattle.grasp_model_node.specs.RegistryCalls.{declines_for, without_agent, without_objective, without_searches, without_sessions, with_mark}
use Rattle.grasp_model_node.specs.SessionCalls.{after_polling, with_adopted}
use Rattle.grasp_model_node.specs.Step.{MayCall, after_call}
use Rattle.grasp_discovery.specs.Discoveries as discovery
use Rattle.grasp_discovery.specs.Discoveries.{is_search_of, search_from}
use Rattle.grasp_discovery.specs.Topic.{topic_of}
use Rattle.grasp_discovery.specs.declared.answers.Cause.{Cause}
use Rattle.grasp_discovery.specs.declared.answers.Find.{Find}
use Rattle.grasp_discovery.specs.declared.answers.Find.TheVariants as find
use Rattle.grasp_discovery.specs.declared.answers.Heard as answered
use Rattle.grasp_discovery.specs.declared.answers.Heard.TheVariants as discovered
use Rattle.grasp_discovery.specs.declared.topic.Topic.{Topic}
use Rattle.grasp_flood.specs.Floods as flood
use Rattle.grasp_flood.specs.declared.heard.Heard as told
use Rattle.grasp_flood.specs.declared.heard.Heard.TheVariants as flooded
use Rattle.grasp_session.specs.Sessions.{untaken_reply}
use Rattle.grasp_types.specs.Origin.{origin_of}
use Rattle.grasp_types.specs.Same.{same_address}
use Rattle.grasp_types.specs.declared.address.Address.{Address}
use Rattle.grasp_types.specs.declared.call.Call.{Call}
use Rattle.grasp_types.specs.declared.call.Call.TheVariants as call
use Rattle.grasp_types.specs.declared.flood.FloodPart.{FloodPart}
use Rattle.grasp_types.specs.declared.links.Neighbour.{Neighbour}
use Rattle.grasp_types.specs.declared.message.Message.{Message}
use Rattle.grasp_types.specs.declared.objective.Objective.{Objective}
use Rattle.grasp_types.specs.declared.reply.ApiAnswer.{ApiAnswer}
use Rattle.grasp_types.specs.declared.reply.ApiAnswer.TheVariants as answer
use Rattle.grasp_types.specs.declared.session.Kind.{Kind}
use Rattle.grasp_laws_floods.proofs.Datagrams.{datagram_so}
use Rattle.grasp_laws_floods.proofs.Leaving.{Leaves, declines_leave, sessions_leave, adopting_leaves, polling_leaves, flood_relay_leaves, answered_leaves}
use Rattle.grasp_laws_floods.proofs.Looks.{DiscoveryLooks, OptionLooks, MemoryLooks, SearchLooks}
use Rattle.grasp_laws_floods.specs.Sought.{Sought}

-- a node's searches and memories of discoveries are of these searches
pub record LooksKept (xs : List Sought) (node : ℕ) (n : NodeState) : Type 0 where
  pub searches : All (SearchLooks xs node) n.discoveries.searches
  pub memories : All (MemoryLooks xs) n.discoveries.memories

pub looks_stay : (xs : List Sought) (node : ℕ) (n after : NodeState) → Leaves n after → LooksKept xs node n → LooksKept xs node after
looks_stay xs node n after e k = record {
  searches = subst (All (SearchLooks xs node)) (sym e.searches) k.searches;
  memories = subst (All (MemoryLooks xs)) (sym e.memories) k.memories;
}

-- ---- a search that a call begins

pub record IsBegun (xs : List Sought) (node : ℕ) (n : NodeState) (topic : Topic) : Type 0 where
  pub it : Sought
  pub among : Contains xs it
  pub node_is : it.search.node ≡ node
  pub address_is : n.plan.address ≡ it.search.address
  pub session_is : next_session n ≡ it.search.session
  pub topic_is : topic ≡ it.topic

-- where the call is answered that a search begins, it is one of these
abbrev pub OwnBegun : List Sought → ℕ → NodeState → Call → ApiAnswer → Type 0
OwnBegun xs node n (call.Discover name kind loops timeout) a = a ≡ answer.Searching → IsBegun xs node n (topic_of name kind)
OwnBegun xs node n _ a = Unit {0}

begun_search : (xs : List Sought) (node : ℕ) (n : NodeState) (asa timeout : ℕ) (topic : Topic) → IsBegun xs node n topic → SearchLooks xs node (search_from n.reading asa topic (next_session n) timeout)
begun_search xs node n asa timeout topic b = record { it = b.it; among = b.among; is = record { node_is = b.node_is; session_is = b.session_is; topic_is = b.topic_is } }

looked_kept : (xs : List Sought) (node : ℕ) (n : NodeState) (asa : ℕ) (name : List ℕ) (kind : Kind) (loops timeout : ℕ) (f : Find)
    → (found_as f ≡ answer.Searching → IsBegun xs node n (topic_of name kind)) → LooksKept xs node n → LooksKept xs node (looked n asa name kind loops timeout f)
unfolding with_discoveries with_draw queue_up
looked_kept xs node n asa name kind loops timeout (find.Found locators) own k = record {
  searches = All-filter (λ search. not (is_search_of asa (topic_of name kind) search)) (SearchLooks xs node) n.discoveries.searches k.searches;
  memories = k.memories;
}
looked_kept xs node n asa name kind loops timeout find.NotYet own k = record { searches = k.searches; memories = k.memories }
looked_kept xs node n asa name kind loops timeout find.Nothing own k = record {
  searches = All-filter (λ search. not (is_search_of asa (topic_of name kind) search)) (SearchLooks xs node) n.discoveries.searches k.searches;
  memories = k.memories;
}
looked_kept xs node n asa name kind loops timeout find.Fresh own k = record {
  searches = All-push (SearchLooks xs node) n.discoveries.searches (search_from n.reading asa (topic_of name kind) (next_session n) timeout) k.searches
      (begun_search xs node n asa timeout (topic_of name kind) (own refl));
  memories = k.memories;
}

-- ---- each call

pub call_kept : (xs : List Sought) (node : ℕ) (n : NodeState) (asa : ℕ) (it : Call) (a : ApiAnswer) → MayCall n asa it (Ok a) → OwnBegun xs node n it a → LooksKept xs node n
    → LooksKept xs node (after_call n asa it (Ok a))
unfolding with_registrations with_sessions with_discoveries with_floods with_draw begin_closing dial_record queue_up
call_kept xs node n asa call.DeregisterAsa a m own k =
    looks_stay xs node (without_searches (after_declines (without_agent n asa) ds) asa) (without_sessions 64 (without_searches (after_declines (without_agent n asa) ds) asa) asa)
    (sessions_leave 64 (without_searches (after_declines (without_agent n asa) ds) asa) asa)
    (gone (looks_stay xs node (without_agent n asa) (after_declines (without_agent n asa) ds) (declines_leave ds (without_agent n asa)) (record { searches = k.searches; memories = k.memories })))
  where
    ds : List Declining
    ds = declines_for n.sessions (names_of n.registrations asa)

    gone : LooksKept xs node (after_declines (without_agent n asa) ds) → LooksKept xs node (without_searches (after_declines (without_agent n asa) ds) asa)
    gone l = record {
      searches = All-filter (λ search. not (search.asa == asa)) (SearchLooks xs node) (after_declines (without_agent n asa) ds).discoveries.searches l.searches;
      memories = l.memories;
    }
call_kept xs node n asa (call.DeregisterObjective name) a m own k =
    looks_stay xs node (without_objective n asa name) (after_declines (without_objective n asa name) (declines_of n.sessions name))
    (declines_leave (declines_of n.sessions name) (without_objective n asa name)) (record { searches = k.searches; memories = k.memories })
call_kept xs node n asa (call.Discover name kind loops timeout) a m own k =
    looked_kept xs node n asa name kind loops timeout (find_of n asa name kind) (λ e. own (m.2 ∙ e)) k
call_kept xs node n asa (call.ListenNegotiate name) a m own k =
    looks_stay xs node (with_mark n asa name true) (with_adopted (with_mark n asa name true) asa (untaken_reply n.sessions name))
    (adopting_leaves (with_mark n asa name true) asa (untaken_reply n.sessions name)) (record { searches = k.searches; memories = k.memories })
call_kept xs node n asa (call.StopListenNegotiate name) a m own k =
    looks_stay xs node (with_mark n asa name false) (after_declines (with_mark n asa name false) (declines_of n.sessions name))
    (declines_leave (declines_of n.sessions name) (with_mark n asa name false)) (record { searches = k.searches; memories = k.memories })
call_kept xs node n asa (call.Poll h) a m own k = looks_stay xs node n (after_polling n h (Ok a)) (polling_leaves n h a) k
call_kept xs node n asa (call.GetFlood name) a m own k = k
call_kept xs node n asa _ a m own k = record { searches = k.searches; memories = k.memories }

-- ---- a datagram

flood_memories : (n : NodeState) (link session : ℕ) (initiator : Address) (ttl : ℕ) (parts : List FloodPart)
    → (after_flood n link session initiator ttl parts).discoveries.memories ≡ n.discoveries.memories
unfolding with_floods
flood_memories n link session initiator ttl parts = by_own (same_address n.plan.address initiator) where
  by_heard : (h : told.Heard) → (flood_heard n link session initiator ttl parts h).discoveries.memories ≡ n.discoveries.memories
  by_heard flooded.Known = refl
  by_heard flooded.NoPlace = refl
  by_heard flooded.New = (flood_relay_leaves (flood_kept n session initiator ttl parts flooded.New) link session initiator ttl parts).memories

  by_own : (b : Bool)
      → (cond b n (flood_heard n link session initiator ttl parts (flood.heard_reply n.floods (origin_of session initiator)))).discoveries.memories ≡ n.discoveries.memories
  by_own true = refl
  by_own false = by_heard (flood.heard_reply n.floods (origin_of session initiator))

heard_memories : (xs : List Sought) (n : NodeState) (cause : Cause) (neighbour : Neighbour) (session : ℕ) (initiator : Address) (o : Objective) (h : answered.Heard)
    → DiscoveryLooks xs session initiator o → All (MemoryLooks xs) n.discoveries.memories
    → All (MemoryLooks xs) (discovery_heard n cause neighbour session initiator o h).discoveries.memories
unfolding with_discoveries
heard_memories xs n cause neighbour session initiator o discovered.Known k all = all
heard_memories xs n cause neighbour session initiator o discovered.NoPlace k all = all
heard_memories xs n cause neighbour session initiator o discovered.New k all =
    subst (All (MemoryLooks xs)) (sym (answered_leaves (discovery_kept n cause session initiator o) cause.link neighbour session initiator o).memories)
    (All-push (MemoryLooks xs) n.discoveries.memories (origin_of session initiator, discovery.memory_from n.reading cause o) all k.search)

discovery_memories : (xs : List Sought) (n : NodeState) (cause : Cause) (neighbour : Neighbour) (session : ℕ) (initiator : Address) (o : Objective)
    → DiscoveryLooks xs session initiator o → All (MemoryLooks xs) n.discoveries.memories → All (MemoryLooks xs) (after_discovery n cause neighbour session initiator o).discoveries.memories
discovery_memories xs n cause neighbour session initiator o k all = by_test (is_dropped n initiator o.flags) where
  by_test : (b : Bool)
      → All (MemoryLooks xs) (cond b n (discovery_heard n cause neighbour session initiator o (discovery.heard_reply n.discoveries (origin_of session initiator)))).discoveries.memories
  by_test true = all
  by_test false = heard_memories xs n cause neighbour session initiator o (discovery.heard_reply n.discoveries (origin_of session initiator)) k all

pub datagram_memories : (xs : List Sought) (n : NodeState) (link from : ℕ) (m : Option Message) → OptionLooks xs m
    → All (MemoryLooks xs) n.discoveries.memories → All (MemoryLooks xs) (after_datagram n link from m).discoveries.memories
datagram_memories xs n link from m k all = datagram_so (λ x. All (MemoryLooks xs) x.discoveries.memories) n all link from m (record {
  after_discoveries = λ cause neighbour session initiator o e.
      let looks : DiscoveryLooks xs session initiator o = subst (OptionLooks xs) e k in discovery_memories xs n cause neighbour session initiator o looks all;
  after_floods = λ link session initiator ttl parts e. subst (All (MemoryLooks xs)) (sym (flood_memories n link session initiator ttl parts)) all;
})
