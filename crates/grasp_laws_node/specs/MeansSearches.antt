-- What each answer of a search and a flood means, in plain facts (RFC 8991, sections 2.3.4 and 2.3.6).
use Rattle.std.specs.Prelude.{◌≡◌, ◌≢◌, ◌+◌, ◌++◌, ℕ, Bool, true, false, List, [], ◌∷◌, length, Option, None, Some, Ok, map, filter, find}
use Rattle.grasp_asa.specs.Registrations.{is_registered}
use Rattle.grasp_cbor.specs.DataItem.{DataItem}
use Rattle.grasp_discovery.specs.Discoveries.{cached_under, is_search_of, is_searching, without_search, is_full}
use Rattle.grasp_discovery.specs.Topic.{topic_of}
use Rattle.grasp_discovery.specs.declared.search.Search.{Search}
use Rattle.grasp_flood.specs.Flood.{key_of}
use Rattle.grasp_flood.specs.Floods.{has_key, after_drop, read_of, is_named}
use Rattle.grasp_types.specs.Reading.{reading_after}
use Rattle.grasp_types.specs.declared.address.Address.{Address}
use Rattle.grasp_types.specs.declared.address.Locator.{Locator}
use Rattle.grasp_types.specs.declared.call.Call.TheVariants.{GetFlood}
use Rattle.grasp_types.specs.declared.message.Message.{Message}
use Rattle.grasp_types.specs.declared.message.Message.TheVariants.{Discovery, Flood}
use Rattle.grasp_types.specs.declared.reply.ApiAnswer.{ApiAnswer}
use Rattle.grasp_types.specs.declared.reply.ApiAnswer.TheVariants as answer
use Rattle.grasp_types.specs.declared.session.Kind.{Kind}
use Rattle.grasp_types.specs.declared.session.Kind.TheVariants.{Negotiation, Synchronization}
use Rattle.grasp_model_node.specs.Draws.{next_session}
use Rattle.grasp_model_node.specs.FloodCalls.{MayDiscover, after_discovering, MayFlood, after_flooding, MayGet, MayExpire, after_expiring}
use Rattle.grasp_laws_node.specs.Means.{Fits}
use Rattle.grasp_laws_node.specs.MeansRequests.{Synchronizes}
use Rattle.grasp_model_node.specs.Node.{NodeState}
use Rattle.grasp_model_node.specs.Queue.{along, all_ways}
use Rattle.grasp_model_node.specs.Step.{after_call}

-- ---- discover

-- the locators that are cached under the topic
abbrev pub cached : NodeState → List ℕ → Kind → List Locator
cached n name kind = map (λ one. one.locator) (cached_under (topic_of name kind) n.discoveries.entries)

-- the agent's search for the topic
abbrev pub search_of : NodeState → ℕ → List ℕ → Kind → Option Search
search_of n asa name kind = find (is_search_of asa (topic_of name kind)) n.discoveries.searches

-- the agent's search for the topic is gone, where there was one; nothing else has changed
pub record Ceases (n : NodeState) (asa : ℕ) (name : List ℕ) (kind : Kind) (after : NodeState) : Type 0 where
  pub leads : after ≡ record n { discoveries = without_search n.discoveries asa (topic_of name kind) }
  pub gone : is_searching after.discoveries asa (topic_of name kind) ≡ false

-- F_DISC is 1, F_NEG is 2, and F_SYNCH is 4
abbrev pub search_flags : Kind → ℕ
search_flags Negotiation = 1 + 2
search_flags Synchronization = 1 + 4

abbrev pub search_sent : NodeState → List ℕ → Kind → ℕ → Message
search_sent n name kind loops = Discovery (next_session n) n.plan.address (record { name = name; flags = search_flags kind; loops = loops; value = None })

-- There is room for a search, and its message fits. The search is kept, the last, until the reading plus the timeout; a
-- datagram to every neighbour of every link is queued, in order; and one more word is drawn. Nothing else has changed
pub record Searches (n : NodeState) (asa : ℕ) (name : List ℕ) (kind : Kind) (loops timeout : ℕ) (after : NodeState) : Type 0 where
  pub none_cached : cached n name kind ≡ []
  pub none_kept : search_of n asa name kind ≡ None
  pub few : is_full n.discoveries ≡ false
  pub fits : Fits n (search_sent n name kind loops) (length (all_ways n.plan.links))
  pub leads : after ≡ record n {
    discoveries = record n.discoveries {
      searches = n.discoveries.searches
          ++ record { asa = asa; topic = topic_of name kind; session = next_session n; end = reading_after n.reading timeout; over = false } ∷ [];
    };
    queue = n.queue ++ along (search_sent n name kind loops) (all_ways n.plan.links);
    drawn = n.drawn + 1;
  }

-- no locator is cached, and the agent's search is over, or not
pub record Sought (n : NodeState) (asa : ℕ) (name : List ℕ) (kind : Kind) (over : Bool) : Type 0 where
  pub none_cached : cached n name kind ≡ []
  pub search : Search
  pub kept : search_of n asa name kind ≡ Some search
  pub is_over : search.over ≡ over

abbrev pub DiscoverTells : NodeState → ℕ → List ℕ → Kind → ℕ → ℕ → ApiAnswer → NodeState → Type 0
DiscoverTells n asa name kind loops timeout (answer.Found locators) after = (locators ≡ cached n name kind) × (locators ≢ []) × Ceases n asa name kind after
DiscoverTells n asa name kind loops timeout answer.NotYet after = Sought n asa name kind false × (after ≡ n)
DiscoverTells n asa name kind loops timeout answer.Nothing after = Sought n asa name kind true × Ceases n asa name kind after
DiscoverTells n asa name kind loops timeout answer.Searching after = Searches n asa name kind loops timeout after
DiscoverTells n asa name kind loops timeout _ after = ⊥

pub record DiscoverFacts (n : NodeState) (asa : ℕ) (name : List ℕ) (kind : Kind) (loops timeout : ℕ) (a : ApiAnswer) (after : NodeState) : Type 0 where
  pub registered : is_registered n.registrations asa ≡ true
  pub tells : DiscoverTells n asa name kind loops timeout a after

abbrev pub DiscoverMeans : Type 0
DiscoverMeans = (n : NodeState) (asa : ℕ) (name : List ℕ) (kind : Kind) (loops timeout : ℕ) (a : ApiAnswer) → MayDiscover n asa name kind loops (Ok a)
    → DiscoverFacts n asa name kind loops timeout a (after_discovering n asa name kind loops timeout (Ok a))

-- ---- flood

-- the objective with its registered flags and its value, and no locator
abbrev pub flood_sent : NodeState → List ℕ → ℕ → DataItem → ℕ → ℕ → Message
flood_sent n name flags value ttl loops =
    Flood (next_session n) n.plan.address ttl (record { objective = record { name = name; flags = flags; loops = loops; value = Some value }; locator = None } ∷ [])

pub record FloodFacts (n : NodeState) (asa : ℕ) (name : List ℕ) (value : DataItem) (ttl loops : ℕ) (a : ApiAnswer) (after : NodeState) : Type 0 where
  pub done : a ≡ answer.Done
  pub synchronizes : Synchronizes n asa name
  pub fits : Fits n (flood_sent n name synchronizes.flags value ttl loops) (length (all_ways n.plan.links))
  -- a datagram to every neighbour of every link is queued, in order, and one more word is drawn; nothing else has changed
  pub leads : after ≡ record n { queue = n.queue ++ along (flood_sent n name synchronizes.flags value ttl loops) (all_ways n.plan.links); drawn = n.drawn + 1 }

abbrev pub FloodMeans : Type 0
FloodMeans = (n : NodeState) (asa : ℕ) (name : List ℕ) (value : DataItem) (ttl loops : ℕ) (a : ApiAnswer) → MayFlood n asa name value ttl loops (Ok a)
    → FloodFacts n asa name value ttl loops a (after_flooding n asa name value ttl loops (Ok a))

-- ---- get_flood and expire_flood

-- the floods of this name are told, in order; nothing has changed
pub record GetFacts (n : NodeState) (asa : ℕ) (name : List ℕ) (a : ApiAnswer) (after : NodeState) : Type 0 where
  pub registered : is_registered n.registrations asa ≡ true
  pub told : a ≡ answer.Floods (map read_of (filter (is_named name) n.floods.entries))
  pub leads : after ≡ n

abbrev pub GetMeans : Type 0
GetMeans = (n : NodeState) (asa : ℕ) (name : List ℕ) (a : ApiAnswer) → MayGet n asa name (Ok a) → GetFacts n asa name a (after_call n asa (GetFlood name) (Ok a))

-- a flood of this name and initiator was kept and is gone; nothing else has changed
pub record ExpireFacts (n : NodeState) (asa : ℕ) (name : List ℕ) (initiator : Address) (a : ApiAnswer) (after : NodeState) : Type 0 where
  pub done : a ≡ answer.Done
  pub registered : is_registered n.registrations asa ≡ true
  pub was_kept : has_key (key_of name initiator) n.floods.entries ≡ true
  pub leads : after ≡ record n { floods = after_drop n.floods (key_of name initiator) }
  pub gone : has_key (key_of name initiator) after.floods.entries ≡ false

abbrev pub ExpireMeans : Type 0
ExpireMeans = (n : NodeState) (asa : ℕ) (name : List ℕ) (initiator : Address) (a : ApiAnswer) → MayExpire n asa name initiator (Ok a)
    → ExpireFacts n asa name initiator a (after_expiring n name initiator (Ok a))
