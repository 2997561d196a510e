-- The searches of a node, the locators that responses told it, and the discoveries that it remembers.
--
-- The way of a discovery is that of RFC 8990, sections 2.5.4, 2.8.4 and 2.8.5. This project's own: the numbers 64, 128,
-- 8, 256 and 60000 ms, that a lifetime of 0 counts as 600000 ms, and that a divert tells its locators as any response.
use Rattle.std.specs.Prelude.{◌≡◌, ℕ, ◌-◌, ◌≤◌, Bool, false, ◌==◌, ◌&&◌, ◌||◌, nat_lt, if◌then◌else◌, not, max, min, List, [], ◌∷◌, ◌++◌, length, map, filter, fold, find, All, Option, Some, None, option_map}
use Rattle.std.specs.Bool.{⊤}
use Rattle.std.specs.List.{list_any}
use Rattle.grasp_types.specs.Same.{same_address, same_origin}
use Rattle.grasp_types.specs.Reading.{reading_after}
use Rattle.grasp_types.specs.declared.address.Address.{Address}
use Rattle.grasp_types.specs.declared.address.Locator.{Locator}
use Rattle.grasp_types.specs.declared.objective.Objective.{Objective}
use Rattle.grasp_types.specs.declared.origin.Origin.{Origin}
use Rattle.grasp_discovery.specs.declared.answers.Answered.{Answered}
use Rattle.grasp_discovery.specs.declared.answers.Answered.TheVariants.{Mine, Relay, Stranger}
use Rattle.grasp_discovery.specs.declared.answers.Cause.{Cause}
use Rattle.grasp_discovery.specs.declared.answers.Find.{Find}
use Rattle.grasp_discovery.specs.declared.answers.Find.TheVariants.{Found, NotYet, Nothing, Fresh}
use Rattle.grasp_discovery.specs.declared.answers.Heard.{Heard}
use Rattle.grasp_discovery.specs.declared.answers.Heard.TheVariants.{Known, NoPlace, New}
use Rattle.grasp_discovery.specs.declared.cached.Cached.{Cached}
use Rattle.grasp_discovery.specs.declared.memory.Memory.{Memory}
use Rattle.grasp_discovery.specs.declared.search.Search.{Search}
use Rattle.grasp_discovery.specs.declared.topic.Topic.{Topic}
use Rattle.grasp_types.specs.Same.{same_locator}
use Rattle.grasp_discovery.specs.Topic.{same_topic, topic_of, kind_of}

-- the searches in order; the cached locators under each topic, both in the order in which they were first kept; and
-- the remembered discoveries in order
pub record Discoveries : Type 0 where
  pub searches : List Search
  pub entries : List (Topic × List Cached)
  pub memories : List (Origin × Memory)

-- nothing is searched for, cached or remembered
abbrev pub no_discoveries : Discoveries
no_discoveries = record { searches = []; entries = []; memories = [] }

-- Searches

-- the search is this agent's for this topic
abbrev pub is_search_of : ℕ → Topic → Search → Bool
is_search_of asa topic search = (search.asa == asa) && same_topic topic search.topic

-- the search has this session number
abbrev pub is_numbered : ℕ → Search → Bool
is_numbered session search = search.session == session

-- a search of this agent for this topic is kept
abbrev pub is_searching : Discoveries → ℕ → Topic → Bool
is_searching all asa topic = list_any (is_search_of asa topic) all.searches

-- 64 searches are kept
abbrev pub is_full : Discoveries → Bool
is_full all = length all.searches == 64

-- a kept search has this session number
abbrev pub is_used : Discoveries → ℕ → Bool
is_used all session = list_any (is_numbered session) all.searches

-- without this agent's search for this topic
abbrev pub without_search : Discoveries → ℕ → Topic → Discoveries
without_search all asa topic = record all { searches = filter (λ search. not (is_search_of asa topic search)) all.searches }

-- without the searches of this agent
abbrev pub without_asa : Discoveries → ℕ → Discoveries
without_asa all asa = record all { searches = filter (λ search. not (search.asa == asa)) all.searches }

-- a search that begins at this reading is over at the reading plus its timeout
abbrev pub search_from : ℕ → ℕ → Topic → ℕ → ℕ → Search
search_from now asa topic session timeout = record {
  asa = asa;
  topic = topic;
  session = session;
  end = reading_after now timeout;
  over = false;
}

-- with one more search, the last
abbrev pub with_search : Discoveries → Search → Discoveries
with_search all search = record all { searches = all.searches ++ search ∷ [] }

-- The cache

-- the locators that are cached under a topic
abbrev pub cached_under : Topic → List (Topic × List Cached) → List Cached
cached_under topic [] = []
cached_under topic (entry ∷ rest) = if same_topic topic entry.0 then entry.1 else cached_under topic rest

-- locators are cached under this topic
abbrev pub has_topic : Topic → List (Topic × List Cached) → Bool
has_topic topic entries = list_any (λ entry. same_topic topic entry.0) entries

-- the list, where it has anything
abbrev pub some_of : {X : Type 0} → List X → Option (List X)
some_of [] = None
some_of (x ∷ xs) = Some (x ∷ xs)

-- Inside: the list, or none
abbrev pub or_none : {X : Type 0} → Option (List X) → List X
or_none None = []
or_none (Some xs) = xs

-- the locators of what is cached, where there are any
abbrev pub locators_of : List Cached → Option (List Locator)
locators_of cached = some_of (map (λ one. one.locator) cached)

-- the cached locator ends after this time
abbrev pub is_live : ℕ → Cached → Bool
is_live now one = nat_lt now one.end

-- those of them that end after this reading
abbrev pub live : ℕ → List Cached → List Cached
live now cached = filter (is_live now) cached

-- the least of their remaining lifetimes, or the greatest u32 where that is more
abbrev pub least_left : ℕ → List Cached → ℕ
least_left now cached = fold (λ least one. min least (one.end - now)) 4294967295 cached

-- the locators under this topic that end after this reading, with the least of their remaining lifetimes
abbrev pub known_of : Discoveries → Topic → ℕ → Option (List Locator × ℕ)
known_of all topic now =
    option_map (λ locators. (locators, least_left now (live now (cached_under topic all.entries))))
    (locators_of (live now (cached_under topic all.entries)))

-- how a search stands: found where locators are cached; else not yet, nothing once it is over, or fresh where the agent
-- doesn't search
abbrev pub find_reply : Option (List Locator) → Option Search → Find
find_reply (Some locators) search = Found locators
find_reply None (Some search) = if search.over then Nothing else NotYet
find_reply None None = Fresh

-- what an agent that looks for a topic is answered
abbrev pub find_answer : Discoveries → ℕ → Topic → Find
find_answer all asa topic = find_reply (locators_of (cached_under topic all.entries)) (find (is_search_of asa topic) all.searches)

-- whoever has found, or is told that there is nothing, searches no more
abbrev pub after_find : Discoveries → ℕ → Topic → Find → Discoveries
after_find all asa topic (Found locators) = without_search all asa topic
after_find all asa topic NotYet = all
after_find all asa topic Nothing = without_search all asa topic
after_find all asa topic Fresh = all

-- Discoveries of other nodes

-- the discovery is remembered
abbrev pub remembers : Discoveries → Origin → Bool
remembers all origin = list_any (λ memory. same_origin origin memory.0) all.memories

-- what a discovery is to the node: known where it is remembered, and else new where fewer than 256 are
abbrev pub heard_reply : Discoveries → Origin → Heard
heard_reply all origin =
    if remembers all origin then Known
    else if nat_lt (length all.memories) 256 then New
    else NoPlace

-- a discovery is remembered for 60000 ms, with the neighbour that caused it and with what it looks for
abbrev pub memory_from : ℕ → Cause → Objective → Memory
memory_from now cause objective = record {
  cause = cause;
  topic = topic_of objective.name (kind_of objective.flags);
  end = reading_after now 60000;
}

-- a new discovery is remembered last; any other changes nothing
abbrev pub after_heard : Discoveries → Origin → Memory → Heard → Discoveries
after_heard all origin memory Known = all
after_heard all origin memory NoPlace = all
after_heard all origin memory New = record all { memories = all.memories ++ (origin, memory) ∷ [] }

-- Responses

-- the memory of this discovery
abbrev pub memory_of : Origin → List (Origin × Memory) → Option Memory
memory_of origin [] = None
memory_of origin (memory ∷ rest) = if same_origin origin memory.0 then Some memory.1 else memory_of origin rest

-- the search that a response is for: the first of its number, where this node is its initiator
abbrev pub own_search : Discoveries → Address → Origin → Option Search
own_search all own origin = if same_address own origin.initiator then find (is_numbered origin.session) all.searches else None

-- who a response is for, and its topic: a search of this node comes before a remembered discovery
abbrev pub asked : Option Search → Option Memory → Option (Answered × Topic)
asked (Some search) memory = Some (Mine, search.topic)
asked None (Some memory) = Some (Relay memory.cause, memory.topic)
asked None None = None

-- who asked for a response of this number and this initiator, or none
abbrev pub asker_of : Discoveries → Address → Origin → Option (Answered × Topic)
asker_of all own origin = asked (own_search all own origin) (memory_of origin all.memories)

-- a response that nobody asked for is a stranger's
abbrev pub answered_reply : Option (Answered × Topic) → Answered
answered_reply (Some asker) = asker.0
answered_reply None = Stranger

-- when locators of this lifetime end, where a lifetime of 0 counts as 600000 ms
abbrev pub end_of : ℕ → ℕ → ℕ
end_of now ttl = reading_after now (if ttl == 0 then 600000 else ttl)

-- the locator is cached already
abbrev pub has_locator : Locator → List Cached → Bool
has_locator locator cached = list_any (λ one. same_locator locator one.locator) cached

-- a locator that is there keeps the later of the two ends, and another comes last
abbrev pub put_locator : Locator → ℕ → List Cached → List Cached
put_locator new last [] = record { locator = new; end = last } ∷ []
put_locator new last (old ∷ rest) =
    if same_locator new old.locator then record old { end = max old.end last } ∷ rest else old ∷ put_locator new last rest

-- a locator is kept where it is there, and else exactly where fewer than 8 are
abbrev pub keep_locator : ℕ → List Cached → Locator → List Cached
keep_locator last cached locator =
    if has_locator locator cached || nat_lt (length cached) 8 then put_locator locator last cached else cached

-- what is kept of locators with this end, after those that are cached already
abbrev pub keep_locators : ℕ → List Cached → List Locator → List Cached
keep_locators last cached locators = fold (keep_locator last) cached locators

-- an entry takes the place of that under its topic, and comes last where there is none
abbrev pub put_entry : Topic → List Cached → List (Topic × List Cached) → List (Topic × List Cached)
put_entry topic cached [] = (topic, cached) ∷ []
put_entry topic cached (old ∷ rest) =
    if same_topic topic old.0 then (old.0, cached) ∷ rest else old ∷ put_entry topic cached rest

-- a topic has a place where it is there, and else exactly where fewer than 128 are
abbrev pub has_place : Topic → List (Topic × List Cached) → Bool
has_place topic entries = has_topic topic entries || nat_lt (length entries) 128

-- locators are kept under a topic that has a place
abbrev pub after_response : List (Topic × List Cached) → Topic → ℕ → List Locator → List (Topic × List Cached)
after_response entries topic last locators =
    if has_place topic entries
    then put_entry topic (keep_locators last (cached_under topic entries) locators) entries
    else entries

-- a response that was asked for puts its locators into the cache, and a stranger's changes nothing
abbrev pub after_answered : Discoveries → ℕ → List Locator → Option (Answered × Topic) → Discoveries
after_answered all last locators (Some asker) = record all { entries = after_response all.entries asker.1 last locators }
after_answered all last locators None = all

-- Expiry

-- a search whose reading has come is over
abbrev pub after_reading : ℕ → Search → Search
after_reading now search = record search { over = search.over || not (nat_lt now search.end) }

-- an entry keeps the locators that end later
abbrev pub live_entry : ℕ → Topic × List Cached → Topic × List Cached
live_entry now entry = (entry.0, live now entry.1)

-- the entry has a locator
abbrev pub has_any : Topic × List Cached → Bool
has_any entry = nat_lt 0 (length entry.1)

-- searches whose reading has come are over; locators and memories that have ended are gone, and so are entries without
-- locators; the rest keeps its order
abbrev pub after_expiry : Discoveries → ℕ → Discoveries
after_expiry all now = record {
  searches = map (after_reading now) all.searches;
  entries = filter has_any (map (live_entry now) all.entries);
  memories = filter (λ memory. nat_lt now memory.1.end) all.memories;
}

-- What always holds

-- no two of them are the same
abbrev pub AllDiffer : {X : Type 0} → (X → X → Bool) → List X → Type 0
AllDiffer same [] = ⊤
AllDiffer same (x ∷ xs) = (list_any (same x) xs ≡ false) × AllDiffer same xs

-- two searches of one agent for one topic
abbrev pub same_search : Search → Search → Bool
same_search a b = is_search_of a.asa a.topic b

-- 1 to 8 locators that differ
pub record IsEntry (cached : List Cached) : Type 0 where
  pub some : 1 ≤ length cached
  pub few : length cached ≤ 8
  pub own_locators : AllDiffer (λ a b. same_locator a.locator b.locator) cached

-- at most 128 entries under topics that differ
pub record IsCache (entries : List (Topic × List Cached)) : Type 0 where
  pub few : length entries ≤ 128
  pub own_topics : AllDiffer (λ a b. same_topic a.0 b.0) entries
  pub each : All (λ entry. IsEntry entry.1) entries

-- at most 64 searches, one for an agent and a topic; a sound cache; and at most 256 memories of discoveries that differ
pub record IsDiscoveries (all : Discoveries) : Type 0 where
  pub few_searches : length all.searches ≤ 64
  pub own_searches : AllDiffer same_search all.searches
  pub cache : IsCache all.entries
  pub few_memories : length all.memories ≤ 256
  pub own_origins : AllDiffer (λ a b. same_origin a.0 b.0) all.memories
