-- What a node answers to a discovery, what it remembers of it, what it caches of a response, and what it tells of a topic
-- (RFC 8990, sections 2.5.4, 2.8.4 and 2.8.5).
use Rattle.std.specs.Prelude.{◌≡◌, ◌≢◌, ℕ, ◌+◌, ◌<◌, ◌≤◌, ◌⊎◌, true, false, List, length, Option, Some, None, All, Any, Contains}
use Rattle.grasp_types.specs.declared.address.Address.{Address}
use Rattle.grasp_types.specs.declared.address.Locator.{Locator}
use Rattle.grasp_types.specs.declared.objective.Objective.{Objective}
use Rattle.grasp_types.specs.declared.origin.Origin.{Origin}
use Rattle.grasp_types.specs.declared.session.Kind.TheVariants.{Negotiation, Synchronization}
use Rattle.grasp_types.specs.Objective.{has_neg}
use Rattle.grasp_types.specs.Reading.{reading_after}
use Rattle.grasp_discovery.specs.declared.answers.Answered.{Answered}
use Rattle.grasp_discovery.specs.declared.answers.Cause.{Cause}
use Rattle.grasp_discovery.specs.declared.answers.Heard.{Heard}
use Rattle.grasp_discovery.specs.declared.answers.Heard.TheVariants.{Known, NoPlace, New}
use Rattle.grasp_discovery.specs.declared.cached.Cached.{Cached}
use Rattle.grasp_discovery.specs.declared.memory.Memory.{Memory}
use Rattle.grasp_discovery.specs.declared.topic.Topic.{Topic}
use Rattle.grasp_discovery.specs.Discoveries.{Discoveries, heard_reply, after_heard, memory_from, cached_under, asker_of, after_answered, end_of, known_of}

-- Discoveries of other nodes

-- the discovery is not remembered
abbrev pub IsUnknown : Discoveries → Origin → Type 0
IsUnknown all origin = All (λ memory. memory.0 ≢ origin) all.memories

-- what each answer says of the discovery; of the three one alone holds
abbrev pub IsHeardAs : Discoveries → Origin → Heard → Type 0
IsHeardAs all origin Known = Any (λ memory. memory.0 ≡ origin) all.memories
IsHeardAs all origin New = IsUnknown all origin × (length all.memories < 256)
IsHeardAs all origin NoPlace = IsUnknown all origin × (256 ≤ length all.memories)

-- the answer to each discovery is the one that holds of it
abbrev pub DiscoveriesAreKnown : Type 0
DiscoveriesAreKnown = (all : Discoveries) (origin : Origin) → IsHeardAs all origin (heard_reply all origin)

-- what is remembered of a discovery: the neighbour that caused it, what it looks for, and for 60000 ms
pub record IsMemoryOf (now : ℕ) (from : Cause) (objective : Objective) (memory : Memory) : Type 0 where
  pub cause : memory.cause ≡ from
  pub name : memory.topic.name ≡ objective.name
  pub negotiation : has_neg objective.flags ≡ true → memory.topic.kind ≡ Negotiation
  pub synchronization : has_neg objective.flags ≡ false → memory.topic.kind ≡ Synchronization
  pub end : memory.end ≡ reading_after now 60000

-- a new discovery is remembered so, and else nothing changes
pub record RemembersIt (all : Discoveries) (origin : Origin) (memory : Memory) : Type 0 where
  pub memories : All (λ one. Contains all.memories one ⊎ (one ≡ (origin, memory))) (after_heard all origin memory New).memories
  pub itself : Contains (after_heard all origin memory New).memories (origin, memory)
  pub searches : (after_heard all origin memory New).searches ≡ all.searches
  pub entries : (after_heard all origin memory New).entries ≡ all.entries

-- each new discovery is remembered, with its cause and topic, for 60000 ms; one that is known, or has no place, changes nothing
pub record MemoriesAreOfDiscoveries : Type 0 where
  pub memory : (now : ℕ) (cause : Cause) (objective : Objective) → IsMemoryOf now cause objective (memory_from now cause objective)
  pub new : (all : Discoveries) (origin : Origin) (memory : Memory) → RemembersIt all origin memory
  pub known : (all : Discoveries) (origin : Origin) (memory : Memory) → after_heard all origin memory Known ≡ all
  pub no_place : (all : Discoveries) (origin : Origin) (memory : Memory) → after_heard all origin memory NoPlace ≡ all

-- Responses

-- the locator is cached, and ends no earlier than this
abbrev pub IsCachedUntil : Locator → ℕ → List Cached → Type 0
IsCachedUntil locator last cached = Any (λ one. (one.locator ≡ locator) × (last ≤ one.end)) cached

-- 8 others are cached, and this locator isn't
abbrev pub HasEightOthers : Locator → List Cached → Type 0
HasEightOthers locator cached = All (λ one. one.locator ≢ locator) cached × (8 ≤ length cached)

-- locators are cached under 128 other topics, and none under this one
abbrev pub HasManyOthers : Topic → List (Topic × List Cached) → Type 0
HasManyOthers topic entries = All (λ entry. entry.0 ≢ topic) entries × (128 ≤ length entries)

-- after a response with these locators, which end at `last`, under this topic
pub record CachesWhatItTells (all : Discoveries) (topic : Topic) (last : ℕ) (locators : List Locator) (after : Discoveries) : Type 0 where
  -- each of its locators is cached under the topic to its end or longer, unless 8 others are, or 128 other topics
  pub told : All (λ locator. IsCachedUntil locator last (cached_under topic after.entries)
      ⊎ HasEightOthers locator (cached_under topic after.entries)
      ⊎ HasManyOthers topic all.entries) locators
  -- what was cached is cached as long as before, or longer
  pub stays : All (λ one. IsCachedUntil one.locator one.end (cached_under topic after.entries)) (cached_under topic all.entries)
  -- what is cached ends with the response, or was cached just so
  pub ends : All (λ one. (one.end ≡ last) ⊎ Contains (cached_under topic all.entries) one) (cached_under topic after.entries)
  -- what is cached under another topic is as it was
  pub others : (other : Topic) → other ≢ topic → cached_under other after.entries ≡ cached_under other all.entries

-- the locators of a response that was asked for are cached under its topic; a stranger's response changes nothing
pub record ResponsesAreCached (all : Discoveries) (own : Address) (origin : Origin) (last : ℕ) (locators : List Locator) : Type 0 where
  pub answer : (who : Answered) (topic : Topic) → asker_of all own origin ≡ Some (who, topic)
      → CachesWhatItTells all topic last locators (after_answered all last locators (asker_of all own origin))
  pub stranger : asker_of all own origin ≡ None → after_answered all last locators (asker_of all own origin) ≡ all

-- the locators of each response that was asked for are cached under its topic, and a stranger's response changes nothing
abbrev pub AnswersAreCached : Type 0
AnswersAreCached = (all : Discoveries) (own : Address) (origin : Origin) (last : ℕ) (locators : List Locator) → ResponsesAreCached all own origin last locators

-- locators end after their lifetime, and after 600000 ms where that is 0
pub record LocatorsEndInTime : Type 0 where
  pub none : (now : ℕ) → end_of now 0 ≡ reading_after now 600000
  pub some : (now ttl : ℕ) → 0 < ttl → end_of now ttl ≡ reading_after now ttl

-- What is known of a topic

-- these locators and this lifetime are reported of what is cached
pub record IsToldOf (now : ℕ) (cached : List Cached) (locators : List Locator) (left : ℕ) : Type 0 where
  -- at least one locator, each that ends later, and no other
  pub some : 1 ≤ length locators
  pub each : All (λ one. now < one.end → Contains locators one.locator) cached
  pub only : All (λ locator. Any (λ one. (one.locator ≡ locator) × (now < one.end)) cached) locators
  -- the lifetime is at most what is left of each, and is what is left of one, or the greatest u32
  pub within : All (λ one. now < one.end → now + left ≤ one.end) cached
  pub below : left ≤ 4294967295
  pub least : (left ≡ 4294967295) ⊎ Any (λ one. now + left ≡ one.end) cached

-- nothing is told exactly where all has ended
abbrev pub IsKnownOf : ℕ → List Cached → Option (List Locator × ℕ) → Type 0
IsKnownOf now cached None = All (λ one. one.end ≤ now) cached
IsKnownOf now cached (Some known) = IsToldOf now cached known.0 known.1

-- of each topic just the cached locators that end later are known, with a lifetime within theirs
abbrev pub KnownIsLive : Type 0
KnownIsLive = (all : Discoveries) (topic : Topic) (now : ℕ) → IsKnownOf now (cached_under topic all.entries) (known_of all topic now)
