-- Laws of searches, cached locators and memories.
use Rattle.std.specs.Prelude.{◌≡◌, ℕ, ◌<◌, ◌≤◌, ◌⊎◌, true, false, List, [], ◌∷◌, length, map, All, Any, Contains, Option, Some, None, IfSome, option_map}
use Rattle.std.specs.List.{AllZip}
use Rattle.grasp_types.specs.declared.address.Address.{Address}
use Rattle.grasp_types.specs.declared.address.Locator.{Locator}
use Rattle.grasp_types.specs.declared.origin.Origin.{Origin}
use Rattle.grasp_discovery.specs.declared.answers.Answered.{Answered}
use Rattle.grasp_discovery.specs.declared.answers.Find.{Find}
use Rattle.grasp_discovery.specs.declared.answers.Find.TheVariants.{Found, NotYet, Nothing, Fresh}
use Rattle.grasp_discovery.specs.declared.answers.Heard.TheVariants.{Known, New}
use Rattle.grasp_discovery.specs.declared.cached.Cached.{Cached}
use Rattle.grasp_discovery.specs.declared.memory.Memory.{Memory}
use Rattle.grasp_discovery.specs.declared.search.Search.{Search}
use Rattle.grasp_discovery.specs.declared.topic.Topic.{Topic}
use Rattle.grasp_discovery.specs.Discoveries.{Discoveries, no_discoveries, is_searching, is_full, without_asa, search_from, with_search, find_answer}
use Rattle.grasp_discovery.specs.Discoveries.{after_find}
use Rattle.grasp_discovery.specs.Discoveries.{cached_under, heard_reply, after_heard, asker_of, after_answered, known_of, after_expiry, IsDiscoveries}

-- a second expiry at the same reading changes nothing
abbrev pub ExpiryTwiceIsOnce : Type 0
ExpiryTwiceIsOnce = (all : Discoveries) (now : ℕ) → after_expiry (after_expiry all now) now ≡ after_expiry all now

-- after an expiry each search whose reading has come is over, each entry has a locator, and each locator and each memory
-- ends later
abbrev pub NothingEndedStays : Type 0
NothingEndedStays = (all : Discoveries) (now : ℕ)
    → All (λ search. search.end ≤ now → search.over ≡ true) (after_expiry all now).searches
    × All (λ entry. (1 ≤ length entry.1) × All (λ one. now < one.end) entry.1) (after_expiry all now).entries
    × All (λ memory. now < memory.1.end) (after_expiry all now).memories

-- the locators of an answer, where something is found
abbrev pub locators_found : Find → Option (List Locator)
locators_found (Found locators) = Some locators
locators_found NotYet = None
locators_found Nothing = None
locators_found Fresh = None

-- after an expiry at this reading, what is known of a topic is what an agent finds, which is all that is cached under it
abbrev pub KnownIsFound : Type 0
KnownIsFound = (all : Discoveries) (now asa : ℕ) (topic : Topic)
    → option_map (λ known. known.0) (known_of (after_expiry all now) topic now) ≡ locators_found (find_answer (after_expiry all now) asa topic)

-- the discoveries of a node begin sound, and each call leaves them so
abbrev pub DiscoveriesAreKept : Type 0
DiscoveriesAreKept = IsDiscoveries no_discoveries × ((all : Discoveries) → IsDiscoveries all →
    ((asa : ℕ) (topic : Topic) → IsDiscoveries (after_find all asa topic (find_answer all asa topic)))
    × ((now asa session timeout : ℕ) (topic : Topic) → is_searching all asa topic ≡ false → is_full all ≡ false → IsDiscoveries (with_search all (search_from now asa topic session timeout)))
    × ((origin : Origin) (memory : Memory) → IsDiscoveries (after_heard all origin memory (heard_reply all origin)))
    × ((own : Address) (origin : Origin) (last : ℕ) (locators : List Locator) → 1 ≤ length locators → IsDiscoveries (after_answered all last locators (asker_of all own origin)))
    × ((now : ℕ) → IsDiscoveries (after_expiry all now))
    × ((asa : ℕ) → IsDiscoveries (without_asa all asa)))

-- the first list is the second with some of its elements left out, in the same order
abbrev pub IsPartOf : {X : Type 0} → List X → List X → Type 0
IsPartOf part [] = part ≡ []
IsPartOf part (x ∷ xs) = IsPartOf part xs ⊎ ((rest : List _) × (part ≡ x ∷ rest) × IsPartOf rest xs)

-- a search is as it was, but that it may be over where its reading has come
abbrev pub IsSameSearch : ℕ → Search → Search → Type 0
IsSameSearch now old new =
    (new ≡ record old { over = new.over }) × (old.over ≡ true → new.over ≡ true) × (new.over ≡ true → (old.over ≡ true) ⊎ (old.end ≤ now))

-- an expiry drops only what has ended: each search stays, and is over only where its reading has come; under each topic the
-- locators that end later stay in their order, and the topics in theirs; and so do the memories that end later
pub record KeepsTheRest (all : Discoveries) (now : ℕ) : Type 0 where
  pub searches : AllZip (IsSameSearch now) all.searches (after_expiry all now).searches
  pub topics : IsPartOf (map (λ entry. entry.0) (after_expiry all now).entries) (map (λ entry. entry.0) all.entries)
  pub locators : (topic : Topic) → IsPartOf (cached_under topic (after_expiry all now).entries) (cached_under topic all.entries)
  pub live : (topic : Topic)
      → All (λ one. now < one.end → Contains (cached_under topic (after_expiry all now).entries) one) (cached_under topic all.entries)
  pub memories : IsPartOf (after_expiry all now).memories all.memories
  pub remembered : All (λ memory. now < memory.1.end → Contains (after_expiry all now).memories memory) all.memories

-- each expiry drops only what has ended
abbrev pub OnlyTheEndedGo : Type 0
OnlyTheEndedGo = (all : Discoveries) (now : ℕ) → IsDiscoveries all → KeepsTheRest all now

-- the locator is cached under this topic
abbrev pub IsCachedUnder : Topic → Discoveries → Locator → Type 0
IsCachedUnder topic all locator = Any (λ one. one.locator ≡ locator) (cached_under topic all.entries)

-- the response was asked for under this topic, and tells the locator
abbrev pub IsAnswer : Option (Answered × Topic) → List Locator → Topic → Locator → Type 0
IsAnswer asker locators topic locator = IfSome asker (λ it. it.1 ≡ topic) × Contains locators locator

-- after a response each locator that is cached under a topic was cached under it, or is one of the response's, which was
-- asked for under that topic
abbrev pub LocatorsAreAnswers : Type 0
LocatorsAreAnswers = (all : Discoveries) (own : Address) (origin : Origin) (last : ℕ) (locators : List Locator) (topic : Topic)
    → All (λ one. IsCachedUnder topic all one.locator ⊎ IsAnswer (asker_of all own origin) locators topic one.locator)
    (cached_under topic (after_answered all last locators (asker_of all own origin)).entries)

-- whoever looks for a topic, or asks what is known of it, is told locators that are cached under it
abbrev pub ToldIsCached : Type 0
ToldIsCached = (all : Discoveries) (topic : Topic)
    → ((asa : ℕ) → IfSome (locators_found (find_answer all asa topic)) (All (IsCachedUnder topic all)))
    × ((now : ℕ) → IfSome (known_of all topic now) (λ known. All (IsCachedUnder topic all) known.0))

-- a discovery that is remembered stays so through each call until its memory ends, and is known for so long
pub record IsRemembered (all : Discoveries) (memory : Origin × Memory) : Type 0 where
  pub known : heard_reply all memory.0 ≡ Known
  pub heard : (origin : Origin) (new : Memory) → Contains (after_heard all origin new (heard_reply all origin)).memories memory
  pub find : (asa : ℕ) (topic : Topic) → Contains (after_find all asa topic (find_answer all asa topic)).memories memory
  pub begin : (search : Search) → Contains (with_search all search).memories memory
  pub answered : (own : Address) (origin : Origin) (last : ℕ) (locators : List Locator)
      → Contains (after_answered all last locators (asker_of all own origin)).memories memory
  pub drop : (asa : ℕ) → Contains (without_asa all asa).memories memory
  pub expire : (now : ℕ) → now < memory.1.end → Contains (after_expiry all now).memories memory

-- a new discovery is remembered with its cause and its topic, and whatever is remembered stays so
abbrev pub RememberedStays : Type 0
RememberedStays = ((all : Discoveries) (origin : Origin) (memory : Memory) → Contains (after_heard all origin memory New).memories (origin, memory))
    × ((all : Discoveries) (memory : Origin × Memory) → Contains all.memories memory → IsRemembered all memory)
