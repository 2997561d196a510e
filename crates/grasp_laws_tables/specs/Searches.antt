-- How a search stands, what ends it, and who asked for a response (RFC 8990, section 2.5.4).
use Rattle.std.specs.Prelude.{◌≡◌, ◌≢◌, ℕ, ◌≤◌, true, false, [], ◌∷◌, ◌++◌, length, map, Option, Some, None, All, Any}
use Rattle.grasp_types.specs.declared.address.Address.{Address}
use Rattle.grasp_types.specs.declared.origin.Origin.{Origin}
use Rattle.grasp_types.specs.Reading.{reading_after}
use Rattle.grasp_discovery.specs.declared.answers.Answered.{Answered}
use Rattle.grasp_discovery.specs.declared.answers.Answered.TheVariants.{Mine, Relay, Stranger}
use Rattle.grasp_discovery.specs.declared.answers.Find.{Find}
use Rattle.grasp_discovery.specs.declared.answers.Find.TheVariants.{Found, NotYet, Nothing, Fresh}
use Rattle.grasp_discovery.specs.declared.search.Search.{Search}
use Rattle.grasp_discovery.specs.declared.topic.Topic.{Topic}
use Rattle.grasp_discovery.specs.Discoveries.{Discoveries, cached_under, find_answer, after_find, without_asa, search_from, with_search, asker_of}
use Rattle.grasp_laws_tables.specs.Dropping.{HasDropped}

-- the search is this agent's for this topic
abbrev pub IsSearchOf : ℕ → Topic → Search → Type 0
IsSearchOf asa topic search = (search.asa ≡ asa) × (search.topic ≡ topic)

-- what each answer says to an agent that looks for a topic: it is found where locators are cached, which are told; else
-- the agent's search goes on, or is over, or there is none
abbrev pub StandsSo : Discoveries → ℕ → Topic → Find → Type 0
StandsSo all asa topic (Found locators) = (locators ≡ map (λ one. one.locator) (cached_under topic all.entries)) × (1 ≤ length locators)
StandsSo all asa topic NotYet = (cached_under topic all.entries ≡ []) × Any (λ search. IsSearchOf asa topic search × (search.over ≡ false)) all.searches
StandsSo all asa topic Nothing = (cached_under topic all.entries ≡ []) × Any (λ search. IsSearchOf asa topic search × (search.over ≡ true)) all.searches
StandsSo all asa topic Fresh = (cached_under topic all.entries ≡ []) × All (λ search. ¬ IsSearchOf asa topic search) all.searches

-- the answer is one that holds
abbrev pub FindsSay : Type 0
FindsSay = (all : Discoveries) (asa : ℕ) (topic : Topic) → StandsSo all asa topic (find_answer all asa topic)

-- the searches of which this holds have gone, and nothing else
pub record DropsSearches (Gone : Search → Type 0) (all after : Discoveries) : Type 0 where
  pub searches : HasDropped Gone all.searches after.searches
  pub entries : after.entries ≡ all.entries
  pub memories : after.memories ≡ all.memories

-- what an answer ends: the agent's search for the topic, where it was found or there is nothing, and else nothing
abbrev pub EndsSo : Discoveries → ℕ → Topic → Find → Type 0
EndsSo all asa topic (Found locators) = DropsSearches (IsSearchOf asa topic) all (after_find all asa topic (Found locators))
EndsSo all asa topic NotYet = after_find all asa topic NotYet ≡ all
EndsSo all asa topic Nothing = DropsSearches (IsSearchOf asa topic) all (after_find all asa topic Nothing)
EndsSo all asa topic Fresh = after_find all asa topic Fresh ≡ all

-- a search that begins now: it ends after the timeout, and isn't over
pub record IsBegun (now agent : ℕ) (wanted : Topic) (number timeout : ℕ) (search : Search) : Type 0 where
  pub asa : search.asa ≡ agent
  pub topic : search.topic ≡ wanted
  pub session : search.session ≡ number
  pub end : search.end ≡ reading_after now timeout
  pub over : search.over ≡ false

-- how searches begin and end
pub record SearchesBeginAndEnd (all : Discoveries) : Type 0 where
  pub find : (asa : ℕ) (topic : Topic) (answer : Find) → EndsSo all asa topic answer
  pub leave : (asa : ℕ) → DropsSearches (λ search. search.asa ≡ asa) all (without_asa all asa)
  pub begun : (now asa : ℕ) (topic : Topic) (session timeout : ℕ) → IsBegun now asa topic session timeout (search_from now asa topic session timeout)
  -- a search that begins comes last, and all else is as it was
  pub last : (search : Search) → (with_search all search).searches ≡ all.searches ++ search ∷ []
  pub entries : (search : Search) → (with_search all search).entries ≡ all.entries
  pub memories : (search : Search) → (with_search all search).memories ≡ all.memories

-- at every node a search ends when its answer was given or its agent leaves, and a search that begins changes nothing else
abbrev pub SearchesEnd : Type 0
SearchesEnd = (all : Discoveries) → SearchesBeginAndEnd all

-- no search of this node has the number of this response
abbrev pub IsNotOwn : Discoveries → Address → Origin → Type 0
IsNotOwn all own origin = origin.initiator ≡ own → All (λ search. search.session ≢ origin.session) all.searches

-- who asked for a response: a search of this node, for its topic; else a remembered discovery, for its topic and by the
-- neighbour that caused it; or nobody
abbrev pub IsAskedBy : Discoveries → Address → Origin → Option (Answered × Topic) → Type 0
IsAskedBy all own origin (Some (Mine, topic)) =
    (origin.initiator ≡ own) × Any (λ search. (search.session ≡ origin.session) × (search.topic ≡ topic)) all.searches
IsAskedBy all own origin (Some (Relay cause, topic)) =
    IsNotOwn all own origin × Any (λ memory. (memory.0 ≡ origin) × (memory.1.cause ≡ cause) × (memory.1.topic ≡ topic)) all.memories
IsAskedBy all own origin (Some (Stranger, topic)) = ⊥
IsAskedBy all own origin None = IsNotOwn all own origin × All (λ memory. memory.0 ≢ origin) all.memories

-- the asker that is found for each response did ask for it, and where none is found nobody did
abbrev pub AskersAsked : Type 0
AskersAsked = (all : Discoveries) (own : Address) (origin : Origin) → IsAskedBy all own origin (asker_of all own origin)
