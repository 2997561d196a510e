-- How a search stands, what ends it, and who asked for a response.
use Rattle.std.proofs.Common.{◌≡◌, ◌≢◌, ℕ, Bool, true, false, cond, not, nat_eq, List, [], ◌∷◌, map, filter, Option, Some, None, All, refl, sym, ap, ◌∙◌, true≢false, arith, eq-eqb}
use Rattle.std.proofs.lemmas.Bool.{and_from, and_parts}
use Rattle.std.specs.Prelude.{Any, find}
use Rattle.std.proofs.lemmas.List.Elements.{All-nil, All-cons, All-weaker}
use Rattle.grasp_types.specs.declared.address.Address.{Address}
use Rattle.grasp_types.specs.declared.origin.Origin.{Origin}
use Rattle.grasp_types.specs.Same.{same_address, same_origin}
use Rattle.grasp_types.proofs.Same.{same_address_decides, same_origin_decides}
use Rattle.grasp_discovery.specs.declared.answers.Find.{Find}
use Rattle.grasp_discovery.specs.declared.answers.Find.TheVariants.{Found, NotYet, Nothing, Fresh}
use Rattle.grasp_discovery.specs.declared.cached.Cached.{Cached}
use Rattle.grasp_discovery.specs.declared.memory.Memory.{Memory}
use Rattle.grasp_discovery.specs.declared.search.Search.{Search}
use Rattle.grasp_discovery.specs.declared.topic.Topic.{Topic}
use Rattle.grasp_discovery.specs.Topic.{same_topic}
use Rattle.grasp_discovery.specs.Discoveries.{Discoveries, is_search_of, is_numbered, cached_under, locators_of, find_reply, memory_of, own_search, asked}
use Rattle.grasp_discovery.proofs.SameTopics.{same_topic_decides}
use Rattle.grasp_laws_tables.specs.Searches.{IsSearchOf, StandsSo, FindsSay, DropsSearches, EndsSo, SearchesEnd, IsNotOwn, IsAskedBy, AskersAsked}
use Rattle.grasp_laws_tables.proofs.Lists.{any_here, any_later, any_weaker, found_one, found_none, not_where, has_dropped}

-- What the tests mean

search_means : (asa : ℕ) (topic : Topic) (search : Search) → is_search_of asa topic search ≡ true → IsSearchOf asa topic search
search_means asa topic search e =
    let h = and_parts (nat_eq search.asa asa) (same_topic topic search.topic) e in
    let number : search.asa ≡ asa = grind (arith, h.0) in
    (number, sym ((same_topic_decides topic search.topic).0 h.1))

is_search : (asa : ℕ) (topic : Topic) (search : Search) → IsSearchOf asa topic search → is_search_of asa topic search ≡ true
is_search asa topic search (a, t) = and_from (nat_eq search.asa asa) (same_topic topic search.topic) (eq-eqb search.asa asa a) ((same_topic_decides topic search.topic).1 (sym t))

-- How a search stands

this_search : (asa : ℕ) (topic : Topic) (x : Search) (over : Bool) → x.over ≡ over → (search : Search) → (search ≡ x) × (is_search_of asa topic search ≡ true)
    → IsSearchOf asa topic search × (search.over ≡ over)
this_search asa topic x over e search h = (search_means asa topic search h.1, ap (λ s. s.over) h.0 ∙ e)

pub finds_say : FindsSay
finds_say all asa topic = by (cached_under topic all.entries) refl (find (is_search_of asa topic) all.searches) refl
  where
    stands : (x : Search) (over : Bool) → cached_under topic all.entries ≡ [] → find (is_search_of asa topic) all.searches ≡ Some x → x.over ≡ over
        → StandsSo all asa topic (cond over Nothing NotYet)
    stands x true none e h = (
      none,
      any_weaker (λ search. (search ≡ x) × (is_search_of asa topic search ≡ true)) (λ search. IsSearchOf asa topic search × (search.over ≡ true))
          (this_search asa topic x true h) all.searches (found_one (is_search_of asa topic) all.searches x e),
    )
    stands x false none e h = (
      none,
      any_weaker (λ search. (search ≡ x) × (is_search_of asa topic search ≡ true)) (λ search. IsSearchOf asa topic search × (search.over ≡ false))
          (this_search asa topic x false h) all.searches (found_one (is_search_of asa topic) all.searches x e),
    )

    by : (cs : List Cached) → cached_under topic all.entries ≡ cs → (one : Option Search) → find (is_search_of asa topic) all.searches ≡ one
        → StandsSo all asa topic (find_reply (locators_of cs) one)
    by (c ∷ cs) here one e = (sym (ap (map (λ x. x.locator)) here), omega arith)
    by [] here None e = (
      here,
      All-weaker (λ search. is_search_of asa topic search ≡ false) (λ search. ¬ IsSearchOf asa topic search)
          (λ search. not_where (is_search_of asa topic search) (IsSearchOf asa topic search) (is_search asa topic search)) all.searches (found_none (is_search_of asa topic) all.searches e),
    )
    by [] here (Some x) e = stands x x.over here e refl

-- What ends a search

abbrev without : (Search → Bool) → Discoveries → Discoveries
without p all = record all { searches = filter (λ search. not (p search)) all.searches }

drops : (p : Search → Bool) (Gone : Search → Type 0) → ((search : Search) → p search ≡ true → Gone search) → ((search : Search) → Gone search → p search ≡ true)
    → (all : Discoveries) → DropsSearches Gone all (without p all)
drops p Gone means is all = record { searches = has_dropped p Gone means is all.searches; entries = refl; memories = refl }

ends_so : (all : Discoveries) (asa : ℕ) (topic : Topic) (answer : Find) → EndsSo all asa topic answer
ends_so all asa topic (Found locators) = drops (is_search_of asa topic) (IsSearchOf asa topic) (search_means asa topic) (is_search asa topic) all
ends_so all asa topic NotYet = refl
ends_so all asa topic Nothing = drops (is_search_of asa topic) (IsSearchOf asa topic) (search_means asa topic) (is_search asa topic) all
ends_so all asa topic Fresh = refl

agent_means : (asa : ℕ) (search : Search) → nat_eq search.asa asa ≡ true → search.asa ≡ asa
agent_means asa search e = grind (arith, e)

pub searches_end : SearchesEnd
searches_end all = record {
  find = ends_so all;
  leave = λ asa. drops (λ search. nat_eq search.asa asa) (λ search. search.asa ≡ asa) (agent_means asa) (λ search. eq-eqb search.asa asa) all;
  begun = λ now asa topic session timeout. record { asa = refl; topic = refl; session = refl; end = refl; over = refl };
  last = λ search. refl;
  entries = λ search. refl;
  memories = λ search. refl;
}

-- Who asked for a response

session_means : (session : ℕ) (search : Search) → is_numbered session search ≡ true → search.session ≡ session
session_means session search e = grind (arith, e)

-- the memory of a discovery, where it is remembered
abbrev Remembers : Origin → List (Origin × Memory) → Option Memory → Type 0
Remembers origin memories None = All (λ memory. memory.0 ≢ origin) memories
Remembers origin memories (Some m) = Any (λ memory. (memory.0 ≡ origin) × (memory.1.cause ≡ m.cause) × (memory.1.topic ≡ m.topic)) memories

pub other_origin : (origin : Origin) (memory : Origin × Memory) → same_origin origin memory.0 ≡ false → memory.0 ≢ origin
other_origin origin memory e same = true≢false (sym ((same_origin_decides origin memory.0).1 (sym same)) ∙ e)

remembers_more : (origin : Origin) (memory : Origin × Memory) (rest : List (Origin × Memory)) (found : Option Memory) → memory.0 ≢ origin
    → Remembers origin rest found → Remembers origin (memory ∷ rest) found
remembers_more origin memory rest None other all = All-cons (λ m. m.0 ≢ origin) memory rest other all
remembers_more origin memory rest (Some m) other a = any_later (λ n. (n.0 ≡ origin) × (n.1.cause ≡ m.cause) × (n.1.topic ≡ m.topic)) memory rest a

remembered : (origin : Origin) (memories : List (Origin × Memory)) → Remembers origin memories (memory_of origin memories)
remembered origin [] = All-nil (λ memory. memory.0 ≢ origin)
remembered origin (memory ∷ rest) = by (same_origin origin memory.0) refl (remembered origin rest)
  where
    by : (b : Bool) → same_origin origin memory.0 ≡ b → Remembers origin rest (memory_of origin rest)
        → Remembers origin (memory ∷ rest) (cond b (Some memory.1) (memory_of origin rest))
    by true e more =
        any_here (λ n. (n.0 ≡ origin) × (n.1.cause ≡ memory.1.cause) × (n.1.topic ≡ memory.1.topic)) memory rest (sym ((same_origin_decides origin memory.0).0 e), refl, refl)
    by false e more = remembers_more origin memory rest (memory_of origin rest) (other_origin origin memory e) more

-- a search of this node has the response's number and this search's topic; or, where there is none, no search of the node has that number
abbrev OwnSearch : Discoveries → Address → Origin → Option Search → Type 0
OwnSearch all own origin None = IsNotOwn all own origin
OwnSearch all own origin (Some x) = (origin.initiator ≡ own) × Any (λ search. (search.session ≡ origin.session) × (search.topic ≡ x.topic)) all.searches

own_means : (all : Discoveries) (own : Address) (origin : Origin) → OwnSearch all own origin (own_search all own origin)
own_means all own origin = by (same_address own origin.initiator) refl (find (is_numbered origin.session) all.searches) refl
  where
    by : (b : Bool) → same_address own origin.initiator ≡ b → (one : Option Search) → find (is_numbered origin.session) all.searches ≡ one
        → OwnSearch all own origin (cond b one None)
    by true e None none = λ same. All-weaker (λ search. is_numbered origin.session search ≡ false) (λ search. search.session ≢ origin.session)
        (λ search. not_where (is_numbered origin.session search) (search.session ≡ origin.session) (eq-eqb search.session origin.session)) all.searches
        (found_none (is_numbered origin.session) all.searches none)
    by true e (Some x) one = (
      sym ((same_address_decides own origin.initiator).0 e),
      any_weaker (λ search. (search ≡ x) × (is_numbered origin.session search ≡ true)) (λ search. (search.session ≡ origin.session) × (search.topic ≡ x.topic))
          (λ search h. (session_means origin.session search h.1, ap (λ s. s.topic) h.0)) all.searches (found_one (is_numbered origin.session) all.searches x one),
    )
    by false e one _ = λ same. absurd (true≢false (sym ((same_address_decides own origin.initiator).1 (sym same)) ∙ e))

pub askers_asked : AskersAsked
askers_asked all own origin = by (own_search all own origin) (memory_of origin all.memories) (own_means all own origin) (remembered origin all.memories)
  where
    by : (search : Option Search) (memory : Option Memory) → OwnSearch all own origin search → Remembers origin all.memories memory
        → IsAskedBy all own origin (asked search memory)
    by (Some x) memory mine there = mine
    by None (Some m) other there = (other, there)
    by None None other there = (other, there)
