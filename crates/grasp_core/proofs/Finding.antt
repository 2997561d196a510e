-- What is known of an objective, and what is forgotten of one.
use Rattle.std.proofs.Common.{◌≡◌, ◌≤◌, ℕ, Bool, true, false, not, List, [], ◌∷◌, length, filter, Option, refl, ap, All, arith}
use Rattle.std.proofs.lemmas.List.Elements.{All-head, All-tail}
use Rattle.grasp_discovery.specs.Discoveries.{Discoveries, IsDiscoveries, IsEntry, has_topic, cached_under, locators_of, find_reply, find_answer}
use Rattle.grasp_discovery.specs.Topic.{same_topic}
use Rattle.grasp_discovery.specs.declared.cached.Cached.{Cached}
use Rattle.grasp_discovery.specs.declared.search.Search.{Search}
use Rattle.grasp_discovery.specs.declared.topic.Topic.{Topic}
use Rattle.grasp_flood.specs.Flood.{same_key}
use Rattle.grasp_flood.specs.Floods.{Floods, has_key, after_drop}
use Rattle.grasp_flood.specs.declared.keys.FloodKey.{FloodKey}
use Rattle.grasp_flood.specs.declared.kept.FloodKept.{FloodKept}
use Rattle.grasp_model_node.specs.FloodCalls.{is_fresh}

-- an entry has a locator
some_cached : (topic : Topic) (entries : List (Topic × List Cached)) → All (λ entry. IsEntry entry.1) entries → has_topic topic entries ≡ true → 1 ≤ length (cached_under topic entries)
some_cached topic [] a e = absurd (cc)
some_cached topic (entry ∷ rest) a e = by_same (same_topic topic entry.0) refl (λ f. some_cached topic rest (All-tail (λ (x : Topic × List Cached). IsEntry x.1) entry rest a) f) where
  by_same : (b : Bool) → same_topic topic entry.0 ≡ b → (has_topic topic rest ≡ true → 1 ≤ length (cached_under topic rest)) → 1 ≤ length (cached_under topic (entry ∷ rest))
  by_same true s f = rw s (All-head (λ (x : Topic × List Cached). IsEntry x.1) entry rest a).some
  by_same false s f = rw s (f (rw s at e))

found_some : (cached : List Cached) (search : Option Search) → 1 ≤ length cached → is_fresh (find_reply (locators_of cached) search) ≡ false
found_some [] search h = absurd (omega arith)
found_some (x ∷ xs) search h = refl

-- where there is an entry no search is to begin
pub cached_found : (all : Discoveries) (asa : ℕ) (topic : Topic) → IsDiscoveries all → has_topic topic all.entries ≡ true → is_fresh (find_answer all asa topic) ≡ false
cached_found all asa topic s e = found_some (cached_under topic all.entries) _ (some_cached topic all.entries s.cache.each e)

keeps_all : (key : FloodKey) (entries : List (FloodKey × FloodKept)) → has_key key entries ≡ false → filter (λ entry. not (same_key key entry.0)) entries ≡ entries
keeps_all key [] e = refl
keeps_all key (entry ∷ rest) e = by_same (same_key key entry.0) refl (λ f. keeps_all key rest f) where
  by_same : (b : Bool) → same_key key entry.0 ≡ b → (has_key key rest ≡ false → filter (λ other. not (same_key key other.0)) rest ≡ rest) → filter (λ other. not (same_key key other.0)) (entry ∷ rest) ≡ entry ∷ rest
  by_same true s f = let k = rw s at e in absurd (cc)
  by_same false s f = rw s (ap (λ others. entry ∷ others) (f (rw s at e)))

-- where nothing is kept under a key nothing is forgotten
pub drops_nothing : (floods : Floods) (key : FloodKey) → has_key key floods.entries ≡ false → after_drop floods key ≡ floods
drops_nothing floods key e = ap (λ entries. record floods { entries = entries }) (keeps_all key floods.entries e)
