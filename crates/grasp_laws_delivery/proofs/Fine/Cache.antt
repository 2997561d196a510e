-- The locators that a node caches are within their ranges.
use Rattle.std.proofs.Common.{◌||◌, nat_lt, ℕ, ◌-◌, ◌≤◌, ◌<◌, ◌^◌, Bool, true, false, cond, max, min, List, [], ◌∷◌, length, map, fold, Option, None, Some, arith, All}
use Rattle.std.specs.Prelude.{option_map}
use Rattle.std.proofs.Math.Nat.{min-le_left}
use Rattle.std.proofs.lemmas.List.Elements.{All-nil, All-cons, All-head, All-tail, All-map, All-filter, All-weaker}
use Rattle.grasp_discovery.specs.Discoveries.{Discoveries, cached_under, locators_of, is_live, live, least_left, known_of, has_locator, put_locator, keep_locator, keep_locators, put_entry, has_place, after_response, after_answered, live_entry, has_any, after_expiry}
use Rattle.grasp_discovery.specs.Topic.{same_topic}
use Rattle.grasp_discovery.specs.declared.answers.Answered.{Answered}
use Rattle.grasp_discovery.specs.declared.cached.Cached.{Cached}
use Rattle.grasp_discovery.specs.declared.topic.Topic.{Topic}
use Rattle.grasp_types.specs.Address.{IsLocator}
use Rattle.grasp_types.specs.Message.{AreLocators}
use Rattle.grasp_types.specs.Same.{same_locator}
use Rattle.grasp_types.specs.declared.address.Locator.{Locator}

abbrev pub IsCached : Cached → Type 0
IsCached one = IsLocator one.locator

abbrev pub IsKept : Topic × List Cached → Type 0
IsKept entry = All IsCached entry.1

abbrev pub AreKept : Discoveries → Type 0
AreKept d = All IsKept d.entries

under_is : (topic : Topic) (entries : List (Topic × List Cached)) → All IsKept entries → All IsCached (cached_under topic entries)
under_is topic [] all = All-nil IsCached
under_is topic (entry ∷ rest) all = by_test (same_topic topic entry.0) (under_is topic rest (All-tail IsKept entry rest all)) where
  by_test : (b : Bool) → All IsCached (cached_under topic rest) → All IsCached (cond b entry.1 (cached_under topic rest))
  by_test true k = All-head IsKept entry rest all
  by_test false k = k

put_is : (new : Locator) (last : ℕ) (cached : List Cached) → IsLocator new → All IsCached cached → All IsCached (put_locator new last cached)
put_is new last [] is all = All-cons IsCached (record { locator = new; end = last }) [] is (All-nil IsCached)
put_is new last (old ∷ rest) is all = by_test (same_locator new old.locator) (put_is new last rest is (All-tail IsCached old rest all)) where
  by_test : (b : Bool) → All IsCached (put_locator new last rest) → All IsCached (cond b (record old { end = max old.end last } ∷ rest) (old ∷ put_locator new last rest))
  by_test true k = All-cons IsCached (record old { end = max old.end last }) rest (All-head IsCached old rest all) (All-tail IsCached old rest all)
  by_test false k = All-cons IsCached old (put_locator new last rest) (All-head IsCached old rest all) k

keep_is : (last : ℕ) (cached : List Cached) (locator : Locator) → IsLocator locator → All IsCached cached → All IsCached (keep_locator last cached locator)
keep_is last cached locator is all = by_test (has_locator locator cached || nat_lt (length cached) 8) where
  by_test : (b : Bool) → All IsCached (cond b (put_locator locator last cached) cached)
  by_test true = put_is locator last cached is all
  by_test false = all

keeps_are : (last : ℕ) (locators : List Locator) (cached : List Cached) → All IsLocator locators → All IsCached cached → All IsCached (keep_locators last cached locators)
keeps_are last [] cached are all = all
keeps_are last (l ∷ ls) cached are all =
    keeps_are last ls (keep_locator last cached l) (All-tail IsLocator l ls are) (keep_is last cached l (All-head IsLocator l ls are) all)

entry_is : (topic : Topic) (cached : List Cached) (entries : List (Topic × List Cached)) → All IsCached cached → All IsKept entries → All IsKept (put_entry topic cached entries)
entry_is topic cached [] is all = All-cons IsKept (topic, cached) [] is (All-nil IsKept)
entry_is topic cached (old ∷ rest) is all = by_test (same_topic topic old.0) (entry_is topic cached rest is (All-tail IsKept old rest all)) where
  by_test : (b : Bool) → All IsKept (put_entry topic cached rest) → All IsKept (cond b ((old.0, cached) ∷ rest) (old ∷ put_entry topic cached rest))
  by_test true k = All-cons IsKept (old.0, cached) rest is (All-tail IsKept old rest all)
  by_test false k = All-cons IsKept old (put_entry topic cached rest) (All-head IsKept old rest all) k

response_is : (entries : List (Topic × List Cached)) (topic : Topic) (last : ℕ) (locators : List Locator) → All IsLocator locators → All IsKept entries → All IsKept (after_response entries topic last locators)
response_is entries topic last locators are all = by_test (has_place topic entries) where
  by_test : (b : Bool) → All IsKept (cond b (put_entry topic (keep_locators last (cached_under topic entries) locators) entries) entries)
  by_test true = entry_is topic (keep_locators last (cached_under topic entries) locators) entries (keeps_are last locators (cached_under topic entries) are (under_is topic entries all)) all
  by_test false = all

pub answered_kept : (d : Discoveries) (last : ℕ) (locators : List Locator) (asker : Option (Answered × Topic)) → All IsLocator locators → AreKept d → AreKept (after_answered d last locators asker)
answered_kept d last locators (Some asker) are all = response_is d.entries asker.1 last locators are all
answered_kept d last locators None are all = all

pub expiry_kept : (d : Discoveries) (now : ℕ) → AreKept d → AreKept (after_expiry d now)
expiry_kept d now all =
    All-filter has_any IsKept (map (live_entry now) d.entries)
    (All-map IsKept (live_entry now) d.entries (All-weaker IsKept (λ entry. IsKept (live_entry now entry)) (λ entry k. All-filter (is_live now) IsCached entry.1 k) d.entries all))

-- ---- what is known

abbrev pub IsKnown : Option (List Locator × ℕ) → Type 0
IsKnown None = Unit {0}
IsKnown (Some known) = AreLocators known.0 × (known.1 < 2 ^ 32)

some_there : {A : Type 0} (x : A) (xs : List A) → 1 ≤ length (x ∷ xs)
some_there x xs = omega arith

least_small : (now : ℕ) (cached : List Cached) (n : ℕ) → fold (λ least (one : Cached). min least (one.end - now)) n cached ≤ n
least_small now [] n = omega arith
least_small now (one ∷ rest) n =
    let a : fold (λ least (x : Cached). min least (x.end - now)) (min n (one.end - now)) rest ≤ min n (one.end - now) = least_small now rest (min n (one.end - now)) in
    let b = min-le_left n (one.end - now) in
    omega (arith, a, b)

below_2_32 : (n : ℕ) → n ≤ 4294967295 → n < 2 ^ 32
below_2_32 n h = omega (arith, h)

locators_are : (cached : List Cached) (ttl : ℕ) → ttl < 2 ^ 32 → All IsCached cached → IsKnown (option_map (λ locators. (locators, ttl)) (locators_of cached))
locators_are [] ttl h all = tt
locators_are (one ∷ rest) ttl h all = (
  record {
    some = some_there one.locator (map (λ (x : Cached). x.locator) rest);
    each = All-map IsLocator (λ (x : Cached). x.locator) (one ∷ rest) all;
  },
  h,
)

pub known_is : (d : Discoveries) (topic : Topic) (now : ℕ) → AreKept d → IsKnown (known_of d topic now)
known_is d topic now all =
    locators_are (live now (cached_under topic d.entries)) (least_left now (live now (cached_under topic d.entries)))
    (below_2_32 (least_left now (live now (cached_under topic d.entries))) (least_small now (live now (cached_under topic d.entries)) 4294967295))
    (All-filter (is_live now) IsCached (cached_under topic d.entries) (under_is topic d.entries all))
