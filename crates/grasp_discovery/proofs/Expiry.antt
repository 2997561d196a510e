-- What an expiry leaves.
use Rattle.std.proofs.Common.{◌≡◌, ℕ, ◌<◌, ◌≤◌, Bool, true, false, cond, not, ◌||◌, nat_lt, List, [], ◌∷◌, length, map, filter, Option, Some, None, option_map, refl, ap, ◌∙◌, ltb-true, arith}
use Rattle.std.specs.Prelude.{All, find, slice_index_or}
use Rattle.std.proofs.lemmas.List.Elements.{All-nil, All-cons, All-map, filter_passes}
use Rattle.grasp_cbor.proofs.Facts.Lists.{filter_twice}
use Rattle.grasp_types.specs.declared.address.Locator.{Locator}
use Rattle.grasp_discovery.specs.declared.answers.Find.TheVariants.{NotYet, Nothing}
use Rattle.grasp_discovery.specs.declared.cached.Cached.{Cached}
use Rattle.grasp_discovery.specs.declared.search.Search.{Search}
use Rattle.grasp_discovery.specs.declared.topic.Topic.{Topic}
use Rattle.grasp_discovery.specs.Topic.{same_topic}
use Rattle.grasp_discovery.specs.Discoveries.{Discoveries, is_search_of, cached_under, locators_of, is_live, live, least_left, known_of, find_reply, find_answer, after_reading, live_entry, has_any, after_expiry}
use Rattle.grasp_discovery.specs.Laws.{locators_found}

-- Twice is once

or_twice : (s t : Bool) → ((s || t) || t) ≡ (s || t)
or_twice true t = refl
or_twice false true = refl
or_twice false false = refl

marked_twice : (now : ℕ) (xs : List Search) → map (after_reading now) (map (after_reading now) xs) ≡ map (after_reading now) xs
marked_twice now [] = refl
marked_twice now (x ∷ xs) = λ i. record x { over = or_twice x.over (not (nat_lt now x.end)) i } ∷ marked_twice now xs i

live_twice : (now : ℕ) (e : Topic × List Cached) → live_entry now (live_entry now e) ≡ live_entry now e
live_twice now e = ap (λ cs. (e.0, cs)) (filter_twice (is_live now) e.1)

entries_twice : (now : ℕ) (es : List (Topic × List Cached)) → filter has_any (map (live_entry now) (filter has_any (map (live_entry now) es))) ≡ filter has_any (map (live_entry now) es)
entries_twice now [] = refl
entries_twice now (e ∷ es) = by (has_any (live_entry now e)) refl (entries_twice now es)
  where
    by : (b : Bool) → has_any (live_entry now e) ≡ b
        → filter has_any (map (live_entry now) (filter has_any (map (live_entry now) es))) ≡ filter has_any (map (live_entry now) es)
        → filter has_any (map (live_entry now) (cond b (live_entry now e ∷ filter has_any (map (live_entry now) es)) (filter has_any (map (live_entry now) es))))
        ≡ cond b (live_entry now e ∷ filter has_any (map (live_entry now) es)) (filter has_any (map (live_entry now) es))
    by true h rest =
        let same = live_twice now e in
        ap (λ x. cond (has_any x) (x ∷ filter has_any (map (live_entry now) (filter has_any (map (live_entry now) es)))) (filter has_any (map (live_entry now) (filter has_any (map (live_entry now) es))))) same
        ∙ ap (λ b. cond b (live_entry now e ∷ filter has_any (map (live_entry now) (filter has_any (map (live_entry now) es)))) (filter has_any (map (live_entry now) (filter has_any (map (live_entry now) es))))) h
        ∙ ap (λ xs. live_entry now e ∷ xs) rest
    by false h rest = rest

pub expiry_twice : (all : Discoveries) (now : ℕ) → after_expiry (after_expiry all now) now ≡ after_expiry all now
expiry_twice all now = λ i. record {
  searches = marked_twice now all.searches i;
  entries = entries_twice now all.entries i;
  memories = filter_twice (λ memory. nat_lt now memory.1.end) all.memories i;
}

-- What has ended is gone

over_when_due : (now : ℕ) (x : Search) → (after_reading now x).end ≤ now → (after_reading now x).over ≡ true
over_when_due now x due =
    let no : nat_lt now x.end ≡ false = grind (arith, due) in
    ap (λ b. x.over || not b) no ∙ either x.over
  where
    either : (b : Bool) → (b || true) ≡ true
    either true = refl
    either false = refl

live_all : (now : ℕ) (cs : List Cached) → All (λ one. now < one.end) (live now cs)
live_all now cs = λ k d h. ltb-true now _ (filter_passes (is_live now) cs k d h)

live_entries : (now : ℕ) (es : List (Topic × List Cached)) → All (λ e. (1 ≤ length e.1) × All (λ one. now < one.end) e.1) (filter has_any (map (live_entry now) es))
live_entries now [] = All-nil (λ e. (1 ≤ length e.1) × All (λ one. now < one.end) e.1)
live_entries now (e ∷ es) = by (has_any (live_entry now e)) refl (live_entries now es)
  where
    by : (b : Bool) → has_any (live_entry now e) ≡ b → All (λ e. (1 ≤ length e.1) × All (λ one. now < one.end) e.1) (filter has_any (map (live_entry now) es))
        → All (λ e. (1 ≤ length e.1) × All (λ one. now < one.end) e.1) (cond b (live_entry now e ∷ filter has_any (map (live_entry now) es)) (filter has_any (map (live_entry now) es)))
    by true h rest =
        let any : 0 < length (live now e.1) = ltb-true 0 (length (live now e.1)) h in
        All-cons (λ e. (1 ≤ length e.1) × All (λ one. now < one.end) e.1) (live_entry now e) (filter has_any (map (live_entry now) es)) (omega (arith, any), live_all now e.1) rest
    by false h rest = rest

pub nothing_ended : (all : Discoveries) (now : ℕ)
    → All (λ search. search.end ≤ now → search.over ≡ true) (after_expiry all now).searches
    × All (λ entry. (1 ≤ length entry.1) × All (λ one. now < one.end) entry.1) (after_expiry all now).entries
    × All (λ memory. now < memory.1.end) (after_expiry all now).memories
nothing_ended all now = (
  All-map (λ search. search.end ≤ now → search.over ≡ true) (after_reading now) all.searches (λ k d h. over_when_due now (slice_index_or all.searches k d)),
  live_entries now all.entries,
  λ k d h. ltb-true now _ (filter_passes (λ memory. nat_lt now memory.1.end) all.memories k d h),
)

-- What is known is found

live_under : (now : ℕ) (topic : Topic) (es : List (Topic × List Cached)) → live now (cached_under topic (filter has_any (map (live_entry now) es))) ≡ cached_under topic (filter has_any (map (live_entry now) es))
live_under now topic [] = refl
live_under now topic (e ∷ es) = by (has_any (live_entry now e)) (same_topic topic e.0) (live_under now topic es)
  where
    by : (b s : Bool) → live now (cached_under topic (filter has_any (map (live_entry now) es))) ≡ cached_under topic (filter has_any (map (live_entry now) es))
        → live now (cached_under topic (cond b (live_entry now e ∷ filter has_any (map (live_entry now) es)) (filter has_any (map (live_entry now) es))))
        ≡ cached_under topic (cond b (live_entry now e ∷ filter has_any (map (live_entry now) es)) (filter has_any (map (live_entry now) es)))
    by false s rest = rest
    by true s rest = elim (same_topic topic e.0) as (λ s. live now (cond s (live now e.1) (cached_under topic (filter has_any (map (live_entry now) es)))) ≡ cond s (live now e.1) (cached_under topic (filter has_any (map (live_entry now) es))))
        [ true ↦ filter_twice (is_live now) e.1 | false ↦ rest ]

first_found : (ls : Option (List Locator)) (least : ℕ) (search : Option Search) → option_map (λ (known : List Locator × ℕ). known.0) (option_map (λ locators. (locators, least)) ls) ≡ locators_found (find_reply ls search)
first_found (Some ls) least one = refl
first_found None least (Some one) = elim one.over as (λ b. None ≡ locators_found (cond b Nothing NotYet)) [ true ↦ refl | false ↦ refl ]
first_found None least None = refl

pub known_found : (all : Discoveries) (now asa : ℕ) (topic : Topic) → option_map (λ (known : List Locator × ℕ). known.0) (known_of (after_expiry all now) topic now) ≡ locators_found (find_answer (after_expiry all now) asa topic)
known_found all now asa topic =
    let here = cached_under topic (after_expiry all now).entries in
    let search = find (is_search_of asa topic) (after_expiry all now).searches in
    first_found (locators_of (live now here)) (least_left now (live now here)) search
    ∙ ap (λ cs. locators_found (find_reply (locators_of cs) search)) (live_under now topic all.entries)
