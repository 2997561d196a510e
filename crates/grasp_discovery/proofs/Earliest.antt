-- Nothing of a node's discoveries ends before a reading.
use Rattle.std.proofs.Common.{◌≡◌, ℕ, ◌+◌, ◌<◌, ◌≤◌, Bool, true, false, cond, not, ◌||◌, nat_lt, max, List, [], ◌∷◌, length, map, filter, take, Some, slice_get, refl, sym, ap, ◌∙◌, lt-ltb, subst, arith}
use Rattle.std.specs.Prelude.{All}
use Rattle.std.proofs.lemmas.List.Elements.{All-nil, All-cons, All-head, All-tail, All-push, All-weaker}
use Rattle.grasp_cbor.proofs.Places.{take_got}
use Rattle.grasp_types.specs.declared.address.Locator.{Locator}
use Rattle.grasp_types.specs.declared.origin.Origin.{Origin}
use Rattle.grasp_types.specs.Same.{same_locator}
use Rattle.grasp_discovery.specs.declared.cached.Cached.{Cached}
use Rattle.grasp_discovery.specs.declared.memory.Memory.{Memory}
use Rattle.grasp_discovery.specs.declared.search.Search.{Search}
use Rattle.grasp_discovery.specs.declared.topic.Topic.{Topic}
use Rattle.grasp_discovery.specs.Topic.{same_topic}
use Rattle.grasp_discovery.specs.Discoveries.{Discoveries, IsEntry, cached_under, has_locator, put_locator, keep_locator, keep_locators, has_place, put_entry, after_response, is_live, live_entry, has_any, after_reading, after_expiry}

-- each of these that isn't over is so at this reading or later
abbrev pub SearchesFrom : ℕ → List Search → Type 0
SearchesFrom first ss = All (λ s. s.over ≡ false → first ≤ s.end) ss

-- each of these ends at this reading or later
abbrev pub CachedFrom : ℕ → List Cached → Type 0
CachedFrom first cs = All (λ one. first ≤ one.end) cs

-- each locator of these ends at this reading or later
abbrev pub EntriesFrom : ℕ → List (Topic × List Cached) → Type 0
EntriesFrom first es = All (λ e. All (λ one. first ≤ one.end) e.1) es

-- each of these ends at this reading or later
abbrev pub MemoriesFrom : ℕ → List (Origin × Memory) → Type 0
MemoriesFrom first ms = All (λ m. first ≤ m.1.end) ms

-- An earlier reading

pub searches_before : (a b : ℕ) (ss : List Search) → a ≤ b → SearchesFrom b ss → SearchesFrom a ss
searches_before a b ss le h = All-weaker (λ s. s.over ≡ false → b ≤ s.end) (λ s. s.over ≡ false → a ≤ s.end) (λ s here e. let there = here e in omega arith) ss h

pub cached_before : (a b : ℕ) (cs : List Cached) → a ≤ b → CachedFrom b cs → CachedFrom a cs
cached_before a b cs le h = All-weaker (λ one. b ≤ one.end) (λ one. a ≤ one.end) (λ one here. omega arith) cs h

pub entries_before : (a b : ℕ) (es : List (Topic × List Cached)) → a ≤ b → EntriesFrom b es → EntriesFrom a es
entries_before a b es le h = All-weaker (λ e. CachedFrom b e.1) (λ e. CachedFrom a e.1) (λ e here. cached_before a b e.1 le here) es h

pub memories_before : (a b : ℕ) (ms : List (Origin × Memory)) → a ≤ b → MemoriesFrom b ms → MemoriesFrom a ms
memories_before a b ms le h = All-weaker (λ m. b ≤ m.1.end) (λ m. a ≤ m.1.end) (λ m here. omega arith) ms h

-- one more of a list of which what came before ends later
pub more_from : {X : Type 0} (P Q : X → Type 0) (xs : List X) (i : ℕ) (x : X) → slice_get xs i ≡ Some x → ((y : X) → P y → Q y) → Q x → All P (take i xs) → All Q (take (i + 1) xs)
more_from P Q xs i x at weaker one h = subst (All Q) (sym (take_got xs i x at)) (All-push Q (take i xs) x (All-weaker P Q weaker (take i xs) h) one)

-- A response that is kept

put_locator_from : (first : ℕ) (new : Locator) (last : ℕ) (cs : List Cached) → first ≤ last → CachedFrom first cs → CachedFrom first (put_locator new last cs)
put_locator_from first new last [] le h = All-cons (λ one. first ≤ one.end) (record { locator = new; end = last }) [] le h
put_locator_from first new last (c ∷ cs) le h =
    let here = All-head (λ one. first ≤ one.end) c cs h in
    let others = All-tail (λ one. first ≤ one.end) c cs h in
    let rest = put_locator_from first new last cs le others in
    elim (same_locator new c.locator) as (λ b. CachedFrom first (cond b (record c { end = max c.end last } ∷ cs) (c ∷ put_locator new last cs))) [
      | true ↦ All-cons (λ one. first ≤ one.end) (record c { end = max c.end last }) cs (omega arith) others
      | false ↦ All-cons (λ one. first ≤ one.end) c (put_locator new last cs) here rest
    ]

keep_from : (first last : ℕ) (cs : List Cached) (new : Locator) → first ≤ last → CachedFrom first cs → CachedFrom first (keep_locator last cs new)
keep_from first last cs new le h =
    let put_in = put_locator_from first new last cs le h in
    elim (has_locator new cs || nat_lt (length cs) 8) as (λ b. CachedFrom first (cond b (put_locator new last cs) cs)) [ true ↦ put_in | false ↦ h ]

keep_all_from : (first last : ℕ) (ls : List Locator) (cs : List Cached) → first ≤ last → CachedFrom first cs → CachedFrom first (keep_locators last cs ls)
keep_all_from first last [] cs le h = h
keep_all_from first last (l ∷ ls) cs le h = keep_all_from first last ls (keep_locator last cs l) le (keep_from first last cs l le h)

under_from : (first : ℕ) (topic : Topic) (es : List (Topic × List Cached)) → EntriesFrom first es → CachedFrom first (cached_under topic es)
under_from first topic [] h = All-nil (λ one. first ≤ one.end)
under_from first topic (e ∷ es) h =
    let here = All-head (λ e. CachedFrom first e.1) e es h in
    let rest = under_from first topic es (All-tail (λ e. CachedFrom first e.1) e es h) in
    elim (same_topic topic e.0) as (λ b. CachedFrom first (cond b e.1 (cached_under topic es))) [ true ↦ here | false ↦ rest ]

put_entry_from : (first : ℕ) (topic : Topic) (cs : List Cached) (es : List (Topic × List Cached)) → CachedFrom first cs → EntriesFrom first es → EntriesFrom first (put_entry topic cs es)
put_entry_from first topic cs [] new h = All-cons (λ e. CachedFrom first e.1) (topic, cs) [] new h
put_entry_from first topic cs (e ∷ es) new h =
    let here = All-head (λ e. CachedFrom first e.1) e es h in
    let others = All-tail (λ e. CachedFrom first e.1) e es h in
    let rest = put_entry_from first topic cs es new others in
    elim (same_topic topic e.0) as (λ b. EntriesFrom first (cond b ((e.0, cs) ∷ es) (e ∷ put_entry topic cs es))) [
      | true ↦ All-cons (λ e. CachedFrom first e.1) (e.0, cs) es new others
      | false ↦ All-cons (λ e. CachedFrom first e.1) e (put_entry topic cs es) here rest
    ]

pub response_from : (first : ℕ) (es : List (Topic × List Cached)) (topic : Topic) (last : ℕ) (ls : List Locator) → first ≤ last → EntriesFrom first es → EntriesFrom first (after_response es topic last ls)
response_from first es topic last ls le h =
    let cached = keep_all_from first last ls (cached_under topic es) le (under_from first topic es h) in
    let put_in = put_entry_from first topic (keep_locators last (cached_under topic es) ls) es cached h in
    elim (has_place topic es) as (λ b. EntriesFrom first (cond b (put_entry topic (keep_locators last (cached_under topic es) ls) es) es)) [ true ↦ put_in | false ↦ h ]

-- An expiry before that reading

all_pass : {X : Type 0} (p : X → Bool) (xs : List X) → All (λ x. p x ≡ true) xs → filter p xs ≡ xs
all_pass p [] h = refl
all_pass p (x ∷ xs) h =
    let rest = all_pass p xs (All-tail (λ x. p x ≡ true) x xs h) in
    ap (λ b. cond b (x ∷ filter p xs) (filter p xs)) (All-head (λ x. p x ≡ true) x xs h) ∙ ap (λ zs. x ∷ zs) rest

marked_before : (first now : ℕ) (s : Search) → now < first → (s.over ≡ false → first ≤ s.end) → (s.over || not (nat_lt now s.end)) ≡ s.over
marked_before first now s lt h = by s.over refl
  where
    by : (b : Bool) → s.over ≡ b → (b || not (nat_lt now s.end)) ≡ b
    by true e = refl
    by false e = let there = h e in ap not (lt-ltb now s.end (omega arith))

searches_stay : (first now : ℕ) (ss : List Search) → now < first → SearchesFrom first ss → map (after_reading now) ss ≡ ss
searches_stay first now [] lt h = refl
searches_stay first now (s ∷ ss) lt h =
    let here = marked_before first now s lt (All-head (λ s. s.over ≡ false → first ≤ s.end) s ss h) in
    let rest = searches_stay first now ss lt (All-tail (λ s. s.over ≡ false → first ≤ s.end) s ss h) in
    λ i. record s { over = here i } ∷ rest i

cached_stay : (first now : ℕ) (cs : List Cached) → now < first → CachedFrom first cs → filter (is_live now) cs ≡ cs
cached_stay first now cs lt h = all_pass (is_live now) cs (All-weaker (λ one. first ≤ one.end) (λ one. is_live now one ≡ true) (λ one here. lt-ltb now one.end (omega arith)) cs h)

some_any : (cs : List Cached) → 1 ≤ length cs → nat_lt 0 (length cs) ≡ true
some_any cs some = lt-ltb 0 (length cs) (omega arith)

entries_stay : (first now : ℕ) (es : List (Topic × List Cached)) → now < first → All (λ e. IsEntry e.1) es → EntriesFrom first es → filter has_any (map (live_entry now) es) ≡ es
entries_stay first now [] lt each h = refl
entries_stay first now (e ∷ es) lt each h =
    let same = cached_stay first now e.1 lt (All-head (λ e. CachedFrom first e.1) e es h) in
    let any = some_any e.1 (All-head (λ e. IsEntry e.1) e es each).some in
    let rest = entries_stay first now es lt (All-tail (λ e. IsEntry e.1) e es each) (All-tail (λ e. CachedFrom first e.1) e es h) in
    ap (λ (cs : List Cached). cond (nat_lt 0 (length cs)) ((e.0, cs) ∷ filter has_any (map (live_entry now) es)) (filter has_any (map (live_entry now) es))) same
    ∙ ap (λ b. cond b (e ∷ filter has_any (map (live_entry now) es)) (filter has_any (map (live_entry now) es))) any
    ∙ ap (λ zs. e ∷ zs) rest

memories_stay : (first now : ℕ) (ms : List (Origin × Memory)) → now < first → MemoriesFrom first ms → filter (λ m. nat_lt now m.1.end) ms ≡ ms
memories_stay first now ms lt h = all_pass (λ m. nat_lt now m.1.end) ms (All-weaker (λ m. first ≤ m.1.end) (λ m. nat_lt now m.1.end ≡ true) (λ m here. lt-ltb now m.1.end (omega arith)) ms h)

-- nothing has ended before the first of all ends
pub nothing_ends : (all : Discoveries) (first now : ℕ) → All (λ e. IsEntry e.1) all.entries → SearchesFrom first all.searches → EntriesFrom first all.entries → MemoriesFrom first all.memories → now < first
    → after_expiry all now ≡ all
nothing_ends all first now each searches entries memories lt = λ i. record {
  searches = searches_stay first now all.searches lt searches i;
  entries = entries_stay first now all.entries lt each entries i;
  memories = memories_stay first now all.memories lt memories i;
}
