-- Whatever comes, searches, entries, locators and memories stay few, and each has a key of its own.
use Rattle.std.proofs.Common.{ltb-true, ◌≡◌, ℕ, ◌+◌, ◌<◌, ◌≤◌, Bool, true, false, cond, not, ◌||◌, ◌&&◌, ◌==◌, nat_lt, max, List, [], ◌∷◌, ◌++◌, length, map, filter, Option, Some, None, refl, ap, ◌∙◌, arith}
use Rattle.std.proofs.lemmas.Bool.{or_from, or_parts}
use Rattle.std.specs.Prelude.{All}
use Rattle.std.specs.List.{list_any}
use Rattle.std.specs.Cmp.{decided, unsigned_Decides}
use Rattle.std.proofs.lemmas.List.Elements.{All-nil, All-cons, All-head, All-tail}
use Rattle.grasp_cbor.proofs.Facts.Lists.{few_filter, length_map, length_push, any_filter}
use Rattle.grasp_types.specs.declared.address.Locator.{Locator}
use Rattle.grasp_types.specs.declared.origin.Origin.{Origin}
use Rattle.grasp_types.specs.Same.{same_origin}
use Rattle.grasp_types.proofs.Same.{same_origin_decides}
use Rattle.grasp_discovery.specs.declared.answers.Answered.{Answered}
use Rattle.grasp_discovery.specs.declared.answers.Find.{Find}
use Rattle.grasp_discovery.specs.declared.answers.Find.TheVariants.{Found, NotYet, Nothing, Fresh}
use Rattle.grasp_discovery.specs.declared.answers.Heard.TheVariants.{Known, NoPlace, New}
use Rattle.grasp_discovery.specs.declared.cached.Cached.{Cached}
use Rattle.grasp_discovery.specs.declared.memory.Memory.{Memory}
use Rattle.grasp_discovery.specs.declared.search.Search.{Search}
use Rattle.grasp_discovery.specs.declared.topic.Topic.{Topic}
use Rattle.grasp_types.specs.Same.{same_locator}
use Rattle.grasp_types.proofs.Same.{same_locator_decides}
use Rattle.grasp_discovery.specs.Topic.{same_topic}
use Rattle.grasp_discovery.proofs.SameTopics.{same_topic_decides}
use Rattle.grasp_discovery.specs.Discoveries.{Discoveries, no_discoveries, is_search_of, is_searching, is_full, without_asa, with_search, cached_under, has_topic, is_live, live, after_find, remembers, heard_reply, after_heard, put_locator, has_locator, keep_locator, keep_locators, put_entry, after_response, after_answered, after_reading, live_entry, has_any, after_expiry, AllDiffer, same_search, IsEntry, IsCache, IsDiscoveries}

-- Lists that are filtered

differ_filter : {X : Type 0} (same : X → X → Bool) (p : X → Bool) (xs : List X) → AllDiffer same xs → AllDiffer same (filter p xs)
differ_filter same p [] d = d
differ_filter same p (x ∷ xs) d =
    let rest = differ_filter same p xs d.1 in
    elim (p x) as (λ b. AllDiffer same (cond b (x ∷ filter p xs) (filter p xs))) [ true ↦ (any_filter (same x) p xs d.0, rest) | false ↦ rest ]

-- Lists through a function that keeps the keys

any_map : {X Y : Type 0} (f : X → Y) (t : Y → Bool) (xs : List X) → list_any t (map f xs) ≡ list_any (λ x. t (f x)) xs
any_map f t [] = refl
any_map f t (x ∷ xs) = ap (λ b. t (f x) || b) (any_map f t xs)

differ_map : {X Y : Type 0} (f : X → Y) (same : Y → Y → Bool) (xs : List X) → AllDiffer (λ a b. same (f a) (f b)) xs → AllDiffer same (map f xs)
differ_map f same [] d = d
differ_map f same (x ∷ xs) d = (any_map f (same (f x)) xs ∙ d.0, differ_map f same xs d.1)

-- One more at the end

any_push : {X : Type 0} (t : X → Bool) (xs : List X) (new : X) → list_any t xs ≡ false → t new ≡ false → list_any t (xs ++ new ∷ []) ≡ false
any_push t [] new e d = or_from (t new) false d refl
any_push t (x ∷ xs) new e d =
    let h = or_parts (t x) (list_any t xs) e in
    or_from (t x) (list_any t (xs ++ new ∷ [])) h.0 (any_push t xs new h.1 d)

differ_push : {X : Type 0} (same : X → X → Bool) → ((a b : X) → same a b ≡ same b a) → (xs : List X) (new : X) → list_any (same new) xs ≡ false → AllDiffer same xs → AllDiffer same (xs ++ new ∷ [])
differ_push same symm [] new e d = (refl, d)
differ_push same symm (x ∷ xs) new e d =
    let h = or_parts (same new x) (list_any (same new) xs) e in
    (any_push (same x) xs new d.0 (symm x new ∙ h.0), differ_push same symm xs new h.1 d.1)

-- Locators of an entry

abbrev one_locator : Cached → Cached → Bool
one_locator a b = same_locator a.locator b.locator

any_put_locator : (t : Locator → Bool) (new : Locator) (last : ℕ) (cs : List Cached) → list_any (λ c. t c.locator) cs ≡ false → t new ≡ false → list_any (λ c. t c.locator) (put_locator new last cs) ≡ false
any_put_locator t new last [] e d = or_from (t new) false d refl
any_put_locator t new last (c ∷ cs) e d =
    let h = or_parts (t c.locator) (list_any (λ c. t c.locator) cs) e in
    let rest = or_from (t c.locator) (list_any (λ c. t c.locator) (put_locator new last cs)) h.0 (any_put_locator t new last cs h.1 d) in
    elim (same_locator new c.locator) as (λ b. list_any (λ c. t c.locator) (cond b (record c { end = max c.end last } ∷ cs) (c ∷ put_locator new last cs)) ≡ false) [ true ↦ e | false ↦ rest ]

differ_put_locator : (new : Locator) (last : ℕ) (cs : List Cached) → AllDiffer one_locator cs → AllDiffer one_locator (put_locator new last cs)
differ_put_locator new last [] d = (refl, d)
differ_put_locator new last (c ∷ cs) d = by (same_locator new c.locator) refl (differ_put_locator new last cs d.1)
  where
    by : (b : Bool) → same_locator new c.locator ≡ b → AllDiffer one_locator (put_locator new last cs)
        → AllDiffer one_locator (cond b (record c { end = max c.end last } ∷ cs) (c ∷ put_locator new last cs))
    by true e rest = d
    by false e rest = (any_put_locator (same_locator c.locator) new last cs d.0 ((decided same_locator same_locator_decides).symm c.locator new ∙ e), rest)

length_put_locator : (new : Locator) (last : ℕ) (cs : List Cached) → length (put_locator new last cs) ≡ length cs + cond (has_locator new cs) 0 1
length_put_locator new last [] = refl
length_put_locator new last (c ∷ cs) =
    let rest = length_put_locator new last cs in
    elim (same_locator new c.locator) as (λ b. length (cond b (record c { end = max c.end last } ∷ cs) (c ∷ put_locator new last cs)) ≡ length (c ∷ cs) + cond (b || has_locator new cs) 0 1)
    [ true ↦ omega arith | false ↦ omega (arith, rest) ]

record IsFew (cs : List Cached) : Type 0 where
  few : length cs ≤ 8
  own : AllDiffer one_locator cs

few_keep : (last : ℕ) (cs : List Cached) (new : Locator) → IsFew cs → IsFew (keep_locator last cs new)
few_keep last cs new h = by (has_locator new cs) (nat_lt (length cs) 8) refl refl
  where
    by : (there room : Bool) → has_locator new cs ≡ there → nat_lt (length cs) 8 ≡ room → IsFew (cond (there || room) (put_locator new last cs) cs)
    by true room e l =
        let long = length_put_locator new last cs ∙ ap (λ b. length cs + cond b 0 1) e in
        record { few = omega (arith, long, h.few); own = differ_put_locator new last cs h.own }
    by false true e l =
        let long = length_put_locator new last cs ∙ ap (λ b. length cs + cond b 0 1) e in
        let room : length cs < 8 = ltb-true (length cs) 8 l in
        record { few = omega (arith, long, room); own = differ_put_locator new last cs h.own }
    by false false e l = h

few_keep_all : (last : ℕ) (ls : List Locator) (cs : List Cached) → IsFew cs → IsFew (keep_locators last cs ls)
few_keep_all last [] cs h = h
few_keep_all last (l ∷ ls) cs h = few_keep_all last ls (keep_locator last cs l) (few_keep last cs l h)

no_fewer_keep : (last : ℕ) (cs : List Cached) (new : Locator) → length cs ≤ length (keep_locator last cs new)
no_fewer_keep last cs new =
    let long = length_put_locator new last cs in
    elim (has_locator new cs || nat_lt (length cs) 8) as (λ b. length cs ≤ length (cond b (put_locator new last cs) cs)) [ true ↦ omega (arith, long) | false ↦ omega arith ]

no_fewer_keep_all : (last : ℕ) (ls : List Locator) (cs : List Cached) → length cs ≤ length (keep_locators last cs ls)
no_fewer_keep_all last [] cs = omega arith
no_fewer_keep_all last (l ∷ ls) cs =
    let first = no_fewer_keep last cs l in
    let rest = no_fewer_keep_all last ls (keep_locator last cs l) in
    omega (arith, first, rest)

some_keep : (last : ℕ) (cs : List Cached) (new : Locator) → 1 ≤ length (keep_locator last cs new)
some_keep last [] new = omega arith
some_keep last (c ∷ cs) new = let long = no_fewer_keep last (c ∷ cs) new in omega (arith, long)

some_keep_all : (last : ℕ) (ls : List Locator) (cs : List Cached) → 1 ≤ length ls → 1 ≤ length (keep_locators last cs ls)
some_keep_all last [] cs h = absurd (omega arith)
some_keep_all last (l ∷ ls) cs h =
    let first = some_keep last cs l in
    let rest = no_fewer_keep_all last ls (keep_locator last cs l) in
    omega (arith, first, rest)

-- Entries

abbrev one_topic : Topic × List Cached → Topic × List Cached → Bool
one_topic a b = same_topic a.0 b.0

few_under : (topic : Topic) (es : List (Topic × List Cached)) → All (λ e. IsEntry e.1) es → IsFew (cached_under topic es)
few_under topic [] h = record { few = omega arith; own = tt }
few_under topic (e ∷ es) h =
    let here = All-head (λ e. IsEntry e.1) e es h in
    let rest = few_under topic es (All-tail (λ e. IsEntry e.1) e es h) in
    elim (same_topic topic e.0) as (λ b. IsFew (cond b e.1 (cached_under topic es))) [ true ↦ record { few = here.few; own = here.own_locators } | false ↦ rest ]

any_put : (t : Topic → Bool) (topic : Topic) (cs : List Cached) (es : List (Topic × List Cached)) → list_any (λ e. t e.0) es ≡ false → t topic ≡ false → list_any (λ e. t e.0) (put_entry topic cs es) ≡ false
any_put t topic cs [] e d = or_from (t topic) false d refl
any_put t topic cs (x ∷ xs) e d =
    let h = or_parts (t x.0) (list_any (λ a. t a.0) xs) e in
    let rest = or_from (t x.0) (list_any (λ a. t a.0) (put_entry topic cs xs)) h.0 (any_put t topic cs xs h.1 d) in
    elim (same_topic topic x.0) as (λ b. list_any (λ a. t a.0) (cond b ((x.0, cs) ∷ xs) (x ∷ put_entry topic cs xs)) ≡ false) [ true ↦ e | false ↦ rest ]

differ_put : (topic : Topic) (cs : List Cached) (es : List (Topic × List Cached)) → AllDiffer one_topic es → AllDiffer one_topic (put_entry topic cs es)
differ_put topic cs [] d = (refl, d)
differ_put topic cs (x ∷ xs) d = by (same_topic topic x.0) refl (differ_put topic cs xs d.1)
  where
    by : (b : Bool) → same_topic topic x.0 ≡ b → AllDiffer one_topic (put_entry topic cs xs) → AllDiffer one_topic (cond b ((x.0, cs) ∷ xs) (x ∷ put_entry topic cs xs))
    by true e rest = d
    by false e rest = (any_put (same_topic x.0) topic cs xs d.0 ((decided same_topic same_topic_decides).symm x.0 topic ∙ e), rest)

length_put : (topic : Topic) (cs : List Cached) (es : List (Topic × List Cached)) → length (put_entry topic cs es) ≡ length es + cond (has_topic topic es) 0 1
length_put topic cs [] = refl
length_put topic cs (x ∷ xs) =
    let rest = length_put topic cs xs in
    elim (same_topic topic x.0) as (λ b. length (cond b ((x.0, cs) ∷ xs) (x ∷ put_entry topic cs xs)) ≡ length (x ∷ xs) + cond (b || has_topic topic xs) 0 1)
    [ true ↦ omega arith | false ↦ omega (arith, rest) ]

each_put : (topic : Topic) (cs : List Cached) (es : List (Topic × List Cached)) → IsEntry cs → All (λ e. IsEntry e.1) es → All (λ e. IsEntry e.1) (put_entry topic cs es)
each_put topic cs [] new h = All-cons (λ e. IsEntry e.1) (topic, cs) [] new h
each_put topic cs (x ∷ xs) new h =
    let here = All-head (λ e. IsEntry e.1) x xs h in
    let others = All-tail (λ e. IsEntry e.1) x xs h in
    let rest = each_put topic cs xs new others in
    elim (same_topic topic x.0) as (λ b. All (λ e. IsEntry e.1) (cond b ((x.0, cs) ∷ xs) (x ∷ put_entry topic cs xs)))
    [ true ↦ All-cons (λ e. IsEntry e.1) (x.0, cs) xs new others | false ↦ All-cons (λ e. IsEntry e.1) x (put_entry topic cs xs) here rest ]

-- a response that is kept
pub cache_response : (es : List (Topic × List Cached)) (topic : Topic) (last : ℕ) (ls : List Locator) → 1 ≤ length ls → IsCache es → IsCache (after_response es topic last ls)
cache_response es topic last ls some h = by (has_topic topic es) (nat_lt (length es) 128) refl refl
  where
    entry : IsEntry (keep_locators last (cached_under topic es) ls)
    entry = let few = few_keep_all last ls (cached_under topic es) (few_under topic es h.each) in
        record { some = some_keep_all last ls (cached_under topic es) some; few = few.few; own_locators = few.own }

    by : (there room : Bool) → has_topic topic es ≡ there → nat_lt (length es) 128 ≡ room
        → IsCache (cond (there || room) (put_entry topic (keep_locators last (cached_under topic es) ls) es) es)
    by true room e l =
        let long = length_put topic (keep_locators last (cached_under topic es) ls) es ∙ ap (λ b. length es + cond b 0 1) e in
        record { few = omega (arith, long, h.few); own_topics = differ_put topic _ es h.own_topics; each = each_put topic _ es entry h.each }
    by false true e l =
        let long = length_put topic (keep_locators last (cached_under topic es) ls) es ∙ ap (λ b. length es + cond b 0 1) e in
        let room : length es < 128 = ltb-true (length es) 128 l in
        record { few = omega (arith, long, room); own_topics = differ_put topic _ es h.own_topics; each = each_put topic _ es entry h.each }
    by false false e l = h

each_expiry : (now : ℕ) (es : List (Topic × List Cached)) → All (λ e. IsEntry e.1) es → All (λ e. IsEntry e.1) (filter has_any (map (live_entry now) es))
each_expiry now [] h = h
each_expiry now (e ∷ es) h = by (has_any (live_entry now e)) refl (All-head (λ e. IsEntry e.1) e es h) (each_expiry now es (All-tail (λ e. IsEntry e.1) e es h))
  where
    by : (b : Bool) → has_any (live_entry now e) ≡ b → IsEntry e.1 → All (λ e. IsEntry e.1) (filter has_any (map (live_entry now) es))
        → All (λ e. IsEntry e.1) (cond b (live_entry now e ∷ filter has_any (map (live_entry now) es)) (filter has_any (map (live_entry now) es)))
    by true t here rest =
        let any : 0 < length (live now e.1) = ltb-true 0 (length (live now e.1)) t in
        All-cons (λ e. IsEntry e.1) (live_entry now e) (filter has_any (map (live_entry now) es))
        (record { some = omega (arith, any); few = few_filter (is_live now) e.1 8 here.few; own_locators = differ_filter one_locator (is_live now) e.1 here.own_locators })
        rest
    by false t here rest = rest

cache_expiry : (now : ℕ) (es : List (Topic × List Cached)) → IsCache es → IsCache (filter has_any (map (live_entry now) es))
cache_expiry now es h =
    let same = length_map (live_entry now) es in
    record {
      few = few_filter has_any (map (live_entry now) es) 128 (omega (arith, same, h.few));
      own_topics = differ_filter one_topic has_any (map (live_entry now) es) (differ_map (live_entry now) one_topic es h.own_topics);
      each = each_expiry now es h.each;
    }

-- Searches

same_search_symm : (a b : Search) → same_search a b ≡ same_search b a
same_search_symm a b =
    ap (λ t. t && same_topic a.topic b.topic) ((decided (λ m n. m == n) unsigned_Decides).symm b.asa a.asa)
    ∙ ap (λ t. (a.asa == b.asa) && t) ((decided same_topic same_topic_decides).symm a.topic b.topic)

pub sound_fewer : (all : Discoveries) (p : Search → Bool) → IsDiscoveries all → IsDiscoveries (record all { searches = filter p all.searches })
sound_fewer all p s = record {
  few_searches = few_filter p all.searches 64 s.few_searches;
  own_searches = differ_filter same_search p all.searches s.own_searches;
  cache = s.cache;
  few_memories = s.few_memories;
  own_origins = s.own_origins;
}

pub sound_more : (all : Discoveries) (search : Search) → is_searching all search.asa search.topic ≡ false → length all.searches < 64 → IsDiscoveries all → IsDiscoveries (with_search all search)
sound_more all search none room s =
    let one = length_push all.searches search in
    record {
      few_searches = omega (arith, one, room);
      own_searches = differ_push same_search same_search_symm all.searches search none s.own_searches;
      cache = s.cache;
      few_memories = s.few_memories;
      own_origins = s.own_origins;
    }

-- The calls

pub sound_none : IsDiscoveries no_discoveries
sound_none = record {
  few_searches = omega arith;
  own_searches = tt;
  cache = record { few = omega arith; own_topics = tt; each = All-nil (λ e. IsEntry e.1) };
  few_memories = omega arith;
  own_origins = tt;
}

pub sound_remember : (all : Discoveries) (origin : Origin) (memory : Memory) → remembers all origin ≡ false → length all.memories < 256 → IsDiscoveries all
    → IsDiscoveries (record all { memories = all.memories ++ (origin, memory) ∷ [] })
sound_remember all origin memory unknown room s =
    let one = length_push all.memories (origin, memory) in
    record {
      few_searches = s.few_searches;
      own_searches = s.own_searches;
      cache = s.cache;
      few_memories = omega (arith, one, room);
      own_origins = differ_push (λ a b. same_origin a.0 b.0) (λ a b. (decided same_origin same_origin_decides).symm a.0 b.0) all.memories (origin, memory) unknown s.own_origins;
    }

pub sound_cache : (all : Discoveries) (es : List (Topic × List Cached)) → IsCache es → IsDiscoveries all → IsDiscoveries (record all { entries = es })
sound_cache all es h s = record { few_searches = s.few_searches; own_searches = s.own_searches; cache = h; few_memories = s.few_memories; own_origins = s.own_origins }

pub sound_expiry : (all : Discoveries) (now : ℕ) → IsDiscoveries all → IsDiscoveries (after_expiry all now)
sound_expiry all now s =
    let same = length_map (after_reading now) all.searches in
    record {
      few_searches = omega (arith, same, s.few_searches);
      own_searches = differ_map (after_reading now) same_search all.searches s.own_searches;
      cache = cache_expiry now all.entries s.cache;
      few_memories = few_filter (λ memory. nat_lt now memory.1.end) all.memories 256 s.few_memories;
      own_origins = differ_filter (λ a b. same_origin a.0 b.0) (λ memory. nat_lt now memory.1.end) all.memories s.own_origins;
    }

pub sound_find : (all : Discoveries) (asa : ℕ) (topic : Topic) (answer : Find) → IsDiscoveries all → IsDiscoveries (after_find all asa topic answer)
sound_find all asa topic (Found locators) s = sound_fewer all (λ search. not (is_search_of asa topic search)) s
sound_find all asa topic NotYet s = s
sound_find all asa topic Nothing s = sound_fewer all (λ search. not (is_search_of asa topic search)) s
sound_find all asa topic Fresh s = s

pub sound_heard : (all : Discoveries) (origin : Origin) (memory : Memory) → IsDiscoveries all → IsDiscoveries (after_heard all origin memory (heard_reply all origin))
sound_heard all origin memory s = by (remembers all origin) (nat_lt (length all.memories) 256) refl refl
  where
    by : (known room : Bool) → remembers all origin ≡ known → nat_lt (length all.memories) 256 ≡ room
        → IsDiscoveries (after_heard all origin memory (cond known Known (cond room New NoPlace)))
    by true room e l = s
    by false true e l = sound_remember all origin memory e (ltb-true (length all.memories) 256 l) s
    by false false e l = s

pub sound_answered : (all : Discoveries) (last : ℕ) (ls : List Locator) (asker : Option (Answered × Topic)) → 1 ≤ length ls → IsDiscoveries all → IsDiscoveries (after_answered all last ls asker)
sound_answered all last ls (Some asker) some s = sound_cache all (after_response all.entries asker.1 last ls) (cache_response all.entries asker.1 last ls some s.cache) s
sound_answered all last ls None some s = s

pub sound_begin : (all : Discoveries) (search : Search) → is_searching all search.asa search.topic ≡ false → is_full all ≡ false → IsDiscoveries all → IsDiscoveries (with_search all search)
sound_begin all search none room s =
    let few : length all.searches < 64 = grind (arith, s.few_searches, room) in
    sound_more all search none few s

pub sound_drop : (all : Discoveries) (asa : ℕ) → IsDiscoveries all → IsDiscoveries (without_asa all asa)
sound_drop all asa s = sound_fewer all (λ search. not (search.asa == asa)) s
