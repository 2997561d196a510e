-- What responses and expiries leave in the cache, what is told of it, and what is remembered.
use Rattle.std.proofs.Common.{◌≡◌, ℕ, ◌<◌, ◌≤◌, Bool, true, false, cond, not, ◌||◌, nat_lt, max, List, [], ◌∷◌, length, map}
use Rattle.std.proofs.Common.{filter, get_or}
use Rattle.std.proofs.Common.{Option, Some, None, IfSome, option_map, All, ◌⊎◌, inl, inr, refl, sym, ap, ◌∙◌, subst, true≢false, arith, lt-ltb}
use Rattle.std.proofs.lemmas.Bool.{or_left, or_cases, or_parts}
use Rattle.std.specs.Prelude.{Contains, find}
use Rattle.std.specs.List.{AllZip}
use Rattle.std.proofs.lemmas.List.Elements.{All-cons, All-head, All-tail, All-map, Contains-push, Contains-append_left}
use Rattle.std.proofs.lemmas.List.Folds.{list_any_at}
use Rattle.grasp_cbor.proofs.Facts.Lists.{stands_at, filter_keeps, all_stay}
use Rattle.grasp_types.specs.declared.address.Locator.{Locator}
use Rattle.grasp_types.specs.declared.origin.Origin.{Origin}
use Rattle.grasp_types.specs.Same.{same_locator, same_origin}
use Rattle.grasp_types.proofs.Same.{same_origin_decides}
use Rattle.grasp_discovery.specs.declared.answers.Answered.{Answered}
use Rattle.grasp_discovery.specs.declared.answers.Find.{Find}
use Rattle.grasp_discovery.specs.declared.answers.Find.TheVariants.{Found, NotYet, Nothing}
use Rattle.grasp_discovery.specs.declared.answers.Heard.TheVariants.{Known, NoPlace, New}
use Rattle.grasp_discovery.specs.declared.cached.Cached.{Cached}
use Rattle.grasp_discovery.specs.declared.memory.Memory.{Memory}
use Rattle.grasp_discovery.specs.declared.search.Search.{Search}
use Rattle.grasp_discovery.specs.declared.topic.Topic.{Topic}
use Rattle.grasp_discovery.specs.Topic.{same_topic}
use Rattle.grasp_discovery.specs.Discoveries.{Discoveries, is_search_of, cached_under, has_topic, some_of, locators_of, is_live, live, least_left}
use Rattle.grasp_discovery.specs.Discoveries.{find_reply, find_answer, after_find}
use Rattle.grasp_discovery.specs.Discoveries.{remembers, after_heard, asker_of, has_locator, put_locator, keep_locator, keep_locators}
use Rattle.grasp_discovery.specs.Discoveries.{put_entry, has_place, after_answered}
use Rattle.grasp_discovery.specs.Discoveries.{after_reading, live_entry, has_any, AllDiffer, IsDiscoveries}
use Rattle.grasp_discovery.specs.Laws.{locators_found, IsPartOf, IsSameSearch, KeepsTheRest, OnlyTheEndedGo, IsCachedUnder, IsAnswer}
use Rattle.grasp_discovery.specs.Laws.{LocatorsAreAnswers, ToldIsCached, IsRemembered, RememberedStays}
use Rattle.grasp_discovery.proofs.SameTopics.{same_topic_decides}
use Rattle.grasp_discovery.proofs.Memories.{is_known}

-- What a filter leaves

part_filter : {X : Type 0} (p : X → Bool) (xs : List X) → IsPartOf (filter p xs) xs
part_filter p [] = refl
part_filter p (x ∷ xs) = let rest = part_filter p xs in
    elim (p x) as (λ b. IsPartOf (cond b (x ∷ filter p xs) (filter p xs)) (x ∷ xs)) [ true ↦ inr (filter p xs, refl, rest) | false ↦ inl rest ]

-- Searches

same_search : (now : ℕ) (search : Search) → IsSameSearch now search (after_reading now search)
same_search now search = (
  refl,
  or_left search.over (not (nat_lt now search.end)),
  λ h. elim (or_cases search.over (not (nat_lt now search.end)) h) as (λ _. (search.over ≡ true) ⊎ (search.end ≤ now)) [
    | inl over ↦ inl over
    | inr come ↦ let due : search.end ≤ now = grind (arith, come) in inr due
  ],
)

same_searches : (now : ℕ) (xs : List Search) → AllZip (IsSameSearch now) xs (map (after_reading now) xs)
same_searches now [] = tt
same_searches now (x ∷ xs) = (same_search now x, same_searches now xs)

-- Locators under a topic

under_none : (topic : Topic) (es : List (Topic × List Cached)) → has_topic topic es ≡ false → cached_under topic es ≡ []
under_none topic [] none = refl
under_none topic (e ∷ es) none =
    let h = or_parts (same_topic topic e.0) (has_topic topic es) none in
    ap (λ b. cond b e.1 (cached_under topic es)) h.0 ∙ under_none topic es h.1

none_left : {X : Type 0} (xs : List X) → nat_lt 0 (length xs) ≡ false → xs ≡ []
none_left [] h = refl
none_left (x ∷ xs) h = let some : nat_lt 0 (length (x ∷ xs)) ≡ true = lt-ltb 0 (length (x ∷ xs)) (omega arith) in absurd (true≢false (sym some ∙ h))

-- what is cached under a topic after an expiry is what ends later
under_expiry : (now : ℕ) (topic : Topic) (es : List (Topic × List Cached)) → AllDiffer (λ a b. same_topic a.0 b.0) es
    → cached_under topic (filter has_any (map (live_entry now) es)) ≡ live now (cached_under topic es)
under_expiry now topic [] d = refl
under_expiry now topic (e ∷ es) d = by (has_any (live_entry now e)) (same_topic topic e.0) refl refl (under_expiry now topic es d.1)
  where
    by : (h s : Bool) → has_any (live_entry now e) ≡ h → same_topic topic e.0 ≡ s
        → cached_under topic (filter has_any (map (live_entry now) es)) ≡ live now (cached_under topic es)
        → cached_under topic (cond h (live_entry now e ∷ filter has_any (map (live_entry now) es)) (filter has_any (map (live_entry now) es)))
        ≡ live now (cond s e.1 (cached_under topic es))
    by true true any same rest = ap (λ b. cond b (live now e.1) (cached_under topic (filter has_any (map (live_entry now) es)))) same
    by true false any same rest = ap (λ b. cond b (live now e.1) (cached_under topic (filter has_any (map (live_entry now) es)))) same ∙ rest
    by false true any same rest =
        let other : has_topic topic es ≡ false = ap (λ t. has_topic t es) ((same_topic_decides topic e.0).0 same) ∙ d.0 in
        rest ∙ ap (live now) (under_none topic es other) ∙ sym (none_left (live now e.1) any)
    by false false any same rest = rest

part_topics : (now : ℕ) (es : List (Topic × List Cached)) → IsPartOf (map (λ e. e.0) (filter has_any (map (live_entry now) es))) (map (λ e. e.0) es)
part_topics now [] = refl
part_topics now (e ∷ es) = let rest = part_topics now es in
    elim (has_any (live_entry now e)) as (λ b. IsPartOf
    (map (λ x. x.0) (cond b (live_entry now e ∷ filter has_any (map (live_entry now) es)) (filter has_any (map (live_entry now) es))))
    (e.0 ∷ map (λ x. x.0) es)) [
      | true ↦ inr (map (λ x. x.0) (filter has_any (map (live_entry now) es)), refl, rest)
      | false ↦ inl rest
    ]

keeps_the_rest : (all : Discoveries) (now : ℕ) → IsDiscoveries all → KeepsTheRest all now
keeps_the_rest all now is =
    let under = λ (topic : Topic). under_expiry now topic all.entries is.cache.own_topics in
    record {
      searches = same_searches now all.searches;
      topics = part_topics now all.entries;
      locators = λ topic. subst (λ cs. IsPartOf cs (cached_under topic all.entries)) (sym (under topic))
          (part_filter (is_live now) (cached_under topic all.entries));
      live = λ topic. subst (λ cs. All (λ one. now < one.end → Contains cs one) (cached_under topic all.entries)) (sym (under topic))
          (all_stay (is_live now) (λ one. now < one.end) (λ one. lt-ltb now one.end) (cached_under topic all.entries));
      memories = part_filter (λ memory. nat_lt now memory.1.end) all.memories;
      remembered = all_stay (λ memory. nat_lt now memory.1.end) (λ memory. now < memory.1.end) (λ memory. lt-ltb now memory.1.end) all.memories;
    }

pub only_the_ended : OnlyTheEndedGo
only_the_ended = keeps_the_rest

-- Where locators come from

module _ (P : Locator → Type 0) where
  all_put_locator : (new : Locator) (last : ℕ) (cs : List Cached) → P new → All (λ one. P one.locator) cs → All (λ one. P one.locator) (put_locator new last cs)
  all_put_locator new last [] h all = All-cons (λ one. P one.locator) (record { locator = new; end = last }) [] h all
  all_put_locator new last (c ∷ cs) h all =
      let here = All-head (λ one. P one.locator) c cs all in
      let others = All-tail (λ one. P one.locator) c cs all in
      let rest = all_put_locator new last cs h others in
      elim (same_locator new c.locator) as (λ b. All (λ one. P one.locator) (cond b (record c { end = max c.end last } ∷ cs) (c ∷ put_locator new last cs))) [
        | true ↦ All-cons (λ one. P one.locator) (record c { end = max c.end last }) cs here others
        | false ↦ All-cons (λ one. P one.locator) c (put_locator new last cs) here rest
      ]

  all_keep_locator : (last : ℕ) (cs : List Cached) (new : Locator) → P new → All (λ one. P one.locator) cs
      → All (λ one. P one.locator) (keep_locator last cs new)
  all_keep_locator last cs new h all =
      let with_new = all_put_locator new last cs h all in
      elim (has_locator new cs || nat_lt (length cs) 8) as (λ b. All (λ one. P one.locator) (cond b (put_locator new last cs) cs))
      [ true ↦ with_new | false ↦ all ]

  all_keep_locators : (last : ℕ) (ls : List Locator) (cs : List Cached) → All P ls → All (λ one. P one.locator) cs
      → All (λ one. P one.locator) (keep_locators last cs ls)
  all_keep_locators last [] cs new all = all
  all_keep_locators last (l ∷ ls) cs new all =
      all_keep_locators last ls (keep_locator last cs l) (All-tail P l ls new) (all_keep_locator last cs l (All-head P l ls new) all)

-- what is cached under another topic than the one that is put stays
under_put : (P : Cached → Type 0) (topic at : Topic) (cs : List Cached) (es : List (Topic × List Cached)) → (same_topic at topic ≡ true → All P cs)
    → All P (cached_under at es)
    → All P (cached_under at (put_entry topic cs es))
under_put P topic at cs [] new all = by (same_topic at topic) refl
  where
    by : (b : Bool) → same_topic at topic ≡ b → All P (cond b cs [])
    by true e = new e
    by false e = all
under_put P topic at cs (e ∷ es) new all =
    by (same_topic topic e.0) (same_topic at e.0) refl refl (λ rest. under_put P topic at cs es new rest) all
  where
    by : (b s : Bool) → same_topic topic e.0 ≡ b → same_topic at e.0 ≡ s → (All P (cached_under at es) → All P (cached_under at (put_entry topic cs es)))
        → All P (cond s e.1 (cached_under at es))
        → All P (cached_under at (cond b ((e.0, cs) ∷ es) (e ∷ put_entry topic cs es)))
    by true true t s rest old =
        let same : same_topic at topic ≡ true = ap (same_topic at) ((same_topic_decides topic e.0).0 t) ∙ s in
        subst (λ b. All P (cond b cs (cached_under at es))) (sym s) (new same)
    by true false t s rest old = subst (λ b. All P (cond b cs (cached_under at es))) (sym s) old
    by false true t s rest old = subst (λ b. All P (cond b e.1 (cached_under at (put_entry topic cs es)))) (sym s) old
    by false false t s rest old = subst (λ b. All P (cond b e.1 (cached_under at (put_entry topic cs es)))) (sym s) (rest old)

-- the locator was cached under the topic, or the response that was asked for under it tells it
abbrev IsReal : Discoveries → Option (Answered × Topic) → List Locator → Topic → Locator → Type 0
IsReal all asker locators topic locator = IsCachedUnder topic all locator ⊎ IsAnswer asker locators topic locator

cached_is_real : (all : Discoveries) (asker : Option (Answered × Topic)) (ls : List Locator) (topic : Topic)
    → All (λ one. IsReal all asker ls topic one.locator) (cached_under topic all.entries)
cached_is_real all asker ls topic =
    λ k d h. inl (k, get_or (cached_under topic all.entries) k d, h, stands_at (cached_under topic all.entries) k d h, refl)

told_is_real : (all : Discoveries) (who : Answered) (ls : List Locator) (asked topic : Topic) → asked ≡ topic → All (IsReal all (Some (who, asked)) ls topic) ls
told_is_real all who ls asked topic same = λ k d h. inr (same, (k, h, stands_at ls k d h))

answers_real : (all : Discoveries) (last : ℕ) (ls : List Locator) (asker : Option (Answered × Topic)) (topic : Topic)
    → All (λ one. IsReal all asker ls topic one.locator) (cached_under topic (after_answered all last ls asker).entries)
answers_real all last ls None topic = cached_is_real all None ls topic
answers_real all last ls (Some (who, asked)) topic =
    let old = cached_is_real all (Some (who, asked)) ls topic in
    let new = λ (e : same_topic topic asked ≡ true).
    let same : asked ≡ topic = sym ((same_topic_decides topic asked).0 e) in
    all_keep_locators (IsReal all (Some (who, asked)) ls topic) last ls (cached_under asked all.entries) (told_is_real all who ls asked topic same)
    (subst (λ t. All (λ one. IsReal all (Some (who, asked)) ls topic one.locator) (cached_under t all.entries)) (sym same) old) in
    let placed = under_put (λ one. IsReal all (Some (who, asked)) ls topic one.locator) asked topic
    (keep_locators last (cached_under asked all.entries) ls) all.entries new old in
    elim (has_place asked all.entries) as (λ b. All (λ one. IsReal all (Some (who, asked)) ls topic one.locator)
    (cached_under topic (cond b (put_entry asked (keep_locators last (cached_under asked all.entries) ls) all.entries) all.entries)))
    [ true ↦ placed | false ↦ old ]

pub locators_answers : LocatorsAreAnswers
locators_answers all own origin last ls topic = answers_real all last ls (asker_of all own origin) topic

-- What is told

some_all : {X : Type 0} (P : X → Type 0) (xs : List X) → All P xs → IfSome (some_of xs) (All P)
some_all P [] all = tt
some_all P (x ∷ xs) all = all

found_all : (P : Locator → Type 0) (ls : Option (List Locator)) (search : Option Search) → IfSome ls (All P)
    → IfSome (locators_found (find_reply ls search)) (All P)
found_all P (Some ls) search all = all
found_all P None (Some search) all = elim search.over as (λ b. IfSome (locators_found (cond b Nothing NotYet)) (All P)) [ true ↦ tt | false ↦ tt ]
found_all P None None all = tt

known_all : (P : Locator → Type 0) (ls : Option (List Locator)) (least : ℕ) → IfSome ls (All P)
    → IfSome (option_map (λ locators. (locators, least)) ls) (λ (known : List Locator × ℕ). All P known.0)
known_all P (Some ls) least all = all
known_all P None least all = tt

all_cached : (all : Discoveries) (topic : Topic) → All (λ one. IsCachedUnder topic all one.locator) (cached_under topic all.entries)
all_cached all topic = λ k d h. (k, get_or (cached_under topic all.entries) k d, h, stands_at (cached_under topic all.entries) k d h, refl)

locators_all : (P : Locator → Type 0) (cs : List Cached) → All (λ one. P one.locator) cs → IfSome (locators_of cs) (All P)
locators_all P cs all = some_all P (map (λ one. one.locator) cs) (All-map P (λ one. one.locator) cs all)

all_filter : {X : Type 0} (p : X → Bool) (P : X → Type 0) (xs : List X) → All P xs → All P (filter p xs)
all_filter p P [] all = all
all_filter p P (x ∷ xs) all =
    let here = All-head P x xs all in
    let rest = all_filter p P xs (All-tail P x xs all) in
    elim (p x) as (λ b. All P (cond b (x ∷ filter p xs) (filter p xs))) [ true ↦ All-cons P x (filter p xs) here rest | false ↦ rest ]

pub told_cached : ToldIsCached
told_cached all topic =
    let cs = cached_under topic all.entries in
    let P = IsCachedUnder topic all in (
      λ asa. found_all P (locators_of cs) (find (is_search_of asa topic) all.searches) (locators_all P cs (all_cached all topic)),
      λ now. known_all P (locators_of (live now cs)) (least_left now (live now cs))
          (locators_all P (live now cs) (all_filter (is_live now) (λ one. P one.locator) cs (all_cached all topic))),
    )

-- What is remembered

stays_heard : (all : Discoveries) (memory : Origin × Memory) (origin : Origin) (new : Memory) (known room : Bool) → Contains all.memories memory
    → Contains (after_heard all origin new (cond known Known (cond room New NoPlace))).memories memory
stays_heard all memory origin new true room there = there
stays_heard all memory origin new false true there = Contains-append_left all.memories ((origin, new) ∷ []) memory there
stays_heard all memory origin new false false there = there

stays_found : (all : Discoveries) (memory : Origin × Memory) (asa : ℕ) (topic : Topic) (answer : Find) → Contains all.memories memory
    → Contains (after_find all asa topic answer).memories memory
stays_found all memory asa topic (Found ls) there = there
stays_found all memory asa topic _ there = there

stays_answered : (all : Discoveries) (memory : Origin × Memory) (last : ℕ) (ls : List Locator) (asker : Option (Answered × Topic))
    → Contains all.memories memory
    → Contains (after_answered all last ls asker).memories memory
stays_answered all memory last ls (Some asker) there = there
stays_answered all memory last ls None there = there

is_remembered : (all : Discoveries) (memory : Origin × Memory) → Contains all.memories memory → IsRemembered all memory
is_remembered all memory there = record {
  known = is_known all memory.0 (list_any_at (λ m. same_origin memory.0 m.0) all.memories there.0 memory there.1
      (ap (λ (m : Origin × Memory). same_origin memory.0 m.0) there.2 ∙ (same_origin_decides memory.0 memory.0).1 refl));
  heard = λ origin new. stays_heard all memory origin new (remembers all origin) (nat_lt (length all.memories) 256) there;
  find = λ asa topic. stays_found all memory asa topic (find_answer all asa topic) there;
  begin = λ search. there;
  answered = λ own origin last locators. stays_answered all memory last locators (asker_of all own origin) there;
  drop = λ asa. there;
  expire = λ now later. filter_keeps (λ m. nat_lt now m.1.end) all.memories there.0 memory there.1 there.2 (lt-ltb now memory.1.end later);
}

pub remembered_stays : RememberedStays
remembered_stays = (λ all origin memory. Contains-push all.memories (origin, memory), is_remembered)
