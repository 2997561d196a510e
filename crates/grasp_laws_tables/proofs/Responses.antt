-- What a response leaves in the cache.
use Rattle.std.proofs.Common.{◌≡◌, ◌≢◌, ℕ, ◌≤◌, Bool, true, false, cond, ◌||◌, nat_lt, max, List, [], ◌∷◌, length, All, ◌⊎◌, inl, inr, refl, sym, ap, ◌∙◌, subst, true≢false, arith}
use Rattle.std.specs.Prelude.{Contains}
use Rattle.std.proofs.lemmas.List.Elements.{All-nil, All-cons, All-head, All-tail, All-weaker, All-contains_itself}
use Rattle.grasp_types.specs.declared.address.Locator.{Locator}
use Rattle.grasp_types.specs.Same.{same_locator}
use Rattle.grasp_types.proofs.Same.{same_locator_decides}
use Rattle.grasp_discovery.specs.declared.cached.Cached.{Cached}
use Rattle.grasp_discovery.specs.declared.topic.Topic.{Topic}
use Rattle.grasp_discovery.specs.Topic.{same_topic}
use Rattle.grasp_discovery.specs.Discoveries.{Discoveries, has_locator, put_locator, keep_locator, keep_locators, cached_under, has_topic, put_entry, after_response, after_answered}
use Rattle.grasp_discovery.proofs.SameTopics.{same_topic_decides}
use Rattle.grasp_laws_tables.specs.Discoveries.{IsCachedUntil, HasEightOthers, HasManyOthers, CachesWhatItTells, AnswersAreCached}
use Rattle.grasp_laws_tables.proofs.Lists.{any_here, any_later, any_cases, any_none, all_any, none_passes}

-- a cached locator with the later of two ends
abbrev later : Cached → ℕ → Cached
later old last = record { locator = old.locator; end = max old.end last }

-- One locator

put_until : (new : Locator) (last : ℕ) (l : Locator) (t : ℕ) (cs : List Cached) → IsCachedUntil l t cs → IsCachedUntil l t (put_locator new last cs)
put_until new last l t [] a = absurd (any_none (λ (one : Cached). (one.locator ≡ l) × (t ≤ one.end)) a)
put_until new last l t (c ∷ cs) a = by (same_locator new c.locator) (any_cases (λ (one : Cached). (one.locator ≡ l) × (t ≤ one.end)) c cs a) (put_until new last l t cs)
  where
    by : (b : Bool) → ((c.locator ≡ l) × (t ≤ c.end)) ⊎ IsCachedUntil l t cs → (IsCachedUntil l t cs → IsCachedUntil l t (put_locator new last cs))
        → IsCachedUntil l t (cond b (later c last ∷ cs) (c ∷ put_locator new last cs))
    by true (inl q) rest =
        let long : t ≤ max c.end last = grind (arith, q.1) in
        any_here (λ (one : Cached). (one.locator ≡ l) × (t ≤ one.end)) (later c last) cs (q.0, long)
    by true (inr q) rest = any_later (λ (one : Cached). (one.locator ≡ l) × (t ≤ one.end)) (later c last) cs q
    by false (inl q) rest = any_here (λ (one : Cached). (one.locator ≡ l) × (t ≤ one.end)) c (put_locator new last cs) q
    by false (inr q) rest = any_later (λ (one : Cached). (one.locator ≡ l) × (t ≤ one.end)) c (put_locator new last cs) (rest q)

put_new : (new : Locator) (last : ℕ) (cs : List Cached) → IsCachedUntil new last (put_locator new last cs)
put_new new last [] = any_here (λ (one : Cached). (one.locator ≡ new) × (last ≤ one.end)) (record { locator = new; end = last }) [] (refl, omega arith)
put_new new last (c ∷ cs) = by (same_locator new c.locator) refl (put_new new last cs)
  where
    by : (b : Bool) → same_locator new c.locator ≡ b → IsCachedUntil new last (put_locator new last cs)
        → IsCachedUntil new last (cond b (later c last ∷ cs) (c ∷ put_locator new last cs))
    by true e rest =
        let long : last ≤ max c.end last = grind arith in
        any_here (λ (one : Cached). (one.locator ≡ new) × (last ≤ one.end)) (later c last) cs (sym ((same_locator_decides new c.locator).0 e), long)
    by false e rest = any_later (λ (one : Cached). (one.locator ≡ new) × (last ≤ one.end)) c (put_locator new last cs) rest

-- what holds of each that is cached, whatever its end, holds of each after one that is there already is put
put_old : (P : Cached → Type 0) (new : Locator) (last : ℕ) → ((old : Cached) → P old → P (later old last)) → (cs : List Cached) → has_locator new cs ≡ true
    → All P cs → All P (put_locator new last cs)
put_old P new last longer [] none all = absurd (true≢false (sym none))
put_old P new last longer (c ∷ cs) there all = by (same_locator new c.locator) there (All-head P c cs all) (All-tail P c cs all) (put_old P new last longer cs)
  where
    by : (b : Bool) → (b || has_locator new cs) ≡ true → P c → All P cs → (has_locator new cs ≡ true → All P cs → All P (put_locator new last cs))
        → All P (cond b (later c last ∷ cs) (c ∷ put_locator new last cs))
    by true h p all rest = All-cons P (later c last) cs (longer c p) all
    by false h p all rest = All-cons P c (put_locator new last cs) p (rest h all)

-- what holds of each that is cached, whatever its end, and of the new one, holds of each after the new one is put
put_each : (P : Cached → Type 0) (new : Locator) (last : ℕ) → ((old : Cached) → P old → P (later old last)) → P (record { locator = new; end = last })
    → (cs : List Cached) → All P cs → All P (put_locator new last cs)
put_each P new last longer p [] all = All-cons P (record { locator = new; end = last }) [] p all
put_each P new last longer p (c ∷ cs) all =
    let first = All-head P c cs all in
    let others = All-tail P c cs all in
    let rest = put_each P new last longer p cs others in
    elim (same_locator new c.locator) as (λ b. All P (cond b (later c last ∷ cs) (c ∷ put_locator new last cs))) [
      | true ↦ All-cons P (later c last) cs (longer c first) others
      | false ↦ All-cons P c (put_locator new last cs) first rest
    ]

length_put : (new : Locator) (last : ℕ) (cs : List Cached) → length cs ≤ length (put_locator new last cs)
length_put new last [] = omega arith
length_put new last (c ∷ cs) = let rest = length_put new last cs in
    elim (same_locator new c.locator) as (λ b. length (c ∷ cs) ≤ length (cond b (later c last ∷ cs) (c ∷ put_locator new last cs))) [ true ↦ omega arith | false ↦ omega (arith, rest) ]

other_means : (l : Locator) (one : Cached) → same_locator l one.locator ≡ false → one.locator ≢ l
other_means l one e same = true≢false (sym ((same_locator_decides l one.locator).1 (sym same)) ∙ e)

-- A locator that is kept

-- the locator is cached to this end or longer, or at least 8 others are cached and it isn't
abbrev Is : Locator → ℕ → List Cached → Type 0
Is l t cs = IsCachedUntil l t cs ⊎ HasEightOthers l cs

keep_new : (last : ℕ) (cs : List Cached) (l : Locator) → Is l last (keep_locator last cs l)
keep_new last cs l = by (has_locator l cs) (nat_lt (length cs) 8) refl refl
  where
    by : (there room : Bool) → has_locator l cs ≡ there → nat_lt (length cs) 8 ≡ room → Is l last (cond (there || room) (put_locator l last cs) cs)
    by true room e r = inl (put_new l last cs)
    by false true e r = inl (put_new l last cs)
    by false false e r =
        let full : 8 ≤ length cs = grind (arith, r) in
        inr (none_passes (λ one. same_locator l one.locator) (λ one. one.locator ≢ l) (other_means l) cs e, full)

keep_until : (last : ℕ) (cs : List Cached) (new l : Locator) (t : ℕ) → IsCachedUntil l t cs → IsCachedUntil l t (keep_locator last cs new)
keep_until last cs new l t a =
    let more = put_until new last l t cs a in
    elim (has_locator new cs || nat_lt (length cs) 8) as (λ b. IsCachedUntil l t (cond b (put_locator new last cs) cs)) [ true ↦ more | false ↦ a ]

keep_others : (last : ℕ) (cs : List Cached) (new l : Locator) → HasEightOthers l cs → HasEightOthers l (keep_locator last cs new)
keep_others last cs new l (others, many) = by (has_locator new cs) (nat_lt (length cs) 8) refl refl
  where
    by : (there room : Bool) → has_locator new cs ≡ there → nat_lt (length cs) 8 ≡ room → HasEightOthers l (cond (there || room) (put_locator new last cs) cs)
    by true room e r =
        let long = length_put new last cs in
        (put_old (λ one. one.locator ≢ l) new last (λ old other. other) cs e others, omega (arith, long, many))
    by false true e r = absurd (grind (arith, r, many))
    by false false e r = (others, many)

keep_is : (last : ℕ) (cs : List Cached) (new l : Locator) (t : ℕ) → Is l t cs → Is l t (keep_locator last cs new)
keep_is last cs new l t (inl a) = inl (keep_until last cs new l t a)
keep_is last cs new l t (inr o) = inr (keep_others last cs new l o)

-- All locators of a response

keep_all_until : (last : ℕ) (ls : List Locator) (cs : List Cached) (l : Locator) (t : ℕ) → IsCachedUntil l t cs → IsCachedUntil l t (keep_locators last cs ls)
keep_all_until last [] cs l t a = a
keep_all_until last (new ∷ ls) cs l t a = keep_all_until last ls (keep_locator last cs new) l t (keep_until last cs new l t a)

keep_all_is : (last : ℕ) (ls : List Locator) (cs : List Cached) (l : Locator) (t : ℕ) → Is l t cs → Is l t (keep_locators last cs ls)
keep_all_is last [] cs l t a = a
keep_all_is last (new ∷ ls) cs l t a = keep_all_is last ls (keep_locator last cs new) l t (keep_is last cs new l t a)

keep_told : (last : ℕ) (ls : List Locator) (cs : List Cached) → All (λ l. Is l last (keep_locators last cs ls)) ls
keep_told last [] cs = All-nil (λ l. Is l last (keep_locators last cs []))
keep_told last (new ∷ ls) cs =
    All-cons (λ l. Is l last (keep_locators last cs (new ∷ ls))) new ls
    (keep_all_is last ls (keep_locator last cs new) new last (keep_new last cs new))
    (keep_told last ls (keep_locator last cs new))

keep_each : (P : Cached → Type 0) (last : ℕ) → ((old : Cached) → P old → P (later old last)) → ((l : Locator) → P (record { locator = l; end = last }))
    → (cs : List Cached) (new : Locator) → All P cs → All P (keep_locator last cs new)
keep_each P last longer told cs new all =
    let more = put_each P new last longer (told new) cs all in
    elim (has_locator new cs || nat_lt (length cs) 8) as (λ b. All P (cond b (put_locator new last cs) cs)) [ true ↦ more | false ↦ all ]

keep_all_each : (P : Cached → Type 0) (last : ℕ) → ((old : Cached) → P old → P (later old last)) → ((l : Locator) → P (record { locator = l; end = last }))
    → (ls : List Locator) (cs : List Cached) → All P cs → All P (keep_locators last cs ls)
keep_all_each P last longer told [] cs all = all
keep_all_each P last longer told (new ∷ ls) cs all = keep_all_each P last longer told ls (keep_locator last cs new) (keep_each P last longer told cs new all)

-- what is cached ends with the response, or was cached just so
abbrev EndsSo : List Cached → ℕ → Cached → Type 0
EndsSo before last one = (one.end ≡ last) ⊎ Contains before one

longer_ends : (before : List Cached) (last : ℕ) (old : Cached) → EndsSo before last old → EndsSo before last (later old last)
longer_ends before last old so = by (nat_lt old.end last) refl so
  where
    by : (b : Bool) → nat_lt old.end last ≡ b → EndsSo before last old → EndsSo before last (later old last)
    by true e _ = let same : max old.end last ≡ last = grind (arith, e) in inl same
    by false e (inl s) = let same : max old.end last ≡ last = grind (arith, e, s) in inl same
    by false e (inr s) = let same : max old.end last ≡ old.end = grind (arith, e) in
        inr (subst (λ n. Contains before (record { locator = old.locator; end = n })) (sym same) s)

keep_ends : (last : ℕ) (ls : List Locator) (cs : List Cached) → All (EndsSo cs last) (keep_locators last cs ls)
keep_ends last ls cs =
    keep_all_each (EndsSo cs last) last (longer_ends cs last) (λ l. inl refl) ls cs
    (All-weaker (Contains cs) (EndsSo cs last) (λ one there. inr there) cs (All-contains_itself cs))

keep_stays : (last : ℕ) (ls : List Locator) (cs : List Cached) → All (λ one. IsCachedUntil one.locator one.end (keep_locators last cs ls)) cs
keep_stays last ls cs =
    All-weaker (λ one. IsCachedUntil one.locator one.end cs) (λ one. IsCachedUntil one.locator one.end (keep_locators last cs ls))
    (λ one. keep_all_until last ls cs one.locator one.end) cs
    (all_any (λ (x one : Cached). (one.locator ≡ x.locator) × (x.end ≤ one.end)) (λ x. (refl, omega arith)) cs)

-- Entries

under_put : (topic : Topic) (cs : List Cached) (es : List (Topic × List Cached)) → cached_under topic (put_entry topic cs es) ≡ cs
under_put topic cs [] = ap (λ b. cond b cs []) ((same_topic_decides topic topic).1 refl)
under_put topic cs (e ∷ es) = by (same_topic topic e.0) refl (under_put topic cs es)
  where
    by : (b : Bool) → same_topic topic e.0 ≡ b → cached_under topic (put_entry topic cs es) ≡ cs
        → cached_under topic (cond b ((e.0, cs) ∷ es) (e ∷ put_entry topic cs es)) ≡ cs
    by true h rest = ap (λ b. cond b cs (cached_under topic es)) h
    by false h rest = ap (λ b. cond b e.1 (cached_under topic (put_entry topic cs es))) h ∙ rest

-- two topics that differ
apart : (a b : Topic) → a ≢ b → same_topic a b ≡ false
apart a b other = by (same_topic a b) refl
  where
    by : (t : Bool) → same_topic a b ≡ t → t ≡ false
    by true e = absurd (other ((same_topic_decides a b).0 e))
    by false e = refl

under_other : (other topic : Topic) (cs : List Cached) (es : List (Topic × List Cached)) → other ≢ topic
    → cached_under other (put_entry topic cs es) ≡ cached_under other es
under_other other topic cs [] differs = ap (λ b. cond b cs []) (apart other topic differs)
under_other other topic cs (e ∷ es) differs = by (same_topic topic e.0) refl (under_other other topic cs es differs)
  where
    by : (b : Bool) → same_topic topic e.0 ≡ b → cached_under other (put_entry topic cs es) ≡ cached_under other es
        → cached_under other (cond b ((e.0, cs) ∷ es) (e ∷ put_entry topic cs es)) ≡ cached_under other (e ∷ es)
    by true h rest =
        let no : same_topic other e.0 ≡ false = ap (same_topic other) (sym ((same_topic_decides topic e.0).0 h)) ∙ apart other topic differs in
        ap (λ b. cond b cs (cached_under other es)) no ∙ sym (ap (λ b. cond b e.1 (cached_under other es)) no)
    by false h rest = ap (λ r. cond (same_topic other e.0) e.1 r) rest

no_entry : (topic : Topic) (entry : Topic × List Cached) → same_topic topic entry.0 ≡ false → entry.0 ≢ topic
no_entry topic entry e same = true≢false (sym ((same_topic_decides topic entry.0).1 (sym same)) ∙ e)

-- the discoveries with these entries in place of their own
abbrev with_entries : Discoveries → List (Topic × List Cached) → Discoveries
with_entries all es = record { searches = all.searches; entries = es; memories = all.memories }

-- the locators of an entry or 128 other topics
abbrev Told : Discoveries → Topic → ℕ → List Cached → Locator → Type 0
Told all topic last cs l = IsCachedUntil l last cs ⊎ HasEightOthers l cs ⊎ HasManyOthers topic all.entries

told_more : (all : Discoveries) (topic : Topic) (last : ℕ) (cs : List Cached) (l : Locator) → Is l last cs → Told all topic last cs l
told_more all topic last cs l (inl a) = inl a
told_more all topic last cs l (inr o) = inr (inl o)

caches_with_place : (all : Discoveries) (topic : Topic) (last : ℕ) (ls : List Locator)
    → CachesWhatItTells all topic last ls (with_entries all (put_entry topic (keep_locators last (cached_under topic all.entries) ls) all.entries))
caches_with_place all topic last ls =
    let before = cached_under topic all.entries in
    let kept = keep_locators last before ls in
    let under = under_put topic kept all.entries in
    record {
      told = subst (λ cs. All (Told all topic last cs) ls) (sym under) (All-weaker (λ l. Is l last kept) (Told all topic last kept) (told_more all topic last kept) ls (keep_told last ls before));
      stays = subst (λ cs. All (λ one. IsCachedUntil one.locator one.end cs) before) (sym under) (keep_stays last ls before);
      ends = subst (All (EndsSo before last)) (sym under) (keep_ends last ls before);
      others = λ other differs. under_other other topic kept all.entries differs;
    }

caches_without : (all : Discoveries) (topic : Topic) (last : ℕ) (ls : List Locator) → HasManyOthers topic all.entries → CachesWhatItTells all topic last ls (with_entries all all.entries)
caches_without all topic last ls many =
    let before = cached_under topic all.entries in
    record {
      told = λ k d h. inr (inr many);
      stays = all_any (λ (x one : Cached). (one.locator ≡ x.locator) × (x.end ≤ one.end)) (λ x. (refl, omega arith)) before;
      ends = All-weaker (Contains before) (EndsSo before last) (λ one there. inr there) before (All-contains_itself before);
      others = λ other differs. refl;
    }

caches : (all : Discoveries) (topic : Topic) (last : ℕ) (ls : List Locator) → CachesWhatItTells all topic last ls (with_entries all (after_response all.entries topic last ls))
caches all topic last ls = by (has_topic topic all.entries) (nat_lt (length all.entries) 128) refl refl
  where
    by : (there room : Bool) → has_topic topic all.entries ≡ there → nat_lt (length all.entries) 128 ≡ room
        → CachesWhatItTells all topic last ls (with_entries all (cond (there || room) (put_entry topic (keep_locators last (cached_under topic all.entries) ls) all.entries) all.entries))
    by true room e r = caches_with_place all topic last ls
    by false true e r = caches_with_place all topic last ls
    by false false e r =
        let full : 128 ≤ length all.entries = grind (arith, r) in
        caches_without all topic last ls (none_passes (λ entry. same_topic topic entry.0) (λ entry. entry.0 ≢ topic) (no_entry topic) all.entries e, full)

pub answers_cached : AnswersAreCached
answers_cached all own origin last locators = record {
  answer = λ who topic asked. subst (λ asker. CachesWhatItTells all topic last locators (after_answered all last locators asker)) (sym asked) (caches all topic last locators);
  stranger = λ none. ap (after_answered all last locators) none;
}
