-- What the loops over cached locators leave.
use Rattle.std.proofs.Common.{zero, suc, ◌≡◌, ℕ, ◌<◌, ◌≤◌, Bool, true, false, cond, ◌||◌, nat_lt, max, List, [], ◌∷◌, ◌++◌, length, get_or, set, Option, None, Some, is_some, refl, sym, ap, ◌∙◌, true≢false, lt-ltb, subst, arith}
use Rattle.std.specs.Prelude.{IsSome, position}
use Rattle.std.specs.Map.{lookup}
use Rattle.indexmap.specs.IndexMap.{insert_entry}
use Rattle.grasp_cbor.proofs.Facts.Lists.{is_some_lookup}
use Rattle.grasp_types.specs.declared.address.Locator.{Locator}
use Rattle.grasp_discovery.specs.declared.cached.Cached.{Cached}
use Rattle.grasp_discovery.specs.declared.topic.Topic.{Topic}
use Rattle.grasp_types.specs.Same.{same_locator}
use Rattle.grasp_discovery.specs.Discoveries.{some_of, or_none, locators_of, live, put_locator, keep_locator, keep_locators, has_locator, cached_under, has_topic, has_place, put_entry, after_response}
use Rattle.grasp_discovery.specs.Topic.{same_topic}
use Rattle.grasp_discovery.proofs.Lists.{found, any_found, any_missed}

abbrev later : Cached → ℕ → Cached
later old last = record { locator = old.locator; end = max old.end last }

-- one more of a list that may be none
pub some_more : {X : Type 0} (xs : List X) (x : X) → Some (or_none (some_of xs) ++ x ∷ []) ≡ some_of (xs ++ x ∷ [])
some_more [] x = refl
some_more (y ∷ ys) x = refl

-- where one of them ends later, there are some that do
pub some_live : (now : ℕ) (cs : List Cached) (i : ℕ) (one : Cached) → i < length cs → one ≡ get_or cs i one → now < one.end → IsSome (locators_of (live now cs))
some_live now [] i one within at lt = absurd (omega arith)
some_live now (c ∷ cs) zero one within at lt =
    let later : nat_lt now c.end ≡ true = rw (← at) (lt-ltb now one.end lt) in
    subst (λ (b : Bool). IsSome (locators_of (cond b (c ∷ live now cs) (live now cs)))) (sym later) refl
some_live now (c ∷ cs) (suc i) one within at lt = let rest = some_live now cs i one (omega arith) at lt in
    elim (nat_lt now c.end) as (λ b. IsSome (locators_of (cond b (c ∷ live now cs) (live now cs)))) [ true ↦ refl | false ↦ rest ]

-- A locator that is kept

put_at : (new : Locator) (last : ℕ) (cs : List Cached) (i : ℕ) (d : Cached) → i < length cs → same_locator new (get_or cs i d).locator ≡ true
    → ((k : ℕ) → k < i → same_locator new (get_or cs k d).locator ≡ false) → set cs i (later (get_or cs i d) last) ≡ put_locator new last cs
put_at new last [] i d h t f = absurd (omega arith)
put_at new last (c ∷ cs) zero d h t f = sym (ap (λ b. cond b (later c last ∷ cs) (c ∷ put_locator new last cs)) t)
put_at new last (c ∷ cs) (suc i) d h t f =
    ap (λ rest. c ∷ rest) (put_at new last cs i d (omega arith) t (λ k l. f (suc k) (omega arith)))
    ∙ sym (ap (λ b. cond b (later c last ∷ cs) (c ∷ put_locator new last cs)) (f 0 (omega arith)))

-- one that is there keeps the later end
pub kept_there : (new : Locator) (last : ℕ) (cs : List Cached) (i : ℕ) (old : Cached) → position (λ c. same_locator new c.locator) cs ≡ Some i → old ≡ get_or cs i old
    → set cs i (later old last) ≡ keep_locator last cs new
kept_there new last cs i old at here =
    let p : Cached → Bool = λ c. same_locator new c.locator in
    let it = found p cs i old at in
    ap (λ c. set cs i (later c last)) here
    ∙ put_at new last cs i old it.within (it.passes old) (it.first old)
    ∙ sym (ap (λ b. cond (b || nat_lt (length cs) 8) (put_locator new last cs) cs) (any_found p cs i old at))

put_last : (new : Locator) (last : ℕ) (cs : List Cached) → has_locator new cs ≡ false → cs ++ record { locator = new; end = last } ∷ [] ≡ put_locator new last cs
put_last new last [] none = refl
put_last new last (c ∷ cs) none = by (same_locator new c.locator) none (put_last new last cs)
  where
    by : (b : Bool) → (b || has_locator new cs) ≡ false → (has_locator new cs ≡ false → cs ++ record { locator = new; end = last } ∷ [] ≡ put_locator new last cs)
        → c ∷ (cs ++ record { locator = new; end = last } ∷ []) ≡ cond b (later c last ∷ cs) (c ∷ put_locator new last cs)
    by true e rest = absurd (true≢false e)
    by false e rest = ap (λ cs. c ∷ cs) (rest e)

-- another comes last where fewer than 8 are
pub kept_last : (new : Locator) (last : ℕ) (cs : List Cached) → position (λ c. same_locator new c.locator) cs ≡ None → length cs < 8
    → cs ++ record { locator = new; end = last } ∷ [] ≡ keep_locator last cs new
kept_last new last cs at few =
    let none = any_missed (λ c. same_locator new c.locator) cs at in
    put_last new last cs none
    ∙ sym (ap (λ b. cond (b || nat_lt (length cs) 8) (put_locator new last cs) cs) none ∙ ap (λ b. cond b (put_locator new last cs) cs) (lt-ltb (length cs) 8 few))

-- a new locator is dropped where 8 or more are cached
pub not_kept : (new : Locator) (last : ℕ) (cs : List Cached) → position (λ c. same_locator new c.locator) cs ≡ None → 8 ≤ length cs → cs ≡ keep_locator last cs new
not_kept new last cs at many =
    let none = any_missed (λ c. same_locator new c.locator) cs at in
    let no : nat_lt (length cs) 8 ≡ false = grind (arith, many) in
    sym (ap (λ b. cond (b || nat_lt (length cs) 8) (put_locator new last cs) cs) none ∙ ap (λ b. cond b (put_locator new last cs) cs) no)

-- Entries

-- what a look-up gives is what is cached
pub under_lookup : (topic : Topic) (es : List (Topic × List Cached)) → cached_under topic es ≡ or_none (lookup (same_topic topic) es)
under_lookup topic [] = refl
under_lookup topic (e ∷ es) = let rest = under_lookup topic es in
    elim (same_topic topic e.0) as (λ b. cond b e.1 (cached_under topic es) ≡ or_none (cond b (Some e.1) (lookup (same_topic topic) es))) [ true ↦ refl | false ↦ rest ]

pub under_found : (topic : Topic) (es : List (Topic × List Cached)) (found : Option (List Cached)) → found ≡ lookup (same_topic topic) es → cached_under topic es ≡ or_none found
under_found topic es found e = under_lookup topic es ∙ ap or_none (sym e)

-- a topic that is found is there
pub topic_found : (topic : Topic) (es : List (Topic × List Cached)) (found : Option (List Cached)) → found ≡ lookup (same_topic topic) es → has_topic topic es ≡ is_some found
topic_found topic es found e = sym (is_some_lookup (same_topic topic) es) ∙ sym (ap is_some e)

-- a map's insert puts an entry
pub insert_entry_put : (es : List (Topic × List Cached)) (topic : Topic) (cs : List Cached) → insert_entry same_topic es topic cs ≡ put_entry topic cs es
insert_entry_put [] topic cs = refl
insert_entry_put (e ∷ es) topic cs = ap (λ rest. cond (same_topic topic e.0) ((e.0, cs) ∷ es) (e ∷ rest)) (insert_entry_put es topic cs)

-- what the look-up of a topic says of the entries
pub has_topic_is : (topic : Topic) (es : List (Topic × List Cached)) (found : Bool) → found ≡ is_some (lookup (same_topic topic) es) → has_topic topic es ≡ found
has_topic_is topic es found e = sym (is_some_lookup (same_topic topic) es) ∙ sym e

-- a response for which there is no place
pub no_place : (es : List (Topic × List Cached)) (topic : Topic) (last : ℕ) (ls : List Locator) → has_place topic es ≡ false → es ≡ after_response es topic last ls
no_place es topic last ls none = sym (ap (λ b. cond b (put_entry topic (keep_locators last (cached_under topic es) ls) es) es) none)

-- one that has a place
pub placed : (es : List (Topic × List Cached)) (topic : Topic) (last : ℕ) (ls : List Locator) → has_place topic es ≡ true
    → put_entry topic (keep_locators last (cached_under topic es) ls) es ≡ after_response es topic last ls
placed es topic last ls there = sym (ap (λ b. cond b (put_entry topic (keep_locators last (cached_under topic es) ls) es) es) there)
