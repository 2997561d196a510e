-- What floods and expiries leave in the cache, and what is remembered.
use Rattle.std.proofs.Common.{◌≡◌, ℕ, ◌<◌, ◌≤◌, Bool, true, false, cond, nat_lt, max, List, [], ◌∷◌, length, map, filter}
use Rattle.std.proofs.Common.{fold, get_or, Option, Some, None, IfSome, All, ◌⊎◌, inl, inr, refl, sym, ap, ◌∙◌, subst, arith, lt-ltb}
use Rattle.std.proofs.lemmas.Bool.{or_parts}
use Rattle.std.specs.Prelude.{Any, Contains}
use Rattle.std.proofs.lemmas.List.Elements.{All-cons, All-head, All-tail, All-map, All-filter, filter_passes, Contains-push, Contains-append_left}
use Rattle.std.proofs.lemmas.List.Folds.{list_any_at}
use Rattle.std.proofs.lemmas.Slice.Eq.{bytes_eq-Decides}
use Rattle.grasp_cbor.proofs.Facts.Lists.{stands_at, filter_keeps, all_stay}
use Rattle.grasp_types.specs.declared.flood.FloodPart.{FloodPart}
use Rattle.grasp_types.specs.declared.flood.FloodRead.{FloodRead}
use Rattle.grasp_types.specs.declared.origin.Origin.{Origin}
use Rattle.grasp_types.specs.Reading.{reading_after}
use Rattle.grasp_types.specs.Same.{same_origin}
use Rattle.grasp_types.proofs.Same.{same_origin_decides}
use Rattle.grasp_flood.specs.declared.heard.Heard.TheVariants.{Known, NoPlace, New}
use Rattle.grasp_flood.specs.declared.keys.FloodKey.{FloodKey}
use Rattle.grasp_flood.specs.declared.kept.FloodKept.{FloodKept}
use Rattle.grasp_flood.specs.Flood.{same_key}
use Rattle.grasp_flood.specs.Floods.{Floods, has_key, put, after_keep, after_renewal, is_made_by, is_named, later_end, end_of, entry_of, read_of}
use Rattle.grasp_flood.specs.Floods.{is_after, remembers, after_heard}
use Rattle.grasp_flood.specs.Laws.{kept_under, or_else, last_told, IsLastKept, IsOld, IsRemembered, RememberedStays}
use Rattle.grasp_flood.specs.Laws.{OnlyTheEndedGo, LastPartIsKept, EntriesAreTold, ReadsAreEntries}
use Rattle.grasp_flood.proofs.SameKeys.{same_key_decides}
use Rattle.grasp_flood.proofs.Entries.{is_known}
use Rattle.grasp_flood.proofs.Facts.{part_filter}
use Rattle.grasp_flood.proofs.Soundness.{length_put}

-- What a filter leaves

is_after_where : (now : ℕ) (last : Option ℕ) → IfSome last (λ n. now < n) → is_after now last ≡ true
is_after_where now None e = refl
is_after_where now (Some last) e = lt-ltb now last e

pub only_the_ended : OnlyTheEndedGo
only_the_ended floods now = (
  part_filter (λ entry. is_after now entry.1.end) floods.entries,
  all_stay (λ entry. is_after now entry.1.end) (λ entry. IfSome entry.1.end (λ last. now < last)) (λ entry. is_after_where now entry.1.end) floods.entries,
  part_filter (λ memory. nat_lt now memory.1) floods.memories,
  all_stay (λ memory. nat_lt now memory.1) (λ memory. now < memory.1) (λ memory. lt-ltb now memory.1) floods.memories,
)

-- What is kept under a key

under_none : (key : FloodKey) (es : List (FloodKey × FloodKept)) → has_key key es ≡ false → kept_under key es ≡ None
under_none key [] none = refl
under_none key (e ∷ es) none =
    let h = or_parts (same_key key e.0) (has_key key es) none in
    ap (λ b. cond b (Some e.1) (kept_under key es)) h.0 ∙ under_none key es h.1

under_put_same : (new : FloodKey × FloodKept) (es : List (FloodKey × FloodKept)) → kept_under new.0 (put new es) ≡ Some new.1
under_put_same new [] = ap (λ b. cond b (Some new.1) None) ((same_key_decides new.0 new.0).1 refl)
under_put_same new (e ∷ es) = by (same_key new.0 e.0) refl (under_put_same new es)
  where
    by : (b : Bool) → same_key new.0 e.0 ≡ b → kept_under new.0 (put new es) ≡ Some new.1
        → kept_under new.0 (cond b ((e.0, new.1) ∷ es) (e ∷ put new es)) ≡ Some new.1
    by true h rest = ap (λ b. cond b (Some new.1) (kept_under new.0 es)) h
    by false h rest = ap (λ b. cond b (Some e.1) (kept_under new.0 (put new es))) h ∙ rest

under_put_other : (key : FloodKey) (new : FloodKey × FloodKept) (es : List (FloodKey × FloodKept)) → same_key key new.0 ≡ false
    → kept_under key (put new es) ≡ kept_under key es
under_put_other key new [] other = ap (λ b. cond b (Some new.1) None) other
under_put_other key new (e ∷ es) other = by (same_key new.0 e.0) refl (under_put_other key new es other)
  where
    by : (b : Bool) → same_key new.0 e.0 ≡ b → kept_under key (put new es) ≡ kept_under key es
        → kept_under key (cond b ((e.0, new.1) ∷ es) (e ∷ put new es)) ≡ kept_under key (e ∷ es)
    by true h rest =
        let no : same_key key e.0 ≡ false = ap (same_key key) (sym ((same_key_decides new.0 e.0).0 h)) ∙ other in
        ap (λ b. cond b (Some new.1) (kept_under key es)) no ∙ sym (ap (λ b. cond b (Some e.1) (kept_under key es)) no)
    by false h rest = ap (λ r. cond (same_key key e.0) (Some e.1) r) rest

under_keep_other : (key : FloodKey) (new : FloodKey × FloodKept) (es : List (FloodKey × FloodKept)) → same_key key new.0 ≡ false
    → kept_under key (after_keep es new) ≡ kept_under key es
under_keep_other key new es other =
    let same = under_put_other key new es other in
    elim (has_key new.0 es) as (λ h. kept_under key (cond h (put new es) (cond (nat_lt (length es) 128) (put new es) es)) ≡ kept_under key es) [
      | true ↦ same
      | false ↦ elim (nat_lt (length es) 128) as (λ n. kept_under key (cond n (put new es) es) ≡ kept_under key es) [ true ↦ same | false ↦ refl ]
    ]

-- what is kept takes the place, or there is none
abbrev IsPlaced : List (FloodKey × FloodKept) → FloodKey × FloodKept → List (FloodKey × FloodKept) → Type 0
IsPlaced es new after = (kept_under new.0 after ≡ Some new.1) ⊎ ((after ≡ es) × (kept_under new.0 es ≡ None) × (128 ≤ length es))

placed : (new : FloodKey × FloodKept) (es : List (FloodKey × FloodKept)) → IsPlaced es new (after_keep es new)
placed new es = by (has_key new.0 es) (nat_lt (length es) 128) refl refl
  where
    by : (h n : Bool) → has_key new.0 es ≡ h → nat_lt (length es) 128 ≡ n → IsPlaced es new (cond h (put new es) (cond n (put new es) es))
    by true n e l = inl (under_put_same new es)
    by false true e l = inl (under_put_same new es)
    by false false e l = let full : 128 ≤ length es = grind (arith, l) in inr (refl, under_none new.0 es e, full)

length_keep : (es : List (FloodKey × FloodKept)) (new : FloodKey × FloodKept) → length es ≤ length (after_keep es new)
length_keep es new =
    let long = length_put new es in
    let more : length es ≤ length (put new es) = omega (arith, long) in
    elim (has_key new.0 es) as (λ h. length es ≤ length (cond h (put new es) (cond (nat_lt (length es) 128) (put new es) es))) [
      | true ↦ more
      | false ↦ elim (nat_lt (length es) 128) as (λ n. length es ≤ length (cond n (put new es) es)) [ true ↦ more | false ↦ omega arith ]
    ]

length_keep_all : (told es : List (FloodKey × FloodKept)) → length es ≤ length (fold after_keep es told)
length_keep_all [] es = omega arith
length_keep_all (new ∷ told) es = let one = length_keep es new in let rest = length_keep_all told (after_keep es new) in omega (arith, one, rest)

some_is_not_none : {X : Type 0} (x : X) (o : Option X) → o ≡ Some x → o ≡ None → ⊥
some_is_not_none x o s n = cc

-- nothing is kept under a key under which nothing is kept after one more
none_before : (key : FloodKey) (new : FloodKey × FloodKept) (es : List (FloodKey × FloodKept)) → kept_under key (after_keep es new) ≡ None
    → kept_under key es ≡ None
none_before key new es none = by (same_key key new.0) refl
  where
    placed_as : key ≡ new.0 → IsPlaced es new (after_keep es new) → kept_under key es ≡ None
    placed_as e (inl s) = absurd (some_is_not_none new.1 (kept_under new.0 (after_keep es new)) s (ap (λ k. kept_under k (after_keep es new)) (sym e) ∙ none))
    placed_as e (inr s) = ap (λ k. kept_under k es) e ∙ s.1

    by : (b : Bool) → same_key key new.0 ≡ b → kept_under key es ≡ None
    by true e = placed_as ((same_key_decides key new.0).0 e) (placed new es)
    by false e = sym (under_keep_other key new es e) ∙ none

last_kept : (flood : Origin) (last : Option ℕ) (key : FloodKey) (parts : List FloodPart) (es : List (FloodKey × FloodKept))
    → IsLastKept flood last key es (fold after_keep es (map (entry_of flood last) parts)) (last_told flood key parts)
last_kept flood last key [] es = refl
last_kept flood last key (p ∷ ps) es =
    by (last_told flood key ps) (same_key key (entry_of flood last p).0) refl (last_kept flood last key ps (after_keep es (entry_of flood last p)))
    (placed (entry_of flood last p) es) (length_keep_all (map (entry_of flood last) (p ∷ ps)) es)
  where
    -- no later part is told under the key
    ours : key ≡ (entry_of flood last p).0
        → kept_under key (fold after_keep es (map (entry_of flood last) (p ∷ ps))) ≡ kept_under key (after_keep es (entry_of flood last p))
        → IsPlaced es (entry_of flood last p) (after_keep es (entry_of flood last p))
        → length es ≤ length (fold after_keep es (map (entry_of flood last) (p ∷ ps)))
        → IsLastKept flood last key es (fold after_keep es (map (entry_of flood last) (p ∷ ps))) (Some p)
    ours e k (inl s) long = inl (k ∙ (ap (λ q. kept_under q (after_keep es (entry_of flood last p))) e ∙ s))
    ours e k (inr s) long =
        let none : kept_under key es ≡ None = ap (λ q. kept_under q es) e ∙ s.1 in
        inr (k ∙ (ap (kept_under key) s.0 ∙ none), none, omega (arith, s.2, long))

    by : (later : Option FloodPart) (b : Bool) → same_key key (entry_of flood last p).0 ≡ b
        → IsLastKept flood last key (after_keep es (entry_of flood last p)) (fold after_keep es (map (entry_of flood last) (p ∷ ps))) later
        → IsPlaced es (entry_of flood last p) (after_keep es (entry_of flood last p))
        → length es ≤ length (fold after_keep es (map (entry_of flood last) (p ∷ ps)))
        → IsLastKept flood last key es (fold after_keep es (map (entry_of flood last) (p ∷ ps))) (or_else later (cond b (Some p) None))
    by (Some q) b e (inl k) s long = inl k
    by (Some q) b e (inr k) s long = inr (k.0, none_before key (entry_of flood last p) es k.1, k.2)
    by None true e k s long = ours ((same_key_decides key (entry_of flood last p).0).0 e) k s long
    by None false e k s long = k ∙ under_keep_other key (entry_of flood last p) es e

pub last_part_kept : LastPartIsKept
last_part_kept floods now flood ttl parts key = last_kept flood (end_of now ttl) key parts floods.entries

-- Where entries come from

later_itself : (a : Option ℕ) → later_end a a ≡ a
later_itself None = refl
later_itself (Some a) = let same : max a a ≡ a = grind arith in ap Some same

later_twice : (a b : Option ℕ) → later_end a (later_end a b) ≡ later_end a b
later_twice None b = refl
later_twice (Some a) None = refl
later_twice (Some a) (Some b) = let same : max a (max a b) ≡ max a b = grind arith in ap Some same

old_itself : (entry : FloodKey × FloodKept) → IsOld entry entry
old_itself entry = (refl, refl, later_itself entry.1.end)

old_renewed : (flood : Origin) (last : Option ℕ) (entry : FloodKey × FloodKept) → IsOld entry (after_renewal flood last entry)
old_renewed flood last entry =
    elim (is_made_by flood entry) as (λ b. IsOld entry (cond b (entry.0, record entry.1 { end = later_end entry.1.end last }) entry)) [
      | true ↦ (refl, refl, later_twice entry.1.end last)
      | false ↦ old_itself entry
    ]

all_put : (P : FloodKey × FloodKept → Type 0) (new : FloodKey × FloodKept) (es : List (FloodKey × FloodKept)) → P new → All P es → All P (put new es)
all_put P new [] h all = All-cons P new [] h all
all_put P new (e ∷ es) h all = by (same_key new.0 e.0) refl (all_put P new es h (All-tail P e es all))
  where
    by : (b : Bool) → same_key new.0 e.0 ≡ b → All P (put new es) → All P (cond b ((e.0, new.1) ∷ es) (e ∷ put new es))
    by true t rest =
        let same : (new.0, new.1) ≡ (e.0, new.1) = ap (λ k. (k, new.1)) ((same_key_decides new.0 e.0).0 t) in
        All-cons P (e.0, new.1) es (subst P same h) (All-tail P e es all)
    by false t rest = All-cons P e (put new es) (All-head P e es all) rest

all_keep : (P : FloodKey × FloodKept → Type 0) (es : List (FloodKey × FloodKept)) (new : FloodKey × FloodKept) → P new → All P es → All P (after_keep es new)
all_keep P es new h all =
    let with_new = all_put P new es h all in
    elim (has_key new.0 es) as (λ b. All P (cond b (put new es) (cond (nat_lt (length es) 128) (put new es) es))) [
      | true ↦ with_new
      | false ↦ elim (nat_lt (length es) 128) as (λ n. All P (cond n (put new es) es)) [ true ↦ with_new | false ↦ all ]
    ]

all_keep_all : (P : FloodKey × FloodKept → Type 0) (told es : List (FloodKey × FloodKept)) → All P told → All P es → All P (fold after_keep es told)
all_keep_all P [] es new all = all
all_keep_all P (e ∷ told) es new all = all_keep_all P told (after_keep es e) (All-tail P e told new) (all_keep P es e (All-head P e told new) all)

-- the entry is an old one, perhaps with a later end, or a part of this flood
abbrev IsTold : List (FloodKey × FloodKept) → Origin → Option ℕ → List FloodPart → FloodKey × FloodKept → Type 0
IsTold before flood last parts entry = Any (λ old. IsOld old entry) before ⊎ Any (λ part. entry ≡ entry_of flood last part) parts

told_before : (before : List (FloodKey × FloodKept)) (flood : Origin) (last : Option ℕ) (parts : List FloodPart) → All (IsTold before flood last parts) before
told_before before flood last parts = λ k d h. inl (k, get_or before k d, h, stands_at before k d h, old_itself (get_or before k d))

told_now : (before : List (FloodKey × FloodKept)) (flood : Origin) (last : Option ℕ) (parts : List FloodPart)
    → All (IsTold before flood last parts) (map (entry_of flood last) parts)
told_now before flood last parts =
    All-map (IsTold before flood last parts) (entry_of flood last) parts (λ k d h. inr (k, get_or parts k d, h, stands_at parts k d h, refl))

told_renewed : (before : List (FloodKey × FloodKept)) (flood : Origin) (last : Option ℕ) (parts : List FloodPart)
    → All (IsTold before flood last parts) (map (after_renewal flood last) before)
told_renewed before flood last parts =
    All-map (IsTold before flood last parts) (after_renewal flood last) before
    (λ k d h. inl (k, get_or before k d, h, stands_at before k d h, old_renewed flood last (get_or before k d)))

pub entries_told : EntriesAreTold
entries_told floods now flood ttl parts = by (remembers floods flood) (nat_lt (length floods.memories) 256)
  where
    by : (known room : Bool)
        → All (IsTold floods.entries flood (end_of now ttl) parts) (after_heard floods now flood ttl parts (cond known Known (cond room New NoPlace))).entries
    by true room = told_renewed floods.entries flood (end_of now ttl) parts
    by false true =
        all_keep_all (IsTold floods.entries flood (end_of now ttl) parts) (map (entry_of flood (end_of now ttl)) parts) floods.entries
        (told_now floods.entries flood (end_of now ttl) parts) (told_before floods.entries flood (end_of now ttl) parts)
    by false false = told_before floods.entries flood (end_of now ttl) parts

-- what was read is what an entry of this name reports
abbrev IsReadOf : List (FloodKey × FloodKept) → List ℕ → FloodRead → Type 0
IsReadOf entries name read = Any (λ entry. (entry.0.name ≡ name) × (read ≡ read_of entry)) entries

read_where_named : (entries : List (FloodKey × FloodKept)) (name : List ℕ)
    → All (λ entry. is_named name entry ≡ true → IsReadOf entries name (read_of entry)) entries
read_where_named entries name =
    λ k d h t. (k, get_or entries k d, h, stands_at entries k d h, ((bytes_eq-Decides (get_or entries k d).0.name name).0 t, refl))

pub reads_entries : ReadsAreEntries
reads_entries floods name =
    let named = All-filter (is_named name) (λ entry. is_named name entry ≡ true → IsReadOf floods.entries name (read_of entry))
    floods.entries (read_where_named floods.entries name) in
    All-map (IsReadOf floods.entries name) read_of (filter (is_named name) floods.entries)
    (λ k d h. named k d h (filter_passes (is_named name) floods.entries k d h))

-- What is remembered

stays_heard : (floods : Floods) (memory : Origin × ℕ) (now : ℕ) (flood : Origin) (ttl : ℕ) (parts : List FloodPart) (known room : Bool)
    → Contains floods.memories memory
    → Contains (after_heard floods now flood ttl parts (cond known Known (cond room New NoPlace))).memories memory
stays_heard floods memory now flood ttl parts true room there = there
stays_heard floods memory now flood ttl parts false true there = Contains-append_left floods.memories ((flood, reading_after now 120000) ∷ []) memory there
stays_heard floods memory now flood ttl parts false false there = there

remembered : (floods : Floods) (memory : Origin × ℕ) → Contains floods.memories memory → IsRemembered floods memory
remembered floods memory there = record {
  known = is_known floods memory.0 (list_any_at (λ m. same_origin memory.0 m.0) floods.memories there.0 memory there.1
      (ap (λ (m : Origin × ℕ). same_origin memory.0 m.0) there.2 ∙ (same_origin_decides memory.0 memory.0).1 refl));
  heard = λ now flood ttl parts. stays_heard floods memory now flood ttl parts (remembers floods flood) (nat_lt (length floods.memories) 256) there;
  drop = λ key. there;
  expire = λ now later. filter_keeps (λ m. nat_lt now m.1) floods.memories there.0 memory there.1 there.2 (lt-ltb now memory.1 later);
}

pub remembered_stays : RememberedStays
remembered_stays = (λ floods now flood ttl parts. Contains-push floods.memories (flood, reading_after now 120000), remembered)
