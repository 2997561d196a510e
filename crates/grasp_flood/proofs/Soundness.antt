-- Whatever comes, the entries stay few and under keys that differ, and so do the memories.
use Rattle.std.proofs.Common.{ltb-true, ◌≡◌, ℕ, ◌+◌, ◌<◌, ◌≤◌, Bool, true, false, cond, not, ◌||◌, nat_lt, List, [], ◌∷◌, ◌++◌, length, map, filter, fold, Option, refl, ap, ◌∙◌, arith}
use Rattle.std.proofs.lemmas.Bool.{or_from, or_parts}
use Rattle.std.specs.List.{list_any}
use Rattle.std.specs.Cmp.{decided}
use Rattle.grasp_cbor.proofs.Facts.Lists.{few_filter, length_map, length_push, any_filter}
use Rattle.grasp_types.specs.declared.flood.FloodPart.{FloodPart}
use Rattle.grasp_types.specs.declared.origin.Origin.{Origin}
use Rattle.grasp_types.specs.Same.{same_origin}
use Rattle.grasp_types.proofs.Same.{same_origin_decides}
use Rattle.grasp_types.specs.Reading.{reading_after}
use Rattle.grasp_flood.specs.declared.heard.Heard.TheVariants.{Known, NoPlace, New}
use Rattle.grasp_flood.specs.declared.keys.FloodKey.{FloodKey}
use Rattle.grasp_flood.specs.declared.kept.FloodKept.{FloodKept}
use Rattle.grasp_flood.specs.Flood.{same_key}
use Rattle.grasp_flood.proofs.SameKeys.{same_key_decides}
use Rattle.grasp_flood.specs.Floods.{Floods, no_floods, has_key, put, after_keep, after_renewal, is_made_by, later_end, end_of, entry_of, is_after, remembers, heard_reply, after_heard, after_drop, after_expiry, AllDiffer, IsFloods}

AllDiffer_filter : {X : Type 0} (same : X → X → Bool) (p : X → Bool) (xs : List X) → AllDiffer same xs → AllDiffer same (filter p xs)
AllDiffer_filter same p [] d = d
AllDiffer_filter same p (x ∷ xs) d =
    let rest = AllDiffer_filter same p xs d.1 in
    elim (p x) as (λ b. AllDiffer same (cond b (x ∷ filter p xs) (filter p xs))) [ true ↦ (any_filter (same x) p xs d.0, rest) | false ↦ rest ]

-- a new memory

any_push : (flood : Origin) (xs : List (Origin × ℕ)) (new : Origin × ℕ) → list_any (λ m. same_origin flood m.0) xs ≡ false → same_origin flood new.0 ≡ false
    → list_any (λ m. same_origin flood m.0) (xs ++ new ∷ []) ≡ false
any_push flood [] new e d = or_from (same_origin flood new.0) false d refl
any_push flood (x ∷ xs) new e d =
    let h = or_parts (same_origin flood x.0) (list_any (λ m. same_origin flood m.0) xs) e in
    or_from (same_origin flood x.0) (list_any (λ m. same_origin flood m.0) (xs ++ new ∷ [])) h.0 (any_push flood xs new h.1 d)

differ_push : (xs : List (Origin × ℕ)) (new : Origin × ℕ) → list_any (λ m. same_origin new.0 m.0) xs ≡ false → AllDiffer (λ a b. same_origin a.0 b.0) xs
    → AllDiffer (λ a b. same_origin a.0 b.0) (xs ++ new ∷ [])
differ_push [] new e d = (refl, d)
differ_push (x ∷ xs) new e d =
    let h = or_parts (same_origin new.0 x.0) (list_any (λ m. same_origin new.0 m.0) xs) e in
    let apart : same_origin x.0 new.0 ≡ false = (decided same_origin same_origin_decides).symm x.0 new.0 ∙ h.0 in
    (any_push x.0 xs new d.0 apart, differ_push xs new h.1 d.1)

-- an entry that is put

any_put : (key : FloodKey) (new : FloodKey × FloodKept) (xs : List (FloodKey × FloodKept)) → list_any (λ e. same_key key e.0) xs ≡ false → same_key key new.0 ≡ false
    → list_any (λ e. same_key key e.0) (put new xs) ≡ false
any_put key new [] e d = or_from (same_key key new.0) false d refl
any_put key new (x ∷ xs) e d =
    let h = or_parts (same_key key x.0) (list_any (λ a. same_key key a.0) xs) e in
    let rest = or_from (same_key key x.0) (list_any (λ a. same_key key a.0) (put new xs)) h.0 (any_put key new xs h.1 d) in
    elim (same_key new.0 x.0) as (λ b. list_any (λ a. same_key key a.0) (cond b ((x.0, new.1) ∷ xs) (x ∷ put new xs)) ≡ false) [ true ↦ e | false ↦ rest ]

differ_put : (new : FloodKey × FloodKept) (xs : List (FloodKey × FloodKept)) → AllDiffer (λ a b. same_key a.0 b.0) xs → AllDiffer (λ a b. same_key a.0 b.0) (put new xs)
differ_put new [] d = (refl, d)
differ_put new (x ∷ xs) d = by (same_key new.0 x.0) refl (differ_put new xs d.1)
  where
    by : (b : Bool) → same_key new.0 x.0 ≡ b → AllDiffer (λ a b. same_key a.0 b.0) (put new xs) → AllDiffer (λ a b. same_key a.0 b.0) (cond b ((x.0, new.1) ∷ xs) (x ∷ put new xs))
    by true e rest = d
    by false e rest = (any_put x.0 new xs d.0 ((decided same_key same_key_decides).symm x.0 new.0 ∙ e), rest)

pub length_put : (new : FloodKey × FloodKept) (xs : List (FloodKey × FloodKept)) → length (put new xs) ≡ length xs + cond (has_key new.0 xs) 0 1
length_put new [] = refl
length_put new (x ∷ xs) =
    let rest = length_put new xs in
    elim (same_key new.0 x.0) as (λ b. length (cond b ((x.0, new.1) ∷ xs) (x ∷ put new xs)) ≡ length (x ∷ xs) + cond (b || has_key new.0 xs) 0 1)
    [ true ↦ omega arith | false ↦ omega (arith, rest) ]

differ_keep : (xs : List (FloodKey × FloodKept)) (new : FloodKey × FloodKept) → AllDiffer (λ a b. same_key a.0 b.0) xs → AllDiffer (λ a b. same_key a.0 b.0) (after_keep xs new)
differ_keep xs new d =
    let put_in = differ_put new xs d in
    elim (has_key new.0 xs) as (λ h. AllDiffer (λ a b. same_key a.0 b.0) (cond h (put new xs) (cond (nat_lt (length xs) 128) (put new xs) xs))) [
      | true ↦ put_in
      | false ↦ elim (nat_lt (length xs) 128) as (λ n. AllDiffer (λ a b. same_key a.0 b.0) (cond n (put new xs) xs)) [ true ↦ put_in | false ↦ d ]
    ]

few_keep : (xs : List (FloodKey × FloodKept)) (new : FloodKey × FloodKept) → length xs ≤ 128 → length (after_keep xs new) ≤ 128
few_keep xs new few = by (has_key new.0 xs) (nat_lt (length xs) 128) refl refl
  where
    by : (h n : Bool) → has_key new.0 xs ≡ h → nat_lt (length xs) 128 ≡ n → length (cond h (put new xs) (cond n (put new xs) xs)) ≤ 128
    by true n e l =
        let long = length_put new xs ∙ ap (λ b. length xs + cond b 0 1) e in
        omega (arith, long)
    by false true e l =
        let long = length_put new xs ∙ ap (λ b. length xs + cond b 0 1) e in
        grind (arith, long, few)
    by false false e l = few

differ_keep_all : (told xs : List (FloodKey × FloodKept)) → AllDiffer (λ a b. same_key a.0 b.0) xs → AllDiffer (λ a b. same_key a.0 b.0) (fold after_keep xs told)
differ_keep_all [] xs d = d
differ_keep_all (new ∷ told) xs d = differ_keep_all told (after_keep xs new) (differ_keep xs new d)

few_keep_all : (told xs : List (FloodKey × FloodKept)) → length xs ≤ 128 → length (fold after_keep xs told) ≤ 128
few_keep_all [] xs few = few
few_keep_all (new ∷ told) xs few = few_keep_all told (after_keep xs new) (few_keep xs new few)

-- entries that are renewed

renewal_key : (flood : Origin) (last : Option ℕ) (entry : FloodKey × FloodKept) → (after_renewal flood last entry).0 ≡ entry.0
renewal_key flood last entry =
    elim (is_made_by flood entry) as (λ b. (cond b (entry.0, record entry.1 { end = later_end entry.1.end last }) entry).0 ≡ entry.0) [ true ↦ refl | false ↦ refl ]

any_renewal : (flood : Origin) (last : Option ℕ) (test : FloodKey → Bool) (xs : List (FloodKey × FloodKept))
    → list_any (λ e. test e.0) (map (after_renewal flood last) xs) ≡ list_any (λ e. test e.0) xs
any_renewal flood last test [] = refl
any_renewal flood last test (x ∷ xs) =
    ap (λ k. test k || list_any (λ e. test e.0) (map (after_renewal flood last) xs)) (renewal_key flood last x)
    ∙ ap (λ b. test x.0 || b) (any_renewal flood last test xs)

differ_renewal : (flood : Origin) (last : Option ℕ) (xs : List (FloodKey × FloodKept)) → AllDiffer (λ a b. same_key a.0 b.0) xs
    → AllDiffer (λ a b. same_key a.0 b.0) (map (after_renewal flood last) xs)
differ_renewal flood last [] d = d
differ_renewal flood last (x ∷ xs) d = (
  ap (λ k. list_any (λ e. same_key k e.0) (map (after_renewal flood last) xs)) (renewal_key flood last x) ∙ any_renewal flood last (same_key x.0) xs ∙ d.0,
  differ_renewal flood last xs d.1,
)

-- the calls

pub sound_none : IsFloods no_floods
sound_none = record { few_entries = omega arith; own_keys = tt; few_memories = omega arith; own_floods = tt }

pub sound_known : (floods : Floods) (flood : Origin) (last : Option ℕ) → IsFloods floods
    → IsFloods (record { entries = map (after_renewal flood last) floods.entries; memories = floods.memories })
sound_known floods flood last s =
    let same = length_map (after_renewal flood last) floods.entries in
    record {
      few_entries = omega (arith, same, s.few_entries);
      own_keys = differ_renewal flood last floods.entries s.own_keys;
      few_memories = s.few_memories;
      own_floods = s.own_floods;
    }

pub sound_new : (floods : Floods) (flood : Origin) (last : ℕ) (told : List (FloodKey × FloodKept)) → remembers floods flood ≡ false → length floods.memories < 256 → IsFloods floods
    → IsFloods (record { entries = fold after_keep floods.entries told; memories = floods.memories ++ (flood, last) ∷ [] })
sound_new floods flood last told unknown room s =
    let one = length_push floods.memories (flood, last) in
    record {
      few_entries = few_keep_all told floods.entries s.few_entries;
      own_keys = differ_keep_all told floods.entries s.own_keys;
      few_memories = omega (arith, one, room);
      own_floods = differ_push floods.memories (flood, last) unknown s.own_floods;
    }

pub sound_drop : (floods : Floods) (key : FloodKey) → IsFloods floods → IsFloods (after_drop floods key)
sound_drop floods key s = record {
  few_entries = few_filter (λ entry. not (same_key key entry.0)) floods.entries 128 s.few_entries;
  own_keys = AllDiffer_filter (λ a b. same_key a.0 b.0) (λ entry. not (same_key key entry.0)) floods.entries s.own_keys;
  few_memories = s.few_memories;
  own_floods = s.own_floods;
}

pub sound_expiry : (floods : Floods) (now : ℕ) → IsFloods floods → IsFloods (after_expiry floods now)
sound_expiry floods now s = record {
  few_entries = few_filter (λ entry. is_after now entry.1.end) floods.entries 128 s.few_entries;
  own_keys = AllDiffer_filter (λ a b. same_key a.0 b.0) (λ entry. is_after now entry.1.end) floods.entries s.own_keys;
  few_memories = few_filter (λ memory. nat_lt now memory.1) floods.memories 256 s.few_memories;
  own_floods = AllDiffer_filter (λ a b. same_origin a.0 b.0) (λ memory. nat_lt now memory.1) floods.memories s.own_floods;
}

pub sound_heard : (floods : Floods) (now : ℕ) (flood : Origin) (ttl : ℕ) (parts : List FloodPart) → IsFloods floods
    → IsFloods (after_heard floods now flood ttl parts (heard_reply floods flood))
sound_heard floods now flood ttl parts s = by (remembers floods flood) (nat_lt (length floods.memories) 256) refl refl
  where
    by : (known room : Bool) → remembers floods flood ≡ known → nat_lt (length floods.memories) 256 ≡ room
        → IsFloods (after_heard floods now flood ttl parts (cond known Known (cond room New NoPlace)))
    by true room e l = sound_known floods flood (end_of now ttl) s
    by false true e l = sound_new floods flood (reading_after now 120000) (map (entry_of flood (end_of now ttl)) parts) e (ltb-true (length floods.memories) 256 l) s
    by false false e l = s
