-- What is told of a topic, and for how long.
use Rattle.std.proofs.Common.{◌≡◌, ℕ, ◌+◌, ◌-◌, ◌<◌, ◌≤◌, Bool, true, false, nat_lt, min, List, [], ◌∷◌, length, map, fold, All, ◌⊎◌, inl, inr, refl, sym, ap, ◌∙◌, subst, arith, ltb-true, lt-ltb}
use Rattle.std.specs.Prelude.{Any, Contains, option_map}
use Rattle.std.proofs.lemmas.List.Elements.{All-nil, All-cons, All-map, All-contains, All-weaker}
use Rattle.grasp_cbor.proofs.Facts.Lists.{all_stay}
use Rattle.grasp_discovery.specs.declared.cached.Cached.{Cached}
use Rattle.grasp_discovery.specs.Discoveries.{is_live, live, least_left, locators_of, cached_under, known_of}
use Rattle.grasp_laws_tables.specs.Discoveries.{IsToldOf, IsKnownOf, KnownIsLive}
use Rattle.grasp_laws_tables.proofs.Lists.{any_here, any_later, any_weaker, any_filter, all_any, contains_map}

-- The least of what is left

abbrev least_from : ℕ → ℕ → List Cached → ℕ
least_from now start cs = fold (λ least one. min least (one.end - now)) start cs

least_below : (now start : ℕ) (cs : List Cached) → least_from now start cs ≤ start
least_below now start [] = omega arith
least_below now start (c ∷ cs) =
    let rest = least_below now (min start (c.end - now)) cs in
    let less : min start (c.end - now) ≤ start = grind arith in
    omega (arith, rest, less)

least_each : (now start : ℕ) (cs : List Cached) → All (λ one. least_from now start cs ≤ one.end - now) cs
least_each now start [] = All-nil (λ (one : Cached). start ≤ one.end - now)
least_each now start (c ∷ cs) =
    let rest = least_below now (min start (c.end - now)) cs in
    let less : min start (c.end - now) ≤ c.end - now = grind arith in
    All-cons (λ one. least_from now start (c ∷ cs) ≤ one.end - now) c cs (omega (arith, rest, less)) (least_each now (min start (c.end - now)) cs)

least_one : (now start : ℕ) (cs : List Cached) → (least_from now start cs ≡ start) ⊎ Any (λ one. least_from now start cs ≡ one.end - now) cs
least_one now start [] = inl refl
least_one now start (c ∷ cs) = by (nat_lt start (c.end - now)) refl (least_one now (min start (c.end - now)) cs)
  where
    by : (b : Bool) → nat_lt start (c.end - now) ≡ b
        → (least_from now start (c ∷ cs) ≡ min start (c.end - now)) ⊎ Any (λ one. least_from now start (c ∷ cs) ≡ one.end - now) cs
        → (least_from now start (c ∷ cs) ≡ start) ⊎ Any (λ one. least_from now start (c ∷ cs) ≡ one.end - now) (c ∷ cs)
    by b e (inr a) = inr (any_later (λ one. least_from now start (c ∷ cs) ≡ one.end - now) c cs a)
    by true e (inl s) = let first : min start (c.end - now) ≡ start = grind (arith, e) in inl (s ∙ first)
    by false e (inl s) = let second : min start (c.end - now) ≡ c.end - now = grind (arith, e) in
        inr (any_here (λ one. least_from now start (c ∷ cs) ≡ one.end - now) c cs (s ∙ second))

-- What is told

live_one : (now : ℕ) (one : Cached) → now < one.end → is_live now one ≡ true
live_one now one h = lt-ltb now one.end h

-- each that ends later is among the live ones
live_each : (now : ℕ) (cs : List Cached) → All (λ one. now < one.end → Contains (live now cs) one) cs
live_each now cs = all_stay (is_live now) (λ one. now < one.end) (live_one now) cs

told_locator : (now : ℕ) (cs : List Cached) (one : Cached) → (now < one.end → Contains (live now cs) one)
    → now < one.end → Contains (map (λ c. c.locator) (live now cs)) one.locator
told_locator now cs one there h = contains_map (λ c. c.locator) (live now cs) one (there h)

within_one : (now : ℕ) (cs : List Cached) (one : Cached) → (now < one.end → Contains (live now cs) one)
    → now < one.end → now + least_left now (live now cs) ≤ one.end
within_one now cs one there h =
    let at_most = All-contains (λ c. least_left now (live now cs) ≤ c.end - now) (live now cs) one (least_each now 4294967295 (live now cs)) (there h) in
    omega (arith, at_most, h)

-- a live one that ends then
ends_then : (now left : ℕ) (one : Cached) → (is_live now one ≡ true) × (left ≡ one.end - now) → now + left ≡ one.end
ends_then now left one (alive, e) = let h : now < one.end = ltb-true now one.end alive in omega (arith, e, h)

least_of : (now : ℕ) (cs : List Cached) (left : ℕ) → (left ≡ 4294967295) ⊎ Any (λ one. left ≡ one.end - now) (live now cs)
    → (left ≡ 4294967295) ⊎ Any (λ one. now + left ≡ one.end) cs
least_of now cs left (inl e) = inl e
least_of now cs left (inr a) =
    inr (any_weaker (λ one. (is_live now one ≡ true) × (left ≡ one.end - now)) (λ one. now + left ≡ one.end) (ends_then now left) cs
    (any_filter (is_live now) (λ one. left ≡ one.end - now) cs a))

-- a live one is cached
cached_one : (now : ℕ) (cs : List Cached) (one : Cached) → Any (λ x. x ≡ one) (live now cs) → Any (λ x. (x.locator ≡ one.locator) × (now < x.end)) cs
cached_one now cs one a =
    any_weaker (λ x. (is_live now x ≡ true) × (x ≡ one)) (λ x. (x.locator ≡ one.locator) × (now < x.end))
    (λ x h. (ap (λ c. c.locator) h.1, ltb-true now x.end h.0)) cs (any_filter (is_live now) (λ x. x ≡ one) cs a)

only_cached : (now : ℕ) (cs : List Cached) → All (λ l. Any (λ one. (one.locator ≡ l) × (now < one.end)) cs) (map (λ c. c.locator) (live now cs))
only_cached now cs =
    All-map (λ l. Any (λ one. (one.locator ≡ l) × (now < one.end)) cs) (λ (c : Cached). c.locator) (live now cs)
    (All-weaker (λ one. Any (λ x. x ≡ one) (live now cs)) (λ one. Any (λ x. (x.locator ≡ one.locator) × (now < x.end)) cs) (cached_one now cs) (live now cs)
    (all_any (λ one x. x ≡ one) (λ x. refl) (live now cs)))

told : (now : ℕ) (cs : List Cached) → 1 ≤ length (map (λ c. c.locator) (live now cs)) → IsToldOf now cs (map (λ c. c.locator) (live now cs)) (least_left now (live now cs))
told now cs some = record {
  some = some;
  each = All-weaker (λ one. now < one.end → Contains (live now cs) one) (λ one. now < one.end → Contains (map (λ c. c.locator) (live now cs)) one.locator)
      (told_locator now cs) cs (live_each now cs);
  only = only_cached now cs;
  within = All-weaker (λ one. now < one.end → Contains (live now cs) one) (λ one. now < one.end → now + least_left now (live now cs) ≤ one.end)
      (within_one now cs) cs (live_each now cs);
  below = least_below now 4294967295 (live now cs);
  least = least_of now cs (least_left now (live now cs)) (least_one now 4294967295 (live now cs));
}

-- where none is live, all have ended
ended : (now : ℕ) (cs : List Cached) → live now cs ≡ [] → All (λ one. one.end ≤ now) cs
ended now cs none = All-weaker (λ one. now < one.end → Contains (live now cs) one) (λ one. one.end ≤ now) one_ended cs (live_each now cs)
  where
    one_ended : (one : Cached) → (now < one.end → Contains (live now cs) one) → one.end ≤ now
    one_ended one there = by (nat_lt now one.end) refl
      where
        by : (b : Bool) → nat_lt now one.end ≡ b → one.end ≤ now
        by true e =
            let here : Contains (live now cs) one = there (ltb-true now one.end e) in
            let short : here.0 < 0 = subst (λ xs. here.0 < length xs) none here.1 in
            absurd (omega (arith, short))
        by false e = grind (arith, e)

pub known_live : KnownIsLive
known_live all topic now = by (live now (cached_under topic all.entries)) refl
  where
    by : (xs : List Cached) → live now (cached_under topic all.entries) ≡ xs → IsKnownOf now (cached_under topic all.entries) (known_of all topic now)
    by [] e = subst (λ xs. IsKnownOf now (cached_under topic all.entries) (option_map (λ ls. (ls, least_left now xs)) (locators_of xs))) (sym e)
        (ended now (cached_under topic all.entries) e)
    by (x ∷ xs) e =
        let some : 1 ≤ length (map (λ (c : Cached). c.locator) (live now (cached_under topic all.entries))) =
        subst (λ ys. 1 ≤ length (map (λ (c : Cached). c.locator) ys)) (sym e) (omega arith) in
        subst (λ ys. IsToldOf now (cached_under topic all.entries) (map (λ c. c.locator) ys) (least_left now ys)
        → IsKnownOf now (cached_under topic all.entries) (option_map (λ ls. (ls, least_left now ys)) (locators_of ys))) (sym e) (λ t. t)
        (told now (cached_under topic all.entries) some)
