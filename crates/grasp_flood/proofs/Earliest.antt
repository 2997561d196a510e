-- Nothing of a cache ends before a reading.
use Rattle.std.proofs.Common.{◌≡◌, ℕ, ◌+◌, ◌<◌, ◌≤◌, Bool, true, false, cond, nat_lt, List, [], ◌∷◌, length, map, filter, fold, take, Option, Some, None, IfSome, All, slice_get, refl, sym, ap, ◌∙◌, lt-ltb, subst, arith}
use Rattle.std.proofs.lemmas.List.Elements.{All-cons, All-head, All-tail, All-push, All-map, All-weaker}
use Rattle.grasp_cbor.proofs.Places.{take_got}
use Rattle.grasp_types.specs.declared.flood.FloodPart.{FloodPart}
use Rattle.grasp_types.specs.declared.origin.Origin.{Origin}
use Rattle.grasp_flood.specs.declared.keys.FloodKey.{FloodKey}
use Rattle.grasp_flood.specs.declared.kept.FloodKept.{FloodKept}
use Rattle.grasp_flood.specs.Flood.{same_key}
use Rattle.grasp_flood.specs.Floods.{Floods, later_end, is_after, entry_of, has_key, put, after_keep, is_made_by, after_renewal, after_expiry}

-- each of these ends at this reading or later, or never
abbrev pub KeptFrom : ℕ → List (FloodKey × FloodKept) → Type 0
KeptFrom first es = All (λ e. IfSome e.1.end (λ last. first ≤ last)) es

-- each of these ends at this reading or later
abbrev pub RememberedFrom : ℕ → List (Origin × ℕ) → Type 0
RememberedFrom first ms = All (λ m. first ≤ m.1) ms

-- An earlier reading

pub ends_before : (a b : ℕ) (last : Option ℕ) → a ≤ b → IfSome last (λ n. b ≤ n) → IfSome last (λ n. a ≤ n)
ends_before a b None le h = tt
ends_before a b (Some n) le h = omega arith

pub kept_before : (a b : ℕ) (es : List (FloodKey × FloodKept)) → a ≤ b → KeptFrom b es → KeptFrom a es
kept_before a b es le h = All-weaker (λ e. IfSome e.1.end (λ n. b ≤ n)) (λ e. IfSome e.1.end (λ n. a ≤ n)) (λ e. ends_before a b e.1.end le) es h

pub remembered_before : (a b : ℕ) (ms : List (Origin × ℕ)) → a ≤ b → RememberedFrom b ms → RememberedFrom a ms
remembered_before a b ms le h = λ k d l. let here = h k d l in omega arith

-- one more of a list of which what came before ends later
pub more_from : {X : Type 0} (P Q : X → Type 0) (xs : List X) (i : ℕ) (x : X) → slice_get xs i ≡ Some x → ((y : X) → P y → Q y) → Q x → All P (take i xs) → All Q (take (i + 1) xs)
more_from P Q xs i x at weaker one h = subst (All Q) (sym (take_got xs i x at)) (All-push Q (take i xs) x (All-weaker P Q weaker (take i xs) h) one)

-- Entries that are renewed

later_from : (first : ℕ) (a b : Option ℕ) → IfSome a (λ n. first ≤ n) → IfSome (later_end a b) (λ n. first ≤ n)
later_from first None b h = tt
later_from first (Some a) None h = tt
later_from first (Some a) (Some b) h = omega arith

renewed_from : (first : ℕ) (flood : Origin) (last : Option ℕ) (e : FloodKey × FloodKept) → IfSome e.1.end (λ n. first ≤ n) → IfSome (after_renewal flood last e).1.end (λ n. first ≤ n)
renewed_from first flood last e h =
    elim (is_made_by flood e) as (λ b. IfSome (cond b (e.0, record e.1 { end = later_end e.1.end last }) e).1.end (λ n. first ≤ n))
    [ true ↦ later_from first e.1.end last h | false ↦ h ]

pub all_renewed : (first : ℕ) (flood : Origin) (last : Option ℕ) (es : List (FloodKey × FloodKept)) → KeptFrom first es → KeptFrom first (map (after_renewal flood last) es)
all_renewed first flood last es h =
    All-map (λ e. IfSome e.1.end (λ n. first ≤ n)) (after_renewal flood last) es
    (All-weaker (λ e. IfSome e.1.end (λ n. first ≤ n)) (λ e. IfSome (after_renewal flood last e).1.end (λ n. first ≤ n)) (renewed_from first flood last) es h)

-- Entries that are kept

put_from : (first : ℕ) (new : FloodKey × FloodKept) (es : List (FloodKey × FloodKept)) → IfSome new.1.end (λ n. first ≤ n) → KeptFrom first es → KeptFrom first (put new es)
put_from first new [] one h = All-cons (λ e. IfSome e.1.end (λ n. first ≤ n)) new [] one h
put_from first new (e ∷ es) one h =
    let here = All-head (λ e. IfSome e.1.end (λ n. first ≤ n)) e es h in
    let others = All-tail (λ e. IfSome e.1.end (λ n. first ≤ n)) e es h in
    let rest = put_from first new es one others in
    elim (same_key new.0 e.0) as (λ b. KeptFrom first (cond b ((e.0, new.1) ∷ es) (e ∷ put new es))) [
      | true ↦ All-cons (λ e. IfSome e.1.end (λ n. first ≤ n)) (e.0, new.1) es one others
      | false ↦ All-cons (λ e. IfSome e.1.end (λ n. first ≤ n)) e (put new es) here rest
    ]

keep_from : (first : ℕ) (es : List (FloodKey × FloodKept)) (new : FloodKey × FloodKept) → IfSome new.1.end (λ n. first ≤ n) → KeptFrom first es → KeptFrom first (after_keep es new)
keep_from first es new one h =
    let put_in = put_from first new es one h in
    elim (has_key new.0 es) as (λ there. KeptFrom first (cond there (put new es) (cond (nat_lt (length es) 128) (put new es) es))) [
      | true ↦ put_in
      | false ↦ elim (nat_lt (length es) 128) as (λ room. KeptFrom first (cond room (put new es) es)) [ true ↦ put_in | false ↦ h ]
    ]

pub all_kept : (first : ℕ) (told es : List (FloodKey × FloodKept)) → KeptFrom first told → KeptFrom first es → KeptFrom first (fold after_keep es told)
all_kept first [] es new h = h
all_kept first (e ∷ told) es new h =
    all_kept first told (after_keep es e) (All-tail (λ e. IfSome e.1.end (λ n. first ≤ n)) e told new)
    (keep_from first es e (All-head (λ e. IfSome e.1.end (λ n. first ≤ n)) e told new) h)

-- what a flood tells ends with it
pub all_told : (first : ℕ) (flood : Origin) (last : Option ℕ) (parts : List FloodPart) → IfSome last (λ n. first ≤ n) → KeptFrom first (map (entry_of flood last) parts)
all_told first flood last parts h = All-map (λ e. IfSome e.1.end (λ n. first ≤ n)) (entry_of flood last) parts (λ k d l. h)

-- An expiry before that reading

all_pass : {X : Type 0} (p : X → Bool) (xs : List X) → All (λ x. p x ≡ true) xs → filter p xs ≡ xs
all_pass p [] h = refl
all_pass p (x ∷ xs) h =
    let rest = all_pass p xs (All-tail (λ x. p x ≡ true) x xs h) in
    ap (λ b. cond b (x ∷ filter p xs) (filter p xs)) (All-head (λ x. p x ≡ true) x xs h) ∙ ap (λ zs. x ∷ zs) rest

is_after_first : (first now : ℕ) (last : Option ℕ) → now < first → IfSome last (λ n. first ≤ n) → is_after now last ≡ true
is_after_first first now None lt h = refl
is_after_first first now (Some n) lt h = lt-ltb now n (omega arith)

-- nothing has ended before the first of all ends
pub nothing_ends : (floods : Floods) (first now : ℕ) → KeptFrom first floods.entries → RememberedFrom first floods.memories → now < first → after_expiry floods now ≡ floods
nothing_ends floods first now kept remembered lt = λ i. record {
  entries = all_pass (λ e. is_after now e.1.end) floods.entries
      (All-weaker (λ e. IfSome e.1.end (λ n. first ≤ n)) (λ e. is_after now e.1.end ≡ true) (λ e h. is_after_first first now e.1.end lt h) floods.entries kept) i;
  memories = all_pass (λ m. nat_lt now m.1) floods.memories
      (All-weaker (λ m. first ≤ m.1) (λ m. nat_lt now m.1 ≡ true) (λ m h. lt-ltb now m.1 (omega arith)) floods.memories remembered) i;
}
