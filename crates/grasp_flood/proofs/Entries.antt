-- What the calls of a map do to lists of entries.
use Rattle.std.specs.Prelude.{Any}
use Rattle.std.proofs.Common.{lt-ltb, zero, suc, ◌≡◌, ℕ, ◌+◌, ◌<◌, ◌≤◌, Bool, true, false, cond, not, ◌||◌, nat_lt, List, [], ◌∷◌, ◌++◌, length, map, filter, take, slice_get, Some, is_some, refl, sym, ap, ◌∙◌, true≢false, arith}
use Rattle.std.specs.List.{list_any}
use Rattle.std.specs.Map.{lookup}
use Rattle.grasp_cbor.proofs.Facts.Lists.{map_append, filter_append, is_some_lookup}
use Rattle.grasp_cbor.proofs.Places.{take_got}
use Rattle.indexmap.specs.IndexMap.{insert_entry}
use Rattle.grasp_types.specs.declared.origin.Origin.{Origin}
use Rattle.grasp_types.specs.Same.{same_origin}
use Rattle.grasp_flood.specs.declared.keys.FloodKey.{FloodKey}
use Rattle.grasp_flood.specs.declared.kept.FloodKept.{FloodKept}
use Rattle.grasp_flood.specs.Flood.{same_key}
use Rattle.grasp_flood.specs.declared.heard.Heard.TheVariants.{Known, NoPlace, New}
use Rattle.grasp_flood.specs.Floods.{Floods, put, heard_reply}

-- a map's insert puts an entry
pub insert_entry_put : (es : List (FloodKey × FloodKept)) (key : FloodKey) (kept : FloodKept) → insert_entry same_key es key kept ≡ put (key, kept) es
insert_entry_put [] key kept = refl
insert_entry_put (e ∷ es) key kept =
    ap (λ rest. cond (same_key key e.0) ((e.0, kept) ∷ es) (e ∷ rest)) (insert_entry_put es key kept)

-- a new memory goes last
pub insert_entry_new : (flood : Origin) (last : ℕ) (es : List (Origin × ℕ)) → list_any (λ m. same_origin flood m.0) es ≡ false → insert_entry same_origin es flood last ≡ es ++ (flood, last) ∷ []
insert_entry_new flood last [] none = refl
insert_entry_new flood last (e ∷ es) none = by (same_origin flood e.0) none (insert_entry_new flood last es)
  where
    by : (b : Bool) → (b || list_any (λ m. same_origin flood m.0) es) ≡ false → (list_any (λ m. same_origin flood m.0) es ≡ false → insert_entry same_origin es flood last ≡ es ++ (flood, last) ∷ [])
        → cond b ((e.0, last) ∷ es) (e ∷ insert_entry same_origin es flood last) ≡ e ∷ (es ++ (flood, last) ∷ [])
    by true h rest = absurd (true≢false h)
    by false h rest = ap (λ xs. e ∷ xs) (rest h)

module _ {X : Type 0} (p : X → Bool) where
  filter_le : (xs : List X) → length (filter p xs) ≤ length xs
  filter_le [] = omega arith
  filter_le (x ∷ xs) = let rest = filter_le xs in
      elim (p x) as (λ b. length (cond b (x ∷ filter p xs) (filter p xs)) ≤ length (x ∷ xs)) [ true ↦ omega arith | false ↦ omega arith ]

-- fewer are left exactly where one was taken out
pub fewer_where_any : {X : Type 0} (p : X → Bool) (xs : List X) → nat_lt (length (filter (λ x. not (p x)) xs)) (length xs) ≡ list_any p xs
fewer_where_any p [] = refl
fewer_where_any p (x ∷ xs) =
    let rest = fewer_where_any p xs in
    let less = filter_le (λ x. not (p x)) xs in
    by (p x) rest less
  where
    by : (b : Bool) → nat_lt (length (filter (λ x. not (p x)) xs)) (length xs) ≡ list_any p xs → length (filter (λ x. not (p x)) xs) ≤ length xs
        → nat_lt (length (cond (not b) (x ∷ filter (λ x. not (p x)) xs) (filter (λ x. not (p x)) xs))) (length (x ∷ xs)) ≡ (b || list_any p xs)
    by true rest less = grind arith
    by false rest less = grind arith

module _ {X Y : Type 0} (p : X → Bool) (f : X → Y) (xs : List X) (i : ℕ) (x : X) where
  seam : slice_get xs i ≡ Some x → map f (filter p (take (i + 1) xs)) ≡ map f (filter p (take i xs)) ++ map f (filter p (x ∷ []))
  seam e = ap (λ zs. map f (filter p zs)) (take_got xs i x e) ∙ ap (map f) (filter_append p (take i xs) (x ∷ [])) ∙ map_append f (filter p (take i xs)) (filter p (x ∷ []))

  -- one more that passes the test
  pub passes_more : slice_get xs i ≡ Some x → p x ≡ true → map f (filter p (take (i + 1) xs)) ≡ map f (filter p (take i xs)) ++ f x ∷ []
  passes_more e t = seam e ∙ ap (λ b. map f (filter p (take i xs)) ++ map f (cond b (x ∷ []) [])) t

  -- one more that doesn't
  pub fails_more : slice_get xs i ≡ Some x → p x ≡ false → map f (filter p (take (i + 1) xs)) ≡ map f (filter p (take i xs))
  fails_more e t = seam e ∙ ap (λ b. map f (filter p (take i xs)) ++ map f (cond b (x ∷ []) [])) t ∙ append_nil (map f (filter p (take i xs)))
    where
      append_nil : (zs : List Y) → zs ++ [] ≡ zs
      append_nil [] = refl
      append_nil (z ∷ zs) = ap (λ rest. z ∷ rest) (append_nil zs)

-- what the look-up of a flood says of the memories
pub remembered_is : (flood : Origin) (es : List (Origin × ℕ)) (found answer : Bool) → found ≡ is_some (lookup (same_origin flood) es) → found ≡ answer
    → list_any (λ m. same_origin flood m.0) es ≡ answer
remembered_is flood es found answer e is = sym (is_some_lookup (same_origin flood) es) ∙ sym e ∙ is

-- a flood that isn't remembered is new where fewer than 256 are, and else has no place
pub is_new : (floods : Floods) (flood : Origin) → list_any (λ m. same_origin flood m.0) floods.memories ≡ false → length floods.memories < 256 → heard_reply floods flood ≡ New
is_new floods flood unknown room = rw (unknown, lt-ltb (length floods.memories) 256 room)

pub has_no_place : (floods : Floods) (flood : Origin) → list_any (λ m. same_origin flood m.0) floods.memories ≡ false → 256 ≤ length floods.memories → heard_reply floods flood ≡ NoPlace
has_no_place floods flood unknown full = let no : nat_lt (length floods.memories) 256 ≡ false = grind (arith, full) in rw (unknown, no)

pub is_known : (floods : Floods) (flood : Origin) → list_any (λ m. same_origin flood m.0) floods.memories ≡ true → heard_reply floods flood ≡ Known
is_known floods flood known = rw known

-- what stands at a place is in the list
pub any_at : {X : Type 0} (P : X → Type 0) (xs : List X) (i : ℕ) (x : X) → slice_get xs i ≡ Some x → P x → Any P xs
any_at P [] i x e h = absurd (cc)
any_at P (y ∷ ys) zero x e h = let same : y ≡ x = cc in (0, x, omega arith, same, h)
any_at P (y ∷ ys) (suc i) x e h = let rest = any_at P ys i x e h in (suc rest.0, rest.1, omega (arith, rest.2), rest.3, rest.4)
