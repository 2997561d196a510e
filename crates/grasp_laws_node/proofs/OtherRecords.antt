-- What is done to the record of one stream leaves the records of other streams.
use Rattle.std.proofs.Common.{◌≡◌, ◌≢◌, ℕ, zero, suc, Bool, true, false, cond, List, [], ◌∷◌, ◌++◌, Option, None, Some, slice_get, slice_set, slice_index_or, refl, sym, ap, ◌∙◌, subst}
use Rattle.std.specs.List.{find, remove}
use Rattle.std.proofs.lemmas.Bool.{eqb-true, ne_eqb}
use Rattle.std.proofs.lemmas.Option.{slice_get-get_or, get_or_from_slice_get}
use Rattle.grasp_asa.proofs.Lists.{found}
use Rattle.grasp_wire.specs.Cutter.{Past}
use Rattle.grasp_model_node.proofs.Facts.{first_record}
use Rattle.grasp_model_node.specs.Streams.{StreamRecord, StreamsState, is_stream, place_of, at_place, record_of, put_past, set_past, with_past, remove_place, without, next_stream}

-- ---- lists

-- what doesn't pass, before and after, is changed
find_set : {X : Type 0} (p : X → Bool) (xs : List X) (i : ℕ) (x z : X) → slice_get xs i ≡ Some x → p x ≡ false → p z ≡ false → find p (slice_set xs i z) ≡ find p xs
find_set p [] i x z e f g = refl
find_set p (y ∷ ys) zero x z e f g =
    let same : y ≡ x = cc in
    let fails : p y ≡ false = ap p same ∙ f in
    rw (g, fails) refl
find_set p (y ∷ ys) (suc i) x z e f g = ap (λ o. cond (p y) (Some y) o) (find_set p ys i x z e f g)

-- what doesn't pass is removed
find_remove : {X : Type 0} (p : X → Bool) (xs : List X) (i : ℕ) (x : X) → slice_get xs i ≡ Some x → p x ≡ false → find p (remove xs i) ≡ find p xs
find_remove p [] i x e f = absurd (cc)
find_remove p (y ∷ ys) zero x e f =
    let same : y ≡ x = cc in
    let fails : p y ≡ false = ap p same ∙ f in
    rw fails refl
find_remove p (y ∷ ys) (suc i) x e f = ap (λ o. cond (p y) (Some y) o) (find_remove p ys i x e f)

-- what was found is found with more behind it
find_more : {X : Type 0} (p : X → Bool) (xs ys : List X) (y : X) → find p xs ≡ Some y → find p (xs ++ ys) ≡ Some y
find_more p [] ys y e = absurd (cc)
find_more p (x ∷ xs) ys y e = by_test (p x) (find_more p xs ys y) e where
  by_test : (b : Bool) → (find p xs ≡ Some y → find p (xs ++ ys) ≡ Some y) → cond b (Some x) (find p xs) ≡ Some y → cond b (Some x) (find p (xs ++ ys)) ≡ Some y
  by_test true rest f = f
  by_test false rest f = rest f

-- ---- records

-- lists in which the same record of a number comes first
same_first : (other : ℕ) (xs ys : List StreamRecord) → find (is_stream other) ys ≡ find (is_stream other) xs → at_place ys (place_of other ys) ≡ at_place xs (place_of other xs)
same_first other xs ys e = first_record other ys ∙ (e ∙ sym (first_record other xs))

-- the record at the place of a number hasn't another number
not_other : (stream other : ℕ) → other ≢ stream → (xs : List StreamRecord) (i : ℕ) (x : StreamRecord) → place_of stream xs ≡ Some i → slice_get xs i ≡ Some x → is_stream other x ≡ false
not_other stream other n xs i x e f =
    let passes : is_stream stream x ≡ true = subst (λ y. is_stream stream y ≡ true) (get_or_from_slice_get xs i x x f) ((found (is_stream stream) xs i e).passes x) in
    ne_eqb x.number other (λ g. n (sym g ∙ eqb-true x.number stream passes))

-- what came on a stream
pub others_with_past : (stream other : ℕ) (s : StreamsState) (past : Option Past) → other ≢ stream → record_of (with_past s stream past) other ≡ record_of s other
others_with_past stream other s past n = same_first other s.records (set_past past s.records (place_of stream s.records)) (by_place (place_of stream s.records) refl) where
  by_record : (i : ℕ) (o : Option StreamRecord) → place_of stream s.records ≡ Some i → slice_get s.records i ≡ o → find (is_stream other) (put_past past s.records i o) ≡ find (is_stream other) s.records
  by_record i None e f = refl
  by_record i (Some x) e f =
      let fails = not_other stream other n s.records i x e f in
      find_set (is_stream other) s.records i x (record x { past = past }) f fails fails

  by_place : (o : Option ℕ) → place_of stream s.records ≡ o → find (is_stream other) (set_past past s.records o) ≡ find (is_stream other) s.records
  by_place None e = refl
  by_place (Some i) e = by_record i (slice_get s.records i) e refl

-- a record goes
pub others_without : (stream other : ℕ) (s : StreamsState) → other ≢ stream → record_of (without s stream) other ≡ record_of s other
others_without stream other s n = same_first other s.records (remove_place s.records (place_of stream s.records)) (by_place (place_of stream s.records) refl) where
  none : StreamRecord
  none = record { number = 0; from = None; past = None }

  at : (i : ℕ) → place_of stream s.records ≡ Some i → slice_get s.records i ≡ Some (slice_index_or s.records i none)
  at i e = slice_get-get_or s.records i none (found (is_stream stream) s.records i e).within

  by_place : (o : Option ℕ) → place_of stream s.records ≡ o → find (is_stream other) (remove_place s.records o) ≡ find (is_stream other) s.records
  by_place None e = refl
  by_place (Some i) e =
      let x = slice_index_or s.records i none in
      find_remove (is_stream other) s.records i x (at i e) (not_other stream other n s.records i x e (at i e))

-- the record of the stream that is dialled next
abbrev pub next_record : StreamsState → Option Past → StreamRecord
next_record s past = record { number = next_stream s; from = None; past = past }

-- more records, behind the others
pub kept_with_more : (other : ℕ) (xs ys : List StreamRecord) (y : StreamRecord) → at_place xs (place_of other xs) ≡ Some y → at_place (xs ++ ys) (place_of other (xs ++ ys)) ≡ Some y
kept_with_more other xs ys y e = first_record other (xs ++ ys) ∙ find_more (is_stream other) xs ys y (sym (first_record other xs) ∙ e)
