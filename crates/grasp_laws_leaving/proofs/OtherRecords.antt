-- A stream that begins closing leaves the records of other streams.
use Rattle.std.proofs.Common.{◌≡◌, ◌≢◌, ℕ, zero, suc, Bool, false, true, cond, List, [], ◌∷◌, Option, None, Some, slice_get, slice_set, refl, sym, ap, ◌∙◌, subst}
use Rattle.std.specs.List.{find}
use Rattle.std.proofs.lemmas.Bool.{eqb-true, ne_eqb}
use Rattle.std.proofs.lemmas.Option.{get_or_from_slice_get, same_Some}
use Rattle.grasp_asa.proofs.Lists.{found}
use Rattle.grasp_model_node.proofs.Facts.{first_record}
use Rattle.grasp_model_node.specs.Streams.{StreamRecord, StreamsState, is_stream, place_of, record_of, put_past, set_past, closing}

-- what doesn't pass, before and after, is changed
find_set : {X : Type 0} (p : X → Bool) (xs : List X) (i : ℕ) (x z : X) → slice_get xs i ≡ Some x → p x ≡ false → p z ≡ false → find p (slice_set xs i z) ≡ find p xs
find_set p [] i x z e f g = refl
find_set p (y ∷ ys) zero x z e f g =
    let same : y ≡ x = same_Some y x e in
    let fails : p y ≡ false = ap p same ∙ f in
    rw (g, fails) refl
find_set p (y ∷ ys) (suc i) x z e f g = ap (λ o. cond (p y) (Some y) o) (find_set p ys i x z e f g)

-- the record at the place of a number hasn't another number
not_other : (stream other : ℕ) → other ≢ stream → (xs : List StreamRecord) (i : ℕ) (x : StreamRecord) → place_of stream xs ≡ Some i → slice_get xs i ≡ Some x → is_stream other x ≡ false
not_other stream other n xs i x e f =
    let passes : is_stream stream x ≡ true = subst (λ y. is_stream stream y ≡ true) (get_or_from_slice_get xs i x x f) ((found (is_stream stream) xs i e).passes x) in
    ne_eqb x.number other (λ g. n (sym g ∙ eqb-true x.number stream passes))

pub others_closing : (stream other : ℕ) (s : StreamsState) → other ≢ stream → record_of (closing s stream) other ≡ record_of s other
others_closing stream other s n = first_record other (set_past None s.records (place_of stream s.records)) ∙ (by_place (place_of stream s.records) refl ∙ sym (first_record other s.records)) where
  by_record : (i : ℕ) (o : Option StreamRecord) → place_of stream s.records ≡ Some i → slice_get s.records i ≡ o → find (is_stream other) (put_past None s.records i o) ≡ find (is_stream other) s.records
  by_record i None e f = refl
  by_record i (Some x) e f =
      let fails = not_other stream other n s.records i x e f in
      find_set (is_stream other) s.records i x (record x { past = None }) f fails fails

  by_place : (o : Option ℕ) → place_of stream s.records ≡ o → find (is_stream other) (set_past None s.records o) ≡ find (is_stream other) s.records
  by_place None e = refl
  by_place (Some i) e = by_record i (slice_get s.records i) e refl
