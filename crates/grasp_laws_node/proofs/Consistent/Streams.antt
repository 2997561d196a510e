-- What came on each stream, after each change of the records.
use Rattle.std.proofs.Common.{◌≡◌, ◌≢◌, ℕ, zero, suc, ◌<◌, Bool, true, false, cond, ◌==◌, List, [], ◌∷◌, ◌++◌, length, map, ◌⊎◌, inl, inr, Option, None, Some, is_none, slice_get, slice_set, slice_index_or, refl, sym, ap, ◌∙◌, subst, arith, All}
use Rattle.std.specs.List.{AllPairs, find, filter, remove, fold}
use Rattle.std.proofs.lemmas.Bool.{true≢false, eqb-true, ne_eqb, eq-eqb}
use Rattle.std.proofs.lemmas.Bool.Decides.{eqb_tells}
use Rattle.std.proofs.lemmas.List.{length-set, get_or-set_same}
use Rattle.std.proofs.lemmas.List.Elements.{All-nil, All-head, All-tail, All-map, All-filter, All-weaker, filter_passes}
use Rattle.std.proofs.lemmas.Option.{slice_get-get_or, same_Some}
use Rattle.grasp_asa.proofs.Lists.{found}
use Rattle.grasp_types.specs.declared.address.Address.{Address}
use Rattle.grasp_wire.specs.Cutter.{Past}
use Rattle.grasp_model_node.specs.BoundedNodes.{IsGiven}
use Rattle.grasp_model_node.specs.Streams.{StreamRecord, StreamsState, is_stream, place_of, at_place, record_of, past_in, past_of, put_past, set_past, with_past, closing, remove_place, without, with_opened, next_stream, with_dialled, closing_numbers}
use Rattle.grasp_model_node.proofs.ClosingThenGone.{place_set}
use Rattle.grasp_model_node.proofs.Facts.{first_record}
use Rattle.grasp_laws_node.proofs.Bounded.Streams.{AreStreams, next_not_given, without_kept}
use Rattle.grasp_laws_node.proofs.DrainedAll.{rising_all}
use Rattle.grasp_laws_node.proofs.OtherRecords.{others_with_past, others_without}

no_record : StreamRecord
no_record = record { number = 0; from = None; past = None }

abbrev pub AreApart : List StreamRecord → Type 0
AreApart xs = AllPairs (λ (x y : StreamRecord). ¬ (x.number ≡ y.number)) xs

-- what came on other streams is as it was
abbrev pub OthersPast : ℕ → StreamsState → StreamsState → Type 0
OthersPast stream s t = (other : ℕ) → other ≢ stream → past_of t other ≡ past_of s other

-- ---- what came on a stream is set

set_here : (stream : ℕ) (xs : List StreamRecord) (past : Option Past) (i : ℕ) (x : StreamRecord) → place_of stream xs ≡ Some i → slice_get xs i ≡ Some x
    → at_place (slice_set xs i (record x { past = past })) (place_of stream (slice_set xs i (record x { past = past }))) ≡ Some (record x { past = past })
set_here stream xs past i x e f =
    let y : StreamRecord = record x { past = past } in
    let below : i < length xs = (found (is_stream stream) xs i e).within in
    let long : length (slice_set xs i y) ≡ length xs = length-set xs i y in
    ap (at_place (slice_set xs i y)) (place_set stream past xs i x f ∙ e)
    ∙ (slice_get-get_or (slice_set xs i y) i y (omega (arith, below, long)) ∙ ap (λ (w : StreamRecord). Some w) (get_or-set_same xs i y y below))

-- a closing stream takes nothing more
pub closing_none : (s : StreamsState) (stream : ℕ) → past_of (closing s stream) stream ≡ None
closing_none s stream = by_place (place_of stream s.records) refl where
  by_record : (i : ℕ) (o : Option StreamRecord) → place_of stream s.records ≡ Some i → slice_get s.records i ≡ o
      → past_in (at_place (put_past None s.records i o) (place_of stream (put_past None s.records i o))) ≡ None
  by_record i None e f = ap (λ o. past_in (at_place s.records o)) e ∙ ap past_in f
  by_record i (Some x) e f = ap past_in (set_here stream s.records None i x e f)

  by_place : (o : Option ℕ) → place_of stream s.records ≡ o → past_in (at_place (set_past None s.records o) (place_of stream (set_past None s.records o))) ≡ None
  by_place None e = ap (λ o. past_in (at_place s.records o)) e
  by_place (Some i) e = by_record i (slice_get s.records i) e refl

-- a stream that has a record has it with another past too
pub record_set : (s : StreamsState) (stream : ℕ) (past : Option Past) (y : StreamRecord) → record_of s stream ≡ Some y → record_of (with_past s stream past) stream ≡ Some (record y { past = past })
record_set s stream past y g = by_place (place_of stream s.records) refl g where
  by_record : (i : ℕ) (o : Option StreamRecord) → place_of stream s.records ≡ Some i → slice_get s.records i ≡ o → o ≡ Some y
      → at_place (put_past past s.records i o) (place_of stream (put_past past s.records i o)) ≡ Some (record y { past = past })
  by_record i None e f h = absurd (cc)
  by_record i (Some x) e f h = set_here stream s.records past i x e f ∙ ap (λ (w : StreamRecord). Some (record w { past = past })) (same_Some x y h)

  by_place : (o : Option ℕ) → place_of stream s.records ≡ o → at_place s.records o ≡ Some y
      → at_place (set_past past s.records o) (place_of stream (set_past past s.records o)) ≡ Some (record y { past = past })
  by_place None e h = absurd (cc)
  by_place (Some i) e h = by_record i (slice_get s.records i) e refl h

pub others_past_set : (s : StreamsState) (stream : ℕ) (past : Option Past) → OthersPast stream s (with_past s stream past)
others_past_set s stream past other n = ap past_in (others_with_past stream other s past n)

-- ---- a record goes

none_found : (p : StreamRecord → Bool) (xs : List StreamRecord) → All (λ y. p y ≡ false) xs → find p xs ≡ None
none_found p [] a = refl
none_found p (x ∷ xs) a =
    let first : p x ≡ false = All-head (λ y. p y ≡ false) x xs a in
    rw first (none_found p xs (All-tail (λ y. p y ≡ false) x xs a))

apart_tail : (x : StreamRecord) (xs : List StreamRecord) → AreApart (x ∷ xs) → AreApart xs
apart_tail x xs a i j d h k = a (suc i) (suc j) d (omega (arith, h)) (omega (arith, k))

apart_head : (x : StreamRecord) (xs : List StreamRecord) → AreApart (x ∷ xs) → All (λ y. is_stream x.number y ≡ false) xs
apart_head x xs a k d h = ne_eqb (slice_index_or xs k d).number x.number (λ e. a 0 (suc k) d (omega arith) (omega (arith, h)) (sym e))

find_gone : (xs : List StreamRecord) (i : ℕ) (x : StreamRecord) → AreApart xs → slice_get xs i ≡ Some x → find (is_stream x.number) (remove xs i) ≡ None
find_gone [] i x a e = absurd (cc)
find_gone (y ∷ ys) zero x a e =
    let same : y ≡ x = cc in
    subst (λ (w : StreamRecord). find (is_stream w.number) ys ≡ None) same (none_found (is_stream y.number) ys (apart_head y ys a))
find_gone (y ∷ ys) (suc i) x a e =
    let first : is_stream x.number y ≡ false = later ys i x e (apart_head y ys a) in
    rw first (find_gone ys i x (apart_tail y ys a) e) where
      later : (zs : List StreamRecord) (k : ℕ) (w : StreamRecord) → slice_get zs k ≡ Some w → All (λ v. is_stream y.number v ≡ false) zs → is_stream w.number y ≡ false
      later [] k w f b = absurd (cc)
      later (z ∷ zs) zero w f b =
          let same : z ≡ w = cc in
          let differs : is_stream y.number z ≡ false = All-head (λ v. is_stream y.number v ≡ false) z zs b in
          ne_eqb y.number w.number (λ g. true≢false (sym (eq-eqb z.number y.number (ap (λ (u : StreamRecord). u.number) same ∙ sym g)) ∙ differs))
      later (z ∷ zs) (suc k) w f b = later zs k w f (All-tail (λ v. is_stream y.number v ≡ false) z zs b)

pub without_none : (s : StreamsState) (stream : ℕ) → AreApart s.records → past_of (without s stream) stream ≡ None
without_none s stream a = ap past_in (first_record stream (remove_place s.records (place_of stream s.records)) ∙ by_place (place_of stream s.records) refl) ∙ refl where
  by_place : (o : Option ℕ) → place_of stream s.records ≡ o → find (is_stream stream) (remove_place s.records o) ≡ None
  by_place None e = sym (first_record stream s.records) ∙ ap (at_place s.records) e
  by_place (Some i) e =
      let f = found (is_stream stream) s.records i e in
      let x : StreamRecord = slice_index_or s.records i no_record in
      subst (λ (k : ℕ). find (is_stream k) (remove s.records i) ≡ None) (eqb-true x.number stream (f.passes no_record))
      (find_gone s.records i x a (slice_get-get_or s.records i no_record f.within))

pub others_past_without : (s : StreamsState) (stream : ℕ) → OthersPast stream s (without s stream)
others_past_without s stream other n = ap past_in (others_without stream other s n)

-- the record of a closing stream
past_stays : (s : StreamsState) (stream : ℕ) → AreApart s.records → past_of s stream ≡ None → (other : ℕ) → past_of (without s stream) other ≡ past_of s other
past_stays s stream a e other = by_case (eqb_tells other stream) where
  by_case : (((other == stream) ≡ true) × (other ≡ stream)) ⊎ (((other == stream) ≡ false) × (other ≢ stream)) → past_of (without s stream) other ≡ past_of s other
  by_case (inl i) = subst (λ (k : ℕ). past_of (without s stream) k ≡ past_of s k) (sym i.1) (without_none s stream a ∙ sym e)
  by_case (inr i) = others_past_without s stream other i.1

pub fold_past : (s : StreamsState) (streams : List ℕ) → AreStreams s → All (λ stream. past_of s stream ≡ None) streams → (other : ℕ) → past_of (fold without s streams) other ≡ past_of s other
fold_past s [] a e other = refl
fold_past s (stream ∷ streams) a e other =
    let stays = past_stays s stream a.apart (All-head (λ k. past_of s k ≡ None) stream streams e) in
    fold_past (without s stream) streams (without_kept s stream a)
    (All-weaker (λ k. past_of s k ≡ None) (λ k. past_of (without s stream) k ≡ None) (λ k f. stays k ∙ f) streams (All-tail (λ k. past_of s k ≡ None) stream streams e)) other
    ∙ stays other

-- ---- the streams that are closing

own_first : (xs : List StreamRecord) → AreApart xs → All (λ x. find (is_stream x.number) xs ≡ Some x) xs
own_first [] a = All-nil (λ x. find (is_stream x.number) [] ≡ Some x)
own_first (y ∷ ys) a = λ k d h. at (own_first ys (apart_tail y ys a)) k d h where
  itself : find (is_stream y.number) (y ∷ ys) ≡ Some y
  itself = let same : is_stream y.number y ≡ true = eq-eqb y.number y.number refl in rw same refl

  later : (x : StreamRecord) → is_stream y.number x ≡ false → find (is_stream x.number) ys ≡ Some x → find (is_stream x.number) (y ∷ ys) ≡ Some x
  later x differs e =
      let first : is_stream x.number y ≡ false = ne_eqb y.number x.number (λ g. true≢false (sym (eq-eqb x.number y.number (sym g)) ∙ differs)) in
      rw first e

  at : All (λ x. find (is_stream x.number) ys ≡ Some x) ys → (k : ℕ) (d : StreamRecord) → k < length (y ∷ ys)
      → find (is_stream (slice_index_or (y ∷ ys) k d).number) (y ∷ ys) ≡ Some (slice_index_or (y ∷ ys) k d)
  at rest zero d h = itself
  at rest (suc k) d h = later (slice_index_or ys k d) (apart_head y ys a k d (omega (arith, h))) (rest k d (omega (arith, h)))

is_none_means : (o : Option Past) → is_none o ≡ true → o ≡ None
is_none_means None e = refl
is_none_means (Some past) e = absurd (true≢false (sym e))

pub closing_pasts : (s : StreamsState) → AreApart s.records → All (λ stream. past_of s stream ≡ None) (closing_numbers s)
closing_pasts s a = rising_all (λ stream. past_of s stream ≡ None) (map (λ (x : StreamRecord). x.number) shut) (All-map (λ stream. past_of s stream ≡ None) (λ (x : StreamRecord). x.number) shut each) where
  shut : List StreamRecord
  shut = filter (λ x. is_none x.past) s.records

  firsts : All (λ x. find (is_stream x.number) s.records ≡ Some x) shut
  firsts = All-filter (λ x. is_none x.past) (λ x. find (is_stream x.number) s.records ≡ Some x) s.records (own_first s.records a)

  nones : All (λ x. is_none x.past ≡ true) shut
  nones = filter_passes (λ x. is_none x.past) s.records

  each : All (λ (x : StreamRecord). past_of s x.number ≡ None) shut
  each k d h =
      let x : StreamRecord = slice_index_or shut k d in
      ap past_in (first_record x.number s.records ∙ firsts k d h) ∙ is_none_means x.past (nones k d h)

-- ---- a record comes

find_before : (p : StreamRecord → Bool) (xs : List StreamRecord) (y : StreamRecord) → p y ≡ false → find p (xs ++ y ∷ []) ≡ find p xs
find_before p [] y e = rw e refl
find_before p (x ∷ xs) y e = ap (λ o. cond (p x) (Some x) o) (find_before p xs y e)

find_last : (p : StreamRecord → Bool) (xs : List StreamRecord) (y : StreamRecord) → All (λ x. p x ≡ false) xs → p y ≡ true → find p (xs ++ y ∷ []) ≡ Some y
find_last p [] y a e = rw e refl
find_last p (x ∷ xs) y a e =
    let first : p x ≡ false = All-head (λ w. p w ≡ false) x xs a in
    rw first (find_last p xs y (All-tail (λ w. p w ≡ false) x xs a) e)

others_push : (s : StreamsState) (y : StreamRecord) (other : ℕ) → other ≢ y.number → past_in (at_place (s.records ++ y ∷ []) (place_of other (s.records ++ y ∷ []))) ≡ past_of s other
others_push s y other n =
    ap past_in (first_record other (s.records ++ y ∷ [])
    ∙ (find_before (is_stream other) s.records y (ne_eqb y.number other (λ e. n (sym e))) ∙ sym (first_record other s.records)))

pub others_past_opened : (s : StreamsState) (stream : ℕ) (from : Address) → OthersPast stream s (with_opened s stream from)
others_past_opened s stream from other n = others_push s _ other n

pub others_past_dialled : (s : StreamsState) (past : Option Past) → OthersPast (next_stream s) s (with_dialled s past)
others_past_dialled s past other n = others_push s _ other n

new_number : (s : StreamsState) → AreStreams s → All (λ x. is_stream (next_stream s) x ≡ false) s.records
new_number s a =
    All-weaker (λ (x : StreamRecord). IsGiven s.dialled x.number) (λ (x : StreamRecord). is_stream (next_stream s) x ≡ false)
    (λ x g. ne_eqb x.number (next_stream s) (λ e. next_not_given s.dialled (subst (IsGiven s.dialled) e g))) s.records a.given

next_none : (s : StreamsState) → AreStreams s → past_of s (next_stream s) ≡ None
next_none s a = ap past_in (first_record (next_stream s) s.records ∙ none_found (is_stream (next_stream s)) s.records (new_number s a))

pub next_past : (s : StreamsState) (past : Option Past) → AreStreams s → past_of (with_dialled s past) (next_stream s) ≡ past
next_past s past a =
    let y : StreamRecord = record { number = next_stream s; from = None; past = past } in
    ap past_in (first_record (next_stream s) (s.records ++ y ∷ []) ∙ find_last (is_stream (next_stream s)) s.records y (new_number s a) (eq-eqb (next_stream s) (next_stream s) refl))

-- one that is closing from the start
pub dialled_past : (s : StreamsState) → AreStreams s → (other : ℕ) → past_of (with_dialled s None) other ≡ past_of s other
dialled_past s a other = by_case (eqb_tells other (next_stream s)) where
  by_case : (((other == next_stream s) ≡ true) × (other ≡ next_stream s)) ⊎ (((other == next_stream s) ≡ false) × (other ≢ next_stream s)) → past_of (with_dialled s None) other ≡ past_of s other
  by_case (inl i) = subst (λ (k : ℕ). past_of (with_dialled s None) k ≡ past_of s k) (sym i.1) (next_past s None a ∙ sym (next_none s a))
  by_case (inr i) = others_past_dialled s None other i.1
