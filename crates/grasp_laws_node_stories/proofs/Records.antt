-- What came on a stream after each change of the records: nothing opens a stream but a dial or an opening.
use Rattle.std.proofs.Common.{◌≡◌, ◌≢◌, ℕ, zero, suc, Bool, true, false, cond, ◌==◌, List, [], ◌∷◌, ◌++◌, ◌⊎◌, inl, inr, Option, None, Some, slice_get, slice_set, slice_index_or, take, drop, refl, sym, ap, ◌∙◌, subst, arith, All}
use Rattle.std.specs.List.{AllPairs, find, remove, fold}
use Rattle.std.proofs.lemmas.Bool.{true≢false, eqb-true, ne_eqb, eq-eqb}
use Rattle.std.proofs.lemmas.Bool.Decides.{eqb_tells}
use Rattle.std.proofs.lemmas.List.Elements.{All-head, All-tail, All-cons, All-nil, All-append, All-take, All-drop}
use Rattle.std.proofs.lemmas.List.Quantifiers.{all_pairs_remove}
use Rattle.std.proofs.lemmas.Option.{slice_get-get_or, get_or_from_slice_get}
use Rattle.grasp_asa.proofs.Lists.{found, missed}
use Rattle.grasp_model_node.proofs.ClosingThenGone.{without-closing}
use Rattle.grasp_model_node.proofs.Facts.{first_record}
use Rattle.grasp_model_node.specs.Streams.{StreamRecord, StreamsState, is_stream, place_of, at_place, past_in, past_of, put_past, set_past, with_past, closing, remove_place, without}
use Rattle.grasp_wire.specs.Cutter.{Past}

no_record : StreamRecord
no_record = record { number = 0; from = None; past = None }

abbrev pub AreApart : List StreamRecord → Type 0
AreApart xs = AllPairs (λ (x y : StreamRecord). ¬ (x.number ≡ y.number)) xs

-- what came on a stream, by the first record
abbrev past_found : ℕ → List StreamRecord → Option Past
past_found stream xs = past_in (find (is_stream stream) xs)

abbrev past_at : ℕ → List StreamRecord → Option Past
past_at stream xs = past_in (at_place xs (place_of stream xs))

past_first : (stream : ℕ) (xs : List StreamRecord) → past_at stream xs ≡ past_found stream xs
past_first stream xs = ap past_in (first_record stream xs)

-- ---- a stream begins closing

closes_none : (stream : ℕ) (xs : List StreamRecord) (i : ℕ) (x : StreamRecord) (past : Past) → slice_get xs i ≡ Some x → past_found stream (slice_set xs i (record x { past = None })) ≡ Some past → past_found stream xs ≡ Some past
closes_none stream [] i x past e f = f
closes_none stream (y ∷ ys) zero x past e f = by_test (is_stream stream x) refl f where
  same : y ≡ x
  same = cc

  by_test : (b : Bool) → is_stream stream x ≡ b → past_in (cond b (Some (record x { past = None })) (find (is_stream stream) ys)) ≡ Some past → past_found stream (y ∷ ys) ≡ Some past
  by_test true g h = absurd (cc)
  by_test false g h = let fails : is_stream stream y ≡ false = ap (is_stream stream) same ∙ g in rw fails h
closes_none stream (y ∷ ys) (suc i) x past e f = by_test (is_stream stream y) f (λ h. closes_none stream ys i x past e h) where
  by_test : (b : Bool) → past_in (cond b (Some y) (find (is_stream stream) (slice_set ys i (record x { past = None })))) ≡ Some past
      → (past_found stream (slice_set ys i (record x { past = None })) ≡ Some past → past_found stream ys ≡ Some past) → past_in (cond b (Some y) (find (is_stream stream) ys)) ≡ Some past
  by_test true h rest = h
  by_test false h rest = rest h

pub closing_opens_none : (t : StreamsState) (on stream : ℕ) (past : Past) → past_of (closing t on) stream ≡ Some past → past_of t stream ≡ Some past
closing_opens_none t on stream past e = by_place (place_of on t.records) e where
  by_record : (i : ℕ) (o : Option StreamRecord) → slice_get t.records i ≡ o → past_at stream (put_past None t.records i o) ≡ Some past → past_at stream t.records ≡ Some past
  by_record i None f g = g
  by_record i (Some x) f g =
      past_first stream t.records ∙ closes_none stream t.records i x past f (sym (past_first stream (slice_set t.records i (record x { past = None }))) ∙ g)

  by_place : (o : Option ℕ) → past_at stream (set_past None t.records o) ≡ Some past → past_at stream t.records ≡ Some past
  by_place None f = f
  by_place (Some i) f = by_record i (slice_get t.records i) refl f

-- ---- each record of a stream is closing

abbrev pub AllShut : ℕ → List StreamRecord → Type 0
AllShut stream xs = All (λ (x : StreamRecord). x.number ≡ stream → x.past ≡ None) xs

shut_found : (stream : ℕ) (xs : List StreamRecord) → AllShut stream xs → past_found stream xs ≡ None
shut_found stream [] a = refl
shut_found stream (x ∷ xs) a = by_test (is_stream stream x) refl (shut_found stream xs (All-tail (λ (y : StreamRecord). y.number ≡ stream → y.past ≡ None) x xs a)) where
  by_test : (b : Bool) → is_stream stream x ≡ b → past_found stream xs ≡ None → past_in (cond b (Some x) (find (is_stream stream) xs)) ≡ None
  by_test true e rest = All-head (λ (y : StreamRecord). y.number ≡ stream → y.past ≡ None) x xs a (eqb-true x.number stream e)
  by_test false e rest = rest

pub shut_past : (t : StreamsState) (stream : ℕ) → AllShut stream t.records → past_of t stream ≡ None
shut_past t stream a = past_first stream t.records ∙ shut_found stream t.records a

apart_tail : (x : StreamRecord) (xs : List StreamRecord) → AreApart (x ∷ xs) → AreApart xs
apart_tail x xs a i j d h k = a (suc i) (suc j) d (omega (arith, h)) (omega (arith, k))

apart_head : (x : StreamRecord) (xs : List StreamRecord) → AreApart (x ∷ xs) → All (λ (y : StreamRecord). ¬ (x.number ≡ y.number)) xs
apart_head x xs a k d h = a 0 (suc k) d (omega arith) (omega (arith, h))

others_shut : (stream : ℕ) (x : StreamRecord) (xs : List StreamRecord) → x.number ≡ stream → AreApart (x ∷ xs) → AllShut stream xs
others_shut stream x xs e a k d h f = absurd (apart_head x xs a k d h (e ∙ sym f))

-- the one record of the stream begins closing
set_shut : (stream : ℕ) (xs : List StreamRecord) (i : ℕ) (x : StreamRecord) → AreApart xs → slice_get xs i ≡ Some x → x.number ≡ stream → AllShut stream (slice_set xs i (record x { past = None }))
set_shut stream [] i x a e f = absurd (cc)
set_shut stream (y ∷ ys) zero x a e f =
    let same : y ≡ x = cc in
    All-cons (λ (z : StreamRecord). z.number ≡ stream → z.past ≡ None) (record x { past = None }) ys (λ g. refl) (others_shut stream y ys (ap (λ (z : StreamRecord). z.number) same ∙ f) a)
set_shut stream (y ∷ ys) (suc i) x a e f =
    All-cons (λ (z : StreamRecord). z.number ≡ stream → z.past ≡ None) y (slice_set ys i (record x { past = None })) (λ g. absurd (apart_get ys i x (apart_head y ys a) e (g ∙ sym f)))
    (set_shut stream ys i x (apart_tail y ys a) e f) where
      apart_get : (zs : List StreamRecord) (k : ℕ) (w : StreamRecord) → All (λ (z : StreamRecord). ¬ (y.number ≡ z.number)) zs → slice_get zs k ≡ Some w → ¬ (y.number ≡ w.number)
      apart_get [] k w b g = absurd (cc)
      apart_get (z ∷ zs) zero w b g = let same : z ≡ w = cc in subst (λ (v : StreamRecord). ¬ (y.number ≡ v.number)) same (All-head (λ (v : StreamRecord). ¬ (y.number ≡ v.number)) z zs b)
      apart_get (z ∷ zs) (suc k) w b g = apart_get zs k w (All-tail (λ (v : StreamRecord). ¬ (y.number ≡ v.number)) z zs b) g

none_here : (stream : ℕ) (xs : List StreamRecord) → find (is_stream stream) xs ≡ None → AllShut stream xs
none_here stream [] e = All-nil (λ (z : StreamRecord). z.number ≡ stream → z.past ≡ None)
none_here stream (x ∷ xs) e = by_test (is_stream stream x) refl e (λ g. none_here stream xs g) where
  by_test : (b : Bool) → is_stream stream x ≡ b → cond b (Some x) (find (is_stream stream) xs) ≡ None → (find (is_stream stream) xs ≡ None → AllShut stream xs) → AllShut stream (x ∷ xs)
  by_test true f g rest = absurd (cc)
  by_test false f g rest = All-cons (λ (z : StreamRecord). z.number ≡ stream → z.past ≡ None) x xs (λ h. absurd (true≢false (sym (eq-eqb x.number stream h) ∙ f))) (rest g)

pub closing_shut : (t : StreamsState) (stream : ℕ) → AreApart t.records → AllShut stream (closing t stream).records
closing_shut t stream a = by_place (place_of stream t.records) refl where
  at : (i : ℕ) → place_of stream t.records ≡ Some i → slice_get t.records i ≡ Some (slice_index_or t.records i no_record)
  at i e = slice_get-get_or t.records i no_record (found (is_stream stream) t.records i e).within

  by_place : (o : Option ℕ) → place_of stream t.records ≡ o → AllShut stream (set_past None t.records o)
  by_place None e = none_here stream t.records (missed (is_stream stream) t.records e)
  by_place (Some i) e =
      let x : StreamRecord = slice_index_or t.records i no_record in
      subst (λ o. AllShut stream (put_past None t.records i o)) (sym (at i e))
      (set_shut stream t.records i x a (at i e) (eqb-true x.number stream ((found (is_stream stream) t.records i e).passes no_record)))

-- ---- a stream that was closing is open again

kept_found : (stream : ℕ) (xs : List StreamRecord) (i : ℕ) (x : StreamRecord) (past p : Past) → AllShut stream xs → slice_get xs i ≡ Some x → past_found stream (slice_set xs i (record x { past = Some past })) ≡ Some p → p ≡ past
kept_found stream [] i x past p a e f = absurd (cc)
kept_found stream (y ∷ ys) zero x past p a e f = by_test (is_stream stream x) f where
  by_test : (b : Bool) → past_in (cond b (Some (record x { past = Some past })) (find (is_stream stream) ys)) ≡ Some p → p ≡ past
  by_test true g = cc
  by_test false g = let none = shut_found stream ys (All-tail (λ (z : StreamRecord). z.number ≡ stream → z.past ≡ None) y ys a) in absurd (cc)
kept_found stream (y ∷ ys) (suc i) x past p a e f =
    by_test (is_stream stream y) refl f (λ h. kept_found stream ys i x past p (All-tail (λ (z : StreamRecord). z.number ≡ stream → z.past ≡ None) y ys a) e h) where
      by_test : (b : Bool) → is_stream stream y ≡ b → past_in (cond b (Some y) (find (is_stream stream) (slice_set ys i (record x { past = Some past })))) ≡ Some p
          → (past_found stream (slice_set ys i (record x { past = Some past })) ≡ Some p → p ≡ past) → p ≡ past
      by_test true g h rest = let none : y.past ≡ None = All-head (λ (z : StreamRecord). z.number ≡ stream → z.past ≡ None) y ys a (eqb-true y.number stream g) in absurd (cc)
      by_test false g h rest = rest h

pub kept_past_is : (t : StreamsState) (stream : ℕ) (past p : Past) → AllShut stream t.records → past_of (with_past t stream (Some past)) stream ≡ Some p → p ≡ past
kept_past_is t stream past p a e = by_place (place_of stream t.records) e where
  none : past_at stream t.records ≡ Some p → p ≡ past
  none f = let shut = past_first stream t.records ∙ shut_found stream t.records a in absurd (let no : None ≡ Some p = sym shut ∙ f in cc)

  by_record : (i : ℕ) (o : Option StreamRecord) → slice_get t.records i ≡ o → past_at stream (put_past (Some past) t.records i o) ≡ Some p → p ≡ past
  by_record i None f g = none g
  by_record i (Some x) f g = kept_found stream t.records i x past p a f (sym (past_first stream (slice_set t.records i (record x { past = Some past }))) ∙ g)

  by_place : (o : Option ℕ) → past_at stream (set_past (Some past) t.records o) ≡ Some p → p ≡ past
  by_place None f = none f
  by_place (Some i) f = by_record i (slice_get t.records i) refl f

-- ---- other streams

find_set : (p : StreamRecord → Bool) (xs : List StreamRecord) (i : ℕ) (x z : StreamRecord) → slice_get xs i ≡ Some x → p x ≡ false → p z ≡ false → find p (slice_set xs i z) ≡ find p xs
find_set p [] i x z e f g = refl
find_set p (y ∷ ys) zero x z e f g =
    let same : y ≡ x = cc in
    let fails : p y ≡ false = ap p same ∙ f in
    rw (g, fails) refl
find_set p (y ∷ ys) (suc i) x z e f g = ap (λ o. cond (p y) (Some y) o) (find_set p ys i x z e f g)

find_remove : (p : StreamRecord → Bool) (xs : List StreamRecord) (i : ℕ) (x : StreamRecord) → slice_get xs i ≡ Some x → p x ≡ false → find p (remove xs i) ≡ find p xs
find_remove p [] i x e f = absurd (cc)
find_remove p (y ∷ ys) zero x e f =
    let same : y ≡ x = cc in
    let fails : p y ≡ false = ap p same ∙ f in
    rw fails refl
find_remove p (y ∷ ys) (suc i) x e f = ap (λ o. cond (p y) (Some y) o) (find_remove p ys i x e f)

not_other : (on stream : ℕ) → on ≢ stream → (xs : List StreamRecord) (i : ℕ) (x : StreamRecord) → place_of on xs ≡ Some i → slice_get xs i ≡ Some x → is_stream stream x ≡ false
not_other on stream d xs i x e f =
    let passes : is_stream on x ≡ true = subst (λ y. is_stream on y ≡ true) (get_or_from_slice_get xs i x x f) ((found (is_stream on) xs i e).passes x) in
    ne_eqb x.number stream (λ g. d (sym (eqb-true x.number on passes) ∙ g))

pub other_past : (t : StreamsState) (on stream : ℕ) (past : Option Past) → on ≢ stream → past_of (with_past t on past) stream ≡ past_of t stream
other_past t on stream past d = by_place (place_of on t.records) refl where
  by_record : (i : ℕ) (o : Option StreamRecord) → place_of on t.records ≡ Some i → slice_get t.records i ≡ o → past_at stream (put_past past t.records i o) ≡ past_at stream t.records
  by_record i None e f = refl
  by_record i (Some x) e f =
      let fails = not_other on stream d t.records i x e f in
      past_first stream (slice_set t.records i (record x { past = past }))
      ∙ (ap past_in (find_set (is_stream stream) t.records i x (record x { past = past }) f fails fails) ∙ sym (past_first stream t.records))

  by_place : (o : Option ℕ) → place_of on t.records ≡ o → past_at stream (set_past past t.records o) ≡ past_at stream t.records
  by_place None e = refl
  by_place (Some i) e = by_record i (slice_get t.records i) e refl

pub other_without : (t : StreamsState) (on stream : ℕ) → on ≢ stream → past_of (without t on) stream ≡ past_of t stream
other_without t on stream d = by_place (place_of on t.records) refl where
  at : (i : ℕ) → place_of on t.records ≡ Some i → slice_get t.records i ≡ Some (slice_index_or t.records i no_record)
  at i e = slice_get-get_or t.records i no_record (found (is_stream on) t.records i e).within

  by_place : (o : Option ℕ) → place_of on t.records ≡ o → past_at stream (remove_place t.records o) ≡ past_at stream t.records
  by_place None e = refl
  by_place (Some i) e =
      let x : StreamRecord = slice_index_or t.records i no_record in
      past_first stream (remove t.records i)
      ∙ (ap past_in (find_remove (is_stream stream) t.records i x (at i e) (not_other on stream d t.records i x e (at i e))) ∙ sym (past_first stream t.records))

-- ---- a record goes

shut_without : (stream on : ℕ) (t : StreamsState) → AllShut stream t.records → AllShut stream (without t on).records
shut_without stream on t a = by_place (place_of on t.records) where
  by_place : (o : Option ℕ) → AllShut stream (remove_place t.records o)
  by_place None = a
  by_place (Some i) =
      All-append (λ (z : StreamRecord). z.number ≡ stream → z.past ≡ None) (take i t.records) (drop (suc i) t.records)
      (All-take (λ (z : StreamRecord). z.number ≡ stream → z.past ≡ None) i t.records a) (All-drop (λ (z : StreamRecord). z.number ≡ stream → z.past ≡ None) (suc i) t.records a)

pub shut_gone : (t : StreamsState) (stream : ℕ) → AllShut stream t.records → past_of (without t stream) stream ≡ None
shut_gone t stream a = shut_past (without t stream) stream (shut_without stream stream t a)

pub without_none : (t : StreamsState) (stream : ℕ) → AreApart t.records → past_of (without t stream) stream ≡ None
without_none t stream a = ap (λ (s : StreamsState). past_of s stream) (sym (without-closing t stream)) ∙ shut_gone (closing t stream) stream (closing_shut t stream a)

pub without_opens_none : (t : StreamsState) (on stream : ℕ) (past : Past) → AreApart t.records → past_of (without t on) stream ≡ Some past → past_of t stream ≡ Some past
without_opens_none t on stream past a e = by_case (eqb_tells on stream) where
  by_case : (((on == stream) ≡ true) × (on ≡ stream)) ⊎ (((on == stream) ≡ false) × (on ≢ stream)) → past_of t stream ≡ Some past
  by_case (inl i) =
      let gone : past_of (without t on) stream ≡ None = subst (λ k. past_of (without t k) stream ≡ None) (sym i.1) (without_none t stream a) in
      let no : None ≡ Some past = sym gone ∙ e in absurd (cc)
  by_case (inr i) = sym (other_without t on stream i.1) ∙ e

apart_without : (t : StreamsState) (on : ℕ) → AreApart t.records → AreApart (without t on).records
apart_without t on a = by_place (place_of on t.records) refl where
  by_place : (o : Option ℕ) → place_of on t.records ≡ o → AreApart (remove_place t.records o)
  by_place None e = a
  by_place (Some i) e = all_pairs_remove (λ (x y : StreamRecord). ¬ (x.number ≡ y.number)) t.records i (found (is_stream on) t.records i e).within a

pub fold_opens_none : (t : StreamsState) (streams : List ℕ) (stream : ℕ) (past : Past) → AreApart t.records → past_of (fold without t streams) stream ≡ Some past → past_of t stream ≡ Some past
fold_opens_none t [] stream past a e = e
fold_opens_none t (on ∷ streams) stream past a e =
    without_opens_none t on stream past a (fold_opens_none (without t on) streams stream past (apart_without t on a) e)

-- ---- a record comes

-- the stream was open with this past, or it is that of the record that comes
abbrev pub IsOpened : Option Past → StreamRecord → ℕ → Past → Type 0
IsOpened before y stream past = (before ≡ Some past) ⊎ ((before ≡ None) × (y.number ≡ stream) × (y.past ≡ Some past))

more_found : (stream : ℕ) (xs : List StreamRecord) (y : StreamRecord) (past : Past) → past_found stream (xs ++ y ∷ []) ≡ Some past → IsOpened (past_found stream xs) y stream past
more_found stream [] y past e = by_test (is_stream stream y) refl e where
  by_test : (b : Bool) → is_stream stream y ≡ b → past_in (cond b (Some y) None) ≡ Some past → IsOpened None y stream past
  by_test true f g = inr (refl, eqb-true y.number stream f, g)
  by_test false f g = absurd (cc)
more_found stream (x ∷ xs) y past e = by_test (is_stream stream x) e (λ f. more_found stream xs y past f) where
  by_test : (b : Bool) → past_in (cond b (Some x) (find (is_stream stream) (xs ++ y ∷ []))) ≡ Some past
      → (past_found stream (xs ++ y ∷ []) ≡ Some past → IsOpened (past_found stream xs) y stream past) → IsOpened (past_in (cond b (Some x) (find (is_stream stream) xs))) y stream past
  by_test true f rest = inl f
  by_test false f rest = rest f

-- what is open with one more record was open, or is that one
pub more_opens : (t : StreamsState) (y : StreamRecord) (stream : ℕ) (past : Past) → past_in (at_place (t.records ++ y ∷ []) (place_of stream (t.records ++ y ∷ []))) ≡ Some past
    → IsOpened (past_of t stream) y stream past
more_opens t y stream past e =
    subst (λ o. IsOpened o y stream past) (sym (past_first stream t.records)) (more_found stream t.records y past (sym (past_first stream (t.records ++ y ∷ [])) ∙ e))

-- ---- an open stream has a record

given_found : (P : ℕ → Type 0) (stream : ℕ) (xs : List StreamRecord) (past : Past) → All (λ (x : StreamRecord). P x.number) xs → past_found stream xs ≡ Some past → P stream
given_found P stream [] past a e = absurd (cc)
given_found P stream (x ∷ xs) past a e = by_test (is_stream stream x) refl e (λ f. given_found P stream xs past (All-tail (λ (y : StreamRecord). P y.number) x xs a) f) where
  by_test : (b : Bool) → is_stream stream x ≡ b → past_in (cond b (Some x) (find (is_stream stream) xs)) ≡ Some past → (past_found stream xs ≡ Some past → P stream) → P stream
  by_test true f g rest = subst P (eqb-true x.number stream f) (All-head (λ (y : StreamRecord). P y.number) x xs a)
  by_test false f g rest = rest g

pub open_number : (P : ℕ → Type 0) (t : StreamsState) (stream : ℕ) (past : Past) → All (λ (x : StreamRecord). P x.number) t.records → past_of t stream ≡ Some past → P stream
open_number P t stream past a e = given_found P stream t.records past a (sym (past_first stream t.records) ∙ e)
