-- No two records have one number: so what is so of the records of every other number is so of all, once the one of this number isn't open.
use Rattle.std.proofs.Common.{◌≡◌, ◌≢◌, refl, sym, ap, ◌∙◌, arith, ℕ, zero, suc, ◌<◌, Bool, true, false, cond, List, [], ◌∷◌, length, Option, None, Some, slice_get, slice_set, slice_index_or, All}
use Rattle.std.specs.List.{AllPairs, find, remove}
use Rattle.std.proofs.lemmas.Bool.{true≢false, eq-eqb}
use Rattle.std.proofs.lemmas.List.Elements.{All-cons, All-head, All-tail}
use Rattle.std.proofs.lemmas.Option.{none-some, slice_get_within, slice_get-get_or, same_Some}
use Rattle.grasp_asa.proofs.Lists.{missed}
use Rattle.grasp_wire.specs.Cutter.{Past}
use Rattle.grasp_model_node.specs.Streams.{StreamRecord, StreamsState, is_stream, place_of, at_place, past_in, past_of, put_past, set_past, closing, remove_place, without}
use Rattle.grasp_laws_node.proofs.Records.Moves.{OpenHolds, here, no_place}

abbrev pub AreApart : List StreamRecord → Type 0
AreApart xs = AllPairs (λ (x y : StreamRecord). ¬ (x.number ≡ y.number)) xs

-- the property, asked only of the records of other streams than this one
abbrev pub But : ℕ → (ℕ → Past → Type 0) → ℕ → Past → Type 0
But stream Q number past = number ≢ stream → Q number past

differs : (Q : ℕ → Past → Type 0) (stream : ℕ) (x : StreamRecord) → x.number ≢ stream → OpenHolds (But stream Q) x → OpenHolds Q x
differs Q stream x n o = record { holds = λ past e. o.holds past e n }

shut : (Q : ℕ → Past → Type 0) (x : StreamRecord) → x.past ≡ None → OpenHolds Q x
shut Q x none = record { holds = λ past e. absurd (none-some past (sym none ∙ e)) }

-- ---- lists

tail_apart : (x : StreamRecord) (xs : List StreamRecord) → AreApart (x ∷ xs) → AreApart xs
tail_apart x xs a i j d h k = a (suc i) (suc j) d (omega (arith, h)) (omega (arith, k))

head_apart : (x : StreamRecord) (xs : List StreamRecord) (i : ℕ) (y : StreamRecord) → AreApart (x ∷ xs) → slice_get xs i ≡ Some y → x.number ≢ y.number
head_apart x xs i y a e f =
    let within : i < length xs = slice_get_within xs i y e in
    let same : y ≡ slice_index_or xs i y = same_Some y (slice_index_or xs i y) (sym e ∙ slice_get-get_or xs i y within) in
    a 0 (suc i) y (omega arith) (omega (arith, within)) (f ∙ ap (λ (z : StreamRecord). z.number) same)

-- where the first record has the number, no other one has it
behind_first : (Q : ℕ → Past → Type 0) (stream : ℕ) (x : StreamRecord) (xs : List StreamRecord) → AreApart (x ∷ xs) → x.number ≡ stream → All (OpenHolds (But stream Q)) xs → All (OpenHolds Q) xs
behind_first Q stream x xs a is all k d h = differs Q stream (slice_index_or xs k d) (λ e. a 0 (suc k) d (omega arith) (omega (arith, h)) (is ∙ sym e)) (all k d h)

-- where a later record has the number, the first one hasn't
before_later : (Q : ℕ → Past → Type 0) (stream : ℕ) (y : StreamRecord) (ys : List StreamRecord) (i : ℕ) (x : StreamRecord) → AreApart (y ∷ ys) → slice_get ys i ≡ Some x → x.number ≡ stream
    → All (OpenHolds (But stream Q)) (y ∷ ys) → OpenHolds Q y
before_later Q stream y ys i x a e is all = differs Q stream y (λ f. head_apart y ys i x a e (f ∙ sym is)) (All-head (OpenHolds (But stream Q)) y ys all)

-- the record of the number is closed, gone, or isn't open
set_all : (Q : ℕ → Past → Type 0) (stream : ℕ) (xs : List StreamRecord) (i : ℕ) (x z : StreamRecord) → AreApart xs → slice_get xs i ≡ Some x → x.number ≡ stream → OpenHolds Q z → All (OpenHolds (But stream Q)) xs
    → All (OpenHolds Q) (slice_set xs i z)
set_all Q stream [] i x z a e is o all = absurd (none-some x e)
set_all Q stream (y ∷ ys) zero x z a e is o all =
    All-cons (OpenHolds Q) z ys o
    (behind_first Q stream y ys a (ap (λ (w : StreamRecord). w.number) (same_Some y x e) ∙ is) (All-tail (OpenHolds (But stream Q)) y ys all))
set_all Q stream (y ∷ ys) (suc i) x z a e is o all =
    All-cons (OpenHolds Q) y (slice_set ys i z) (before_later Q stream y ys i x a e is all)
    (set_all Q stream ys i x z (tail_apart y ys a) e is o (All-tail (OpenHolds (But stream Q)) y ys all))

remove_all : (Q : ℕ → Past → Type 0) (stream : ℕ) (xs : List StreamRecord) (i : ℕ) (x : StreamRecord) → AreApart xs → slice_get xs i ≡ Some x → x.number ≡ stream → All (OpenHolds (But stream Q)) xs
    → All (OpenHolds Q) (remove xs i)
remove_all Q stream [] i x a e is all = absurd (none-some x e)
remove_all Q stream (y ∷ ys) zero x a e is all =
    behind_first Q stream y ys a (ap (λ (w : StreamRecord). w.number) (same_Some y x e) ∙ is) (All-tail (OpenHolds (But stream Q)) y ys all)
remove_all Q stream (y ∷ ys) (suc i) x a e is all =
    All-cons (OpenHolds Q) y (remove ys i) (before_later Q stream y ys i x a e is all) (remove_all Q stream ys i x (tail_apart y ys a) e is (All-tail (OpenHolds (But stream Q)) y ys all))

stays_all : (Q : ℕ → Past → Type 0) (stream : ℕ) (xs : List StreamRecord) (i : ℕ) (x : StreamRecord) → AreApart xs → slice_get xs i ≡ Some x → x.number ≡ stream → x.past ≡ None → All (OpenHolds (But stream Q)) xs
    → All (OpenHolds Q) xs
stays_all Q stream [] i x a e is none all = absurd (none-some x e)
stays_all Q stream (y ∷ ys) zero x a e is none all =
    All-cons (OpenHolds Q) y ys (shut Q y (ap (λ (w : StreamRecord). w.past) (same_Some y x e) ∙ none))
    (behind_first Q stream y ys a (ap (λ (w : StreamRecord). w.number) (same_Some y x e) ∙ is) (All-tail (OpenHolds (But stream Q)) y ys all))
stays_all Q stream (y ∷ ys) (suc i) x a e is none all =
    All-cons (OpenHolds Q) y ys (before_later Q stream y ys i x a e is all) (stays_all Q stream ys i x (tail_apart y ys a) e is none (All-tail (OpenHolds (But stream Q)) y ys all))

-- no record has the number
not_found : (stream : ℕ) (xs : List StreamRecord) → find (is_stream stream) xs ≡ None → (k : ℕ) (d : StreamRecord) → k < length xs → is_stream stream (slice_index_or xs k d) ≡ false
not_found stream [] e k d h = absurd (omega (arith, h))
not_found stream (x ∷ xs) e k d h = by_test (is_stream stream x) refl e k h (not_found stream xs) where
  by_test : (b : Bool) → is_stream stream x ≡ b → cond b (Some x) (find (is_stream stream) xs) ≡ None → (i : ℕ) → i < length (x ∷ xs)
      → (find (is_stream stream) xs ≡ None → (j : ℕ) (c : StreamRecord) → j < length xs → is_stream stream (slice_index_or xs j c) ≡ false) → is_stream stream (slice_index_or (x ∷ xs) i d) ≡ false
  by_test true is f i g rest = absurd (none-some x (sym f))
  by_test false is f zero g rest = is
  by_test false is f (suc i) g rest = rest f i d (omega (arith, g))

none_has : (Q : ℕ → Past → Type 0) (stream : ℕ) (xs : List StreamRecord) → place_of stream xs ≡ None → All (OpenHolds (But stream Q)) xs → All (OpenHolds Q) xs
none_has Q stream xs none all k d h =
    differs Q stream (slice_index_or xs k d)
    (λ e. true≢false (sym (eq-eqb (slice_index_or xs k d).number stream e) ∙ not_found stream xs (missed (is_stream stream) xs none) k d h)) (all k d h)

-- ---- streams

pub closing_has : (Q : ℕ → Past → Type 0) (stream : ℕ) (s : StreamsState) → AreApart s.records → All (OpenHolds (But stream Q)) s.records → All (OpenHolds Q) (closing s stream).records
closing_has Q stream s a all = by_place (place_of stream s.records) refl where
  by_record : (i : ℕ) (o : Option StreamRecord) → place_of stream s.records ≡ Some i → slice_get s.records i ≡ o → All (OpenHolds Q) (put_past None s.records i o)
  by_record i None e f = absurd (no_place stream s.records i e f)
  by_record i (Some x) e f = set_all Q stream s.records i x (record x { past = None }) a f (here stream s.records i x e f) (shut Q (record x { past = None }) refl) all

  by_place : (o : Option ℕ) → place_of stream s.records ≡ o → All (OpenHolds Q) (set_past None s.records o)
  by_place None e = none_has Q stream s.records e all
  by_place (Some i) e = by_record i (slice_get s.records i) e refl

pub without_has : (Q : ℕ → Past → Type 0) (stream : ℕ) (s : StreamsState) → AreApart s.records → All (OpenHolds (But stream Q)) s.records → All (OpenHolds Q) (without s stream).records
without_has Q stream s a all = by_place (place_of stream s.records) refl where
  by_record : (i : ℕ) (o : Option StreamRecord) → place_of stream s.records ≡ Some i → slice_get s.records i ≡ o → All (OpenHolds Q) (remove s.records i)
  by_record i None e f = absurd (no_place stream s.records i e f)
  by_record i (Some x) e f = remove_all Q stream s.records i x a f (here stream s.records i x e f) all

  by_place : (o : Option ℕ) → place_of stream s.records ≡ o → All (OpenHolds Q) (remove_place s.records o)
  by_place None e = none_has Q stream s.records e all
  by_place (Some i) e = by_record i (slice_get s.records i) e refl

pub none_open : (Q : ℕ → Past → Type 0) (stream : ℕ) (s : StreamsState) → AreApart s.records → past_of s stream ≡ None → All (OpenHolds (But stream Q)) s.records → All (OpenHolds Q) s.records
none_open Q stream s a none all = by_place (place_of stream s.records) refl where
  by_record : (i : ℕ) (o : Option StreamRecord) → place_of stream s.records ≡ Some i → slice_get s.records i ≡ o → All (OpenHolds Q) s.records
  by_record i None e f = absurd (no_place stream s.records i e f)
  by_record i (Some x) e f =
      stays_all Q stream s.records i x a f (here stream s.records i x e f) (sym (ap (λ o. past_in (at_place s.records o)) e ∙ ap past_in f) ∙ none) all

  by_place : (o : Option ℕ) → place_of stream s.records ≡ o → All (OpenHolds Q) s.records
  by_place None e = none_has Q stream s.records e all
  by_place (Some i) e = by_record i (slice_get s.records i) e refl
