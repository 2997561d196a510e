-- The streams that are closing, by rising number, and what is left of the records once some have gone.
use Rattle.std.proofs.Common.{◌≡◌, ◌≢◌, ◌≤◌, ◌<◌, ◌-◌, ◌==◌, ◌⊎◌, inl, inr, ℕ, zero, suc, nat_le, Bool, true, false, cond, not, ◌||◌, List, [], ◌∷◌, length, map, filter, take, drop, fold, All, Option, None, Some, is_none, refl, sym, ap, ◌∙◌, subst, arith, slice_index_or, length-drop}
use Rattle.std.specs.List.{list_any}
use Rattle.std.specs.Prelude.{AllPairs, Contains, remove}
use Rattle.std.proofs.lemmas.Bool.{false≢true, eqb-true, ne_eqb}
use Rattle.std.proofs.lemmas.Bool.Decides.{leb_tells}
use Rattle.std.proofs.lemmas.List.Elements.{All-nil, All-cons, All-head, All-tail, All-weaker, All-map, All-filter, All-contains, All-contains_itself, filter_passes}
use Rattle.std.proofs.lemmas.List.Kept.{AllPairs-cons}
use Rattle.std.proofs.lemmas.List.Quantifiers.{all_pairs_remove, position-Some}
use Rattle.grasp_asa.proofs.Lists.{found, missed, none_at}
use Rattle.grasp_cbor.proofs.Facts.Lists.{missed as missed_any}
use Rattle.grasp_laws_sending.specs.Draining.{IsClosing, Closings}
use Rattle.grasp_laws_tables.proofs.Lists.{contains_map, filter_keeps}
use Rattle.grasp_model_node.specs.BoundedNodes.{IsBoundedNode}
use Rattle.grasp_model_node.specs.Draining.{closes_behind, closes}
use Rattle.grasp_model_node.specs.Node.{NodeState}
use Rattle.grasp_model_node.specs.Queue.{Queued}
use Rattle.grasp_wire.specs.Cutter.{Past}
use Rattle.grasp_model_node.specs.Streams.{StreamRecord, StreamsState, is_stream, place_of, remove_place, without, put_number, rising, closing_numbers}

-- ---- numbers in rising order

put_all : (P : ℕ → Type 0) (n : ℕ) (ms : List ℕ) → P n → All P ms → All P (put_number n ms)
put_all P n [] p h = All-cons P n [] p h
put_all P n (m ∷ ms) p h = by (nat_le n m) (put_all P n ms p (All-tail P m ms h)) where
  by : (b : Bool) → All P (put_number n ms) → All P (cond b (n ∷ m ∷ ms) (m ∷ put_number n ms))
  by true r = All-cons P n (m ∷ ms) p h
  by false r = All-cons P m (put_number n ms) (All-head P m ms h) r

put_back : (P : ℕ → Type 0) (n : ℕ) (ms : List ℕ) → All P (put_number n ms) → P n × All P ms
put_back P n [] h = (All-head P n [] h, All-nil P)
put_back P n (m ∷ ms) h = by (nat_le n m) (λ k. put_back P n ms k) h where
  by : (b : Bool) → (All P (put_number n ms) → P n × All P ms) → All P (cond b (n ∷ m ∷ ms) (m ∷ put_number n ms)) → P n × All P (m ∷ ms)
  by true r k = (All-head P n (m ∷ ms) k, All-tail P n (m ∷ ms) k)
  by false r k = let rest = r (All-tail P m (put_number n ms) k) in (rest.0, All-cons P m ms (All-head P m (put_number n ms) k) rest.1)

pub rising_all : (P : ℕ → Type 0) (ns : List ℕ) → All P ns → All P (rising ns)
rising_all P [] h = h
rising_all P (n ∷ ns) h = put_all P n (rising ns) (All-head P n ns h) (rising_all P ns (All-tail P n ns h))

rising_back : (P : ℕ → Type 0) (ns : List ℕ) → All P (rising ns) → All P ns
rising_back P [] h = h
rising_back P (n ∷ ns) h = let b = put_back P n (rising ns) h in All-cons P n ns b.0 (rising_back P ns b.1)

abbrev Less : ℕ → ℕ → Type 0
Less a b = a < b

abbrev Other : ℕ → ℕ → Type 0
Other a b = a ≢ b

head_pairs : {X : Type 0} (R : X → X → Type 0) (x : X) (xs : List X) → AllPairs R (x ∷ xs) → All (R x) xs
head_pairs R x xs h = λ j d lt. h 0 (suc j) d (omega arith) (omega arith)

tail_pairs : {X : Type 0} (R : X → X → Type 0) (x : X) (xs : List X) → AllPairs R (x ∷ xs) → AllPairs R xs
tail_pairs R x xs h = λ i j d lt within. h (suc i) (suc j) d (omega arith) (omega arith)

put_rises : (n : ℕ) (ms : List ℕ) → All (Other n) ms → AllPairs Less ms → AllPairs Less (put_number n ms)
put_rises n [] a h = AllPairs-cons Less n [] (All-nil (Less n)) h
put_rises n (m ∷ ms) a h = by (leb_tells n m) (put_rises n ms (All-tail (Other n) m ms a) (tail_pairs Less m ms h)) where
  below : n ≤ m → n < m
  below le = let d : n ≢ m = All-head (Other n) m ms a in omega (arith, le, d)

  by : ((nat_le n m ≡ true) × (n ≤ m)) ⊎ ((nat_le n m ≡ false) × (m < n)) → AllPairs Less (put_number n ms) → AllPairs Less (cond (nat_le n m) (n ∷ m ∷ ms) (m ∷ put_number n ms))
  by (inl e) r =
      let lt = below e.1 in
      subst (λ b. AllPairs Less (cond b (n ∷ m ∷ ms) (m ∷ put_number n ms))) (sym e.0)
      (AllPairs-cons Less n (m ∷ ms) (All-cons (Less n) m ms lt (All-weaker (Less m) (Less n) (λ k f. omega (arith, f, lt)) ms (head_pairs Less m ms h))) h)
  by (inr e) r =
      subst (λ b. AllPairs Less (cond b (n ∷ m ∷ ms) (m ∷ put_number n ms))) (sym e.0)
      (AllPairs-cons Less m (put_number n ms) (put_all (Less m) n ms e.1 (head_pairs Less m ms h)) r)

rises : (ns : List ℕ) → AllPairs Other ns → AllPairs Less (rising ns)
rises [] h = λ i j d lt within. absurd (omega arith)
rises (n ∷ ns) h = put_rises n (rising ns) (rising_all (Other n) ns (head_pairs Other n ns h)) (rises ns (tail_pairs Other n ns h))

-- ---- the numbers of the streams that are closing

abbrev numbers : List StreamRecord → List ℕ
numbers xs = map (λ (x : StreamRecord). x.number) (filter (λ (x : StreamRecord). is_none x.past) xs)

abbrev Apart : StreamRecord → StreamRecord → Type 0
Apart x y = ¬ (x.number ≡ y.number)

numbers_all : (P : ℕ → Type 0) (xs : List StreamRecord) → All (λ (x : StreamRecord). P x.number) xs → All P (numbers xs)
numbers_all P xs h =
    All-map P (λ (x : StreamRecord). x.number) (filter (λ (x : StreamRecord). is_none x.past) xs)
    (All-filter (λ (x : StreamRecord). is_none x.past) (λ (x : StreamRecord). P x.number) xs h)

numbers_apart : (xs : List StreamRecord) → AllPairs Apart xs → AllPairs Other (numbers xs)
numbers_apart [] h = λ i j d lt within. absurd (omega arith)
numbers_apart (x ∷ xs) h = by (is_none x.past) (numbers_apart xs (tail_pairs Apart x xs h)) where
  by : (b : Bool) → AllPairs Other (numbers xs) → AllPairs Other (map (λ (x : StreamRecord). x.number) (cond b (x ∷ filter (λ (x : StreamRecord). is_none x.past) xs) (filter (λ (x : StreamRecord). is_none x.past) xs)))
  by true r = AllPairs-cons Other x.number (numbers xs) (numbers_all (Other x.number) xs (head_pairs Apart x xs h)) r
  by false r = r

-- ---- a record that goes

no_record : StreamRecord
no_record = record { number = 0; from = None; past = None }

-- where one alone passes, taking it out leaves those that don't pass
all_left : {A : Type 0} (p : A → Bool) (xs : List A) → ((j : ℕ) (d : A) → j < length xs → p (slice_index_or xs j d) ≡ false) → xs ≡ filter (λ x. not (p x)) xs
all_left p [] none = refl
all_left p (x ∷ xs) none =
    ap (λ l. x ∷ l) (all_left p xs (λ j d h. none (suc j) d (omega (arith, h))))
    ∙ ap (λ b. cond (not b) (x ∷ filter (λ y. not (p y)) xs) (filter (λ y. not (p y)) xs)) (sym (none 0 x (omega arith)))

one_out : {A : Type 0} (p : A → Bool) (xs : List A) (i : ℕ) → i < length xs → ((d : A) → p (slice_index_or xs i d) ≡ true)
    → ((j : ℕ) (d : A) → j ≢ i → j < length xs → p (slice_index_or xs j d) ≡ false) → remove xs i ≡ filter (λ x. not (p x)) xs
one_out p [] i within passes others = absurd (omega arith)
one_out p (x ∷ xs) zero within passes others =
    all_left p xs (λ j d h. others (suc j) d (λ e. absurd (cc)) (omega (arith, h)))
    ∙ ap (λ b. cond (not b) (x ∷ filter (λ y. not (p y)) xs) (filter (λ y. not (p y)) xs)) (sym (passes x))
one_out p (x ∷ xs) (suc i) within passes others =
    ap (λ l. x ∷ l) (one_out p xs i (omega (arith, within)) passes (λ j d differs h. others (suc j) d (λ e. differs (omega (arith, e))) (omega (arith, h))))
    ∙ ap (λ b. cond (not b) (x ∷ filter (λ y. not (p y)) xs) (filter (λ y. not (p y)) xs)) (sym (others 0 x (λ e. absurd (cc)) (omega arith)))

-- the record of a stream goes, and each other stays
pub record_goes : (s : StreamsState) (stream : ℕ) → AllPairs (λ (x y : StreamRecord). ¬ (x.number ≡ y.number)) s.records → (without s stream).records ≡ filter (λ y. not (y.number == stream)) s.records
record_goes s stream apart = by (place_of stream s.records) refl where
  other : (i j : ℕ) (d : StreamRecord) → place_of stream s.records ≡ Some i → j ≢ i → j < length s.records → is_stream stream (slice_index_or s.records j d) ≡ false
  other i j d e differs within = by_order (leb_tells j i) where
    here : (i < length s.records) × ((slice_index_or s.records i d).number ≡ stream)
    here = let p = position-Some (is_stream stream) s.records i d e in (p.0, eqb-true (slice_index_or s.records i d).number stream p.1)

    by_order : ((nat_le j i ≡ true) × (j ≤ i)) ⊎ ((nat_le j i ≡ false) × (i < j)) → is_stream stream (slice_index_or s.records j d) ≡ false
    by_order (inl h) = let most = h.1 in ne_eqb (slice_index_or s.records j d).number stream (λ f. apart j i d (omega (arith, most, differs)) here.0 (f ∙ sym here.1))
    by_order (inr h) = ne_eqb (slice_index_or s.records j d).number stream (λ f. apart i j d h.1 within (here.1 ∙ sym f))

  by : (o : Option ℕ) → place_of stream s.records ≡ o → remove_place s.records o ≡ filter (λ y. not (is_stream stream y)) s.records
  by None e =
      all_left (is_stream stream) s.records
      (λ j d h. none_at (is_stream stream) s.records j d (missed_any (is_stream stream) s.records (missed (is_stream stream) s.records e)) h)
  by (Some i) e = one_out (is_stream stream) s.records i (position-Some (is_stream stream) s.records i no_record e).0 (λ d. (position-Some (is_stream stream) s.records i d e).1) (λ j d differs h. other i j d e differs h)

still_apart : (stream : ℕ) (xs : List StreamRecord) → AllPairs Apart xs → AllPairs Apart (remove_place xs (place_of stream xs))
still_apart stream xs h = by (place_of stream xs) refl where
  by : (o : Option ℕ) → place_of stream xs ≡ o → AllPairs Apart (remove_place xs o)
  by None e = h
  by (Some i) e = all_pairs_remove Apart xs i (found (is_stream stream) xs i e).within h

-- ---- which they are

no_past_left : (o : Option Past) → is_none o ≡ true → o ≡ None
no_past_left None e = refl
no_past_left (Some past) e = absurd (false≢true e)

has_none : (y : StreamRecord) → y.past ≡ None → is_none y.past ≡ true
has_none y e = ap is_none e

pub all_closings : (n : NodeState) → IsBoundedNode n → (c : Closings n) × (c.numbers ≡ closing_numbers n.streams)
all_closings n k = (record { numbers = closing_numbers n.streams; rising = rises (numbers n.streams.records) (numbers_apart n.streams.records k.apart); each = λ stream. (there stream, back stream) }, refl) where
  shut : StreamRecord → Bool
  shut x = is_none x.past

  one : (y : StreamRecord) → Contains n.streams.records y → is_none y.past ≡ true → IsClosing n y.number
  one y c e = (c.0, y, c.1, c.2, (refl, no_past_left y.past e))

  each : All (λ (y : StreamRecord). IsClosing n y.number) (filter (λ (x : StreamRecord). is_none x.past) n.streams.records)
  each = λ i d within.
      one (slice_index_or (filter (λ (x : StreamRecord). is_none x.past) n.streams.records) i d)
      (All-filter (λ (x : StreamRecord). is_none x.past) (λ (y : StreamRecord). Contains n.streams.records y) n.streams.records (All-contains_itself n.streams.records) i d within)
      (filter_passes (λ (x : StreamRecord). is_none x.past) n.streams.records i d within)

  there : (stream : ℕ) → Contains (closing_numbers n.streams) stream → IsClosing n stream
  there stream c =
      All-contains (IsClosing n) (rising (numbers n.streams.records)) stream
      (rising_all (IsClosing n) (numbers n.streams.records) (All-map (IsClosing n) (λ (x : StreamRecord). x.number) (filter (λ (x : StreamRecord). is_none x.past) n.streams.records) each)) c

  back : (stream : ℕ) → IsClosing n stream → Contains (closing_numbers n.streams) stream
  back stream h =
      let y = h.1 in
      let kept = filter_keeps (λ (x : StreamRecord). is_none x.past) n.streams.records y (h.0, h.2, h.3) (has_none y h.4.1) in
      let numbered : Contains (numbers n.streams.records) stream = subst (Contains (numbers n.streams.records)) h.4.0 (contains_map (λ (x : StreamRecord). x.number) (filter (λ (x : StreamRecord). is_none x.past) n.streams.records) y kept) in
      All-contains (Contains (rising (numbers n.streams.records))) (numbers n.streams.records) stream
      (rising_back (Contains (rising (numbers n.streams.records))) (numbers n.streams.records) (All-contains_itself (rising (numbers n.streams.records)))) numbered

-- ---- how many are given

pub closes_are : (n : NodeState) (max : ℕ) → closes n max ≡ take (max - length n.queue) (closing_numbers n.streams)
closes_are n max = by (drop max n.queue) refl where
  by : (l : List Queued) → drop max n.queue ≡ l → closes_behind n max l ≡ take (max - length n.queue) (closing_numbers n.streams)
  by [] e = refl
  by (q ∷ qs) e =
      let more : length (q ∷ qs) ≡ length n.queue - max = ap (λ (l : List Queued). length l) (sym e) ∙ length-drop max n.queue in
      let none : max - length n.queue ≡ 0 = omega (arith, more) in
      sym (ap (λ k. take k (closing_numbers n.streams)) none)

-- ---- which records are left

all_stay : {A : Type 0} (xs : List A) → filter (λ (x : A). true) xs ≡ xs
all_stay [] = refl
all_stay (x ∷ xs) = ap (λ l. x ∷ l) (all_stay xs)

both_filters : {A : Type 0} (p q : A → Bool) (xs : List A) → filter (λ x. not (q x)) (filter (λ x. not (p x)) xs) ≡ filter (λ x. not (p x || q x)) xs
both_filters p q [] = refl
both_filters p q (x ∷ xs) = by_first (p x) (both_filters p q xs) where
  by_second : (b : Bool) → filter (λ y. not (q y)) (filter (λ y. not (p y)) xs) ≡ filter (λ y. not (p y || q y)) xs
      → cond (not b) (x ∷ filter (λ y. not (q y)) (filter (λ y. not (p y)) xs)) (filter (λ y. not (q y)) (filter (λ y. not (p y)) xs)) ≡ cond (not b) (x ∷ filter (λ y. not (p y || q y)) xs) (filter (λ y. not (p y || q y)) xs)
  by_second true rest = rest
  by_second false rest = ap (λ l. x ∷ l) rest

  by_first : (a : Bool) → filter (λ y. not (q y)) (filter (λ y. not (p y)) xs) ≡ filter (λ y. not (p y || q y)) xs
      → filter (λ y. not (q y)) (cond (not a) (x ∷ filter (λ y. not (p y)) xs) (filter (λ y. not (p y)) xs)) ≡ cond (not (a || q x)) (x ∷ filter (λ y. not (p y || q y)) xs) (filter (λ y. not (p y || q y)) xs)
  by_first true rest = rest
  by_first false rest = by_second (q x) rest

pub left_behind : (cs : List ℕ) (s : StreamsState) → AllPairs Apart s.records
    → fold without s cs ≡ record s { records = filter (λ y. not (list_any (λ closed. y.number == closed) cs)) s.records }
left_behind [] s h = ap (λ xs. record s { records = xs }) (sym (all_stay s.records))
left_behind (c ∷ cs) s h =
    left_behind cs (without s c) (still_apart c s.records h)
    ∙ ap (λ xs. record s { records = filter (λ (y : StreamRecord). not (list_any (λ closed. y.number == closed) cs)) xs }) (record_goes s c h)
    ∙ ap (λ xs. record s { records = xs }) (both_filters (λ (y : StreamRecord). y.number == c) (λ (y : StreamRecord). list_any (λ closed. y.number == closed) cs) s.records)
