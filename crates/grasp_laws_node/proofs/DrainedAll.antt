-- What a drain gives, and which streams have no record behind it.
use Rattle.std.proofs.Common.{◌≡◌, ◌≢◌, ℕ, zero, suc, ◌+◌, ◌-◌, ◌<◌, ◌≤◌, nat_le, Bool, true, false, cond, ◌==◌, ◌⊎◌, inl, inr, List, [], ◌∷◌, length, map, filter, take, drop, fold, get_or, All, Option, None, Some, is_none, refl, sym, ap, ◌∙◌, subst, arith, length-append, length-take, length-drop}
use Rattle.std.specs.Prelude.{AllPairs, remove, find}
use Rattle.std.proofs.lemmas.Bool.{eqb-true, false≢true}
use Rattle.std.proofs.lemmas.Bool.Decides.{eqb_tells, leb_tells}
use Rattle.std.proofs.lemmas.List.{length-map, take_all}
use Rattle.std.proofs.lemmas.List.Elements.{All-nil, All-cons, All-head, All-tail, All-weaker, All-take, All-map, All-filter}
use Rattle.std.proofs.lemmas.List.Kept.{AllPairs-cons}
use Rattle.std.proofs.lemmas.List.Quantifiers.{all_pairs_remove}
use Rattle.grasp_asa.proofs.Lists.{found, missed}
use Rattle.grasp_types.specs.declared.traffic.Output.TheVariants.{Close}
use Rattle.grasp_model_node.specs.Draining.{closes_behind, closes, drained, after_drain}
use Rattle.grasp_laws_node.specs.Drains.{DrainsGiveInOrder, DrainsCloseOnce}
use Rattle.grasp_model_node.specs.Node.{NodeState}
use Rattle.grasp_model_node.specs.Queue.{Queued, output_of}
use Rattle.grasp_model_node.specs.Streams.{StreamRecord, StreamsState, is_stream, place_of, at_place, record_of, remove_place, without, put_number, rising, closing_numbers}
use Rattle.grasp_laws_node.proofs.OtherRecords.{others_without}

-- ---- how many, and in which order

few_behind : (n : NodeState) (max : ℕ) (qs : List Queued) → qs ≡ drop max n.queue → length (take max n.queue) + length (closes_behind n max qs) ≤ max
few_behind n max [] e =
    let a = length-take max n.queue in
    let b = length-take (max - length n.queue) (closing_numbers n.streams) in
    let none : 0 ≡ length n.queue - max = ap (λ (l : List Queued). length l) e ∙ length-drop max n.queue in
    omega (arith, a, b, none)
few_behind n max (q ∷ qs) e = let a = length-take max n.queue in omega (arith, a)

few : (n : NodeState) (max : ℕ) → length (drained n max) ≤ max
few n max =
    let a = length-append (map output_of (take max n.queue)) (map Close (closes n max)) in
    let b = length-map (take max n.queue) output_of in
    let c = length-map (closes n max) Close in
    let d = few_behind n max (drop max n.queue) refl in
    omega (arith, a, b, c, d)

last_behind : (n : NodeState) (max : ℕ) (qs : List Queued) → 1 ≤ length (closes_behind n max qs) → qs ≡ []
last_behind n max [] h = refl
last_behind n max (q ∷ qs) h = absurd (omega (arith, h))

pub in_order : DrainsGiveInOrder
unfolding after_drain
in_order n max = record { few = few n max; outputs = refl; left = refl; last = λ h. last_behind n max (drop max n.queue) h }

-- ---- numbers in rising order

put_all : (P : ℕ → Type 0) (n : ℕ) (ms : List ℕ) → P n → All P ms → All P (put_number n ms)
put_all P n [] p h = All-cons P n [] p h
put_all P n (m ∷ ms) p h = by (nat_le n m) (put_all P n ms p (All-tail P m ms h)) where
  by : (b : Bool) → All P (put_number n ms) → All P (cond b (n ∷ m ∷ ms) (m ∷ put_number n ms))
  by true r = All-cons P n (m ∷ ms) p h
  by false r = All-cons P m (put_number n ms) (All-head P m ms h) r

put_back : (P : ℕ → Type 0) (n : ℕ) (ms : List ℕ) → All P (put_number n ms) → P n × All P ms
put_back P n [] h = (All-head P n [] h, All-nil P)
put_back P n (m ∷ ms) h = by (nat_le n m) (λ k. put_back P n ms k) h where
  by : (b : Bool) → (All P (put_number n ms) → P n × All P ms) → All P (cond b (n ∷ m ∷ ms) (m ∷ put_number n ms)) → P n × All P (m ∷ ms)
  by true r k = (All-head P n (m ∷ ms) k, All-tail P n (m ∷ ms) k)
  by false r k = let rest = r (All-tail P m (put_number n ms) k) in (rest.0, All-cons P m ms (All-head P m (put_number n ms) k) rest.1)

pub rising_all : (P : ℕ → Type 0) (ns : List ℕ) → All P ns → All P (rising ns)
rising_all P [] h = h
rising_all P (n ∷ ns) h = put_all P n (rising ns) (All-head P n ns h) (rising_all P ns (All-tail P n ns h))

rising_back : (P : ℕ → Type 0) (ns : List ℕ) → All P (rising ns) → All P ns
rising_back P [] h = h
rising_back P (n ∷ ns) h = let b = put_back P n (rising ns) h in All-cons P n ns b.0 (rising_back P ns b.1)

abbrev Less : ℕ → ℕ → Type 0
Less a b = a < b

abbrev Other : ℕ → ℕ → Type 0
Other a b = a ≢ b

head_pairs : {X : Type 0} (R : X → X → Type 0) (x : X) (xs : List X) → AllPairs R (x ∷ xs) → All (R x) xs
head_pairs R x xs h = λ j d lt. h 0 (suc j) d (omega arith) (omega arith)

tail_pairs : {X : Type 0} (R : X → X → Type 0) (x : X) (xs : List X) → AllPairs R (x ∷ xs) → AllPairs R xs
tail_pairs R x xs h = λ i j d lt within. h (suc i) (suc j) d (omega arith) (omega arith)

put_rises : (n : ℕ) (ms : List ℕ) → All (Other n) ms → AllPairs Less ms → AllPairs Less (put_number n ms)
put_rises n [] a h = AllPairs-cons Less n [] (All-nil (Less n)) h
put_rises n (m ∷ ms) a h = by (leb_tells n m) (put_rises n ms (All-tail (Other n) m ms a) (tail_pairs Less m ms h)) where
  below : n ≤ m → n < m
  below le = let d : n ≢ m = All-head (Other n) m ms a in omega (arith, le, d)

  by : ((nat_le n m ≡ true) × (n ≤ m)) ⊎ ((nat_le n m ≡ false) × (m < n)) → AllPairs Less (put_number n ms) → AllPairs Less (cond (nat_le n m) (n ∷ m ∷ ms) (m ∷ put_number n ms))
  by (inl e) r =
      let lt = below e.1 in
      subst (λ b. AllPairs Less (cond b (n ∷ m ∷ ms) (m ∷ put_number n ms))) (sym e.0)
      (AllPairs-cons Less n (m ∷ ms) (All-cons (Less n) m ms lt (All-weaker (Less m) (Less n) (λ k f. omega (arith, f, lt)) ms (head_pairs Less m ms h))) h)
  by (inr e) r =
      subst (λ b. AllPairs Less (cond b (n ∷ m ∷ ms) (m ∷ put_number n ms))) (sym e.0)
      (AllPairs-cons Less m (put_number n ms) (put_all (Less m) n ms e.1 (head_pairs Less m ms h)) r)

rises : (ns : List ℕ) → AllPairs Other ns → AllPairs Less (rising ns)
rises [] h = λ i j d lt within. absurd (omega arith)
rises (n ∷ ns) h = put_rises n (rising ns) (rising_all (Other n) ns (head_pairs Other n ns h)) (rises ns (tail_pairs Other n ns h))

take_pairs : (k : ℕ) (ns : List ℕ) → AllPairs Less ns → AllPairs Less (take k ns)
take_pairs zero ns h = λ i j d lt within. absurd (omega arith)
take_pairs (suc k) [] h = λ i j d lt within. absurd (omega arith)
take_pairs (suc k) (n ∷ ns) h = AllPairs-cons Less n (take k ns) (All-take (Less n) k ns (head_pairs Less n ns h)) (take_pairs k ns (tail_pairs Less n ns h))

-- ---- the numbers of the streams that are closing

abbrev is_closing : StreamRecord → Bool
is_closing x = is_none x.past

abbrev numbers : List StreamRecord → List ℕ
numbers xs = map (λ (x : StreamRecord). x.number) (filter (λ (x : StreamRecord). is_none x.past) xs)

abbrev Apart : StreamRecord → StreamRecord → Type 0
Apart x y = ¬ (x.number ≡ y.number)

numbers_all : (P : ℕ → Type 0) (xs : List StreamRecord) → All (λ (x : StreamRecord). P x.number) xs → All P (numbers xs)
numbers_all P xs h =
    All-map P (λ (x : StreamRecord). x.number) (filter (λ (x : StreamRecord). is_none x.past) xs)
    (All-filter (λ (x : StreamRecord). is_none x.past) (λ (x : StreamRecord). P x.number) xs h)

numbers_apart : (xs : List StreamRecord) → AllPairs Apart xs → AllPairs Other (numbers xs)
numbers_apart [] h = λ i j d lt within. absurd (omega arith)
numbers_apart (x ∷ xs) h = by (is_none x.past) (numbers_apart xs (tail_pairs Apart x xs h)) where
  by : (b : Bool) → AllPairs Other (numbers xs) → AllPairs Other (map (λ (x : StreamRecord). x.number) (cond b (x ∷ filter (λ (x : StreamRecord). is_none x.past) xs) (filter (λ (x : StreamRecord). is_none x.past) xs)))
  by true r = AllPairs-cons Other x.number (numbers xs) (numbers_all (Other x.number) xs (head_pairs Apart x xs h)) r
  by false r = r

numbers_back : (P : ℕ → Type 0) (xs : List StreamRecord) → All P (numbers xs) → All (λ (x : StreamRecord). is_none x.past ≡ true → P x.number) xs
numbers_back P [] h = All-nil (λ (x : StreamRecord). is_none x.past ≡ true → P x.number)
numbers_back P (x ∷ xs) h = by (is_none x.past) refl h (λ k. numbers_back P xs k) where
  by : (b : Bool) → is_none x.past ≡ b
      → All P (map (λ (x : StreamRecord). x.number) (cond b (x ∷ filter (λ (x : StreamRecord). is_none x.past) xs) (filter (λ (x : StreamRecord). is_none x.past) xs)))
      → (All P (numbers xs) → All (λ (x : StreamRecord). is_none x.past ≡ true → P x.number) xs) → All (λ (x : StreamRecord). is_none x.past ≡ true → P x.number) (x ∷ xs)
  by true e k r = All-cons (λ (x : StreamRecord). is_none x.past ≡ true → P x.number) x xs (λ f. All-head P x.number (numbers xs) k) (r (All-tail P x.number (numbers xs) k))
  by false e k r = All-cons (λ (x : StreamRecord). is_none x.past ≡ true → P x.number) x xs (λ f. absurd (false≢true (sym e ∙ f))) (r k)

-- ---- records that go

-- no record has this number
abbrev NoneHas : ℕ → List StreamRecord → Type 0
NoneHas stream xs = All (λ (x : StreamRecord). x.number ≢ stream) xs

remove_all : (P : StreamRecord → Type 0) (xs : List StreamRecord) (i : ℕ) → All P xs → All P (remove xs i)
remove_all P [] zero h = All-nil P
remove_all P [] (suc i) h = All-nil P
remove_all P (x ∷ xs) zero h = All-tail P x xs h
remove_all P (x ∷ xs) (suc i) h = All-cons P x (remove xs i) (All-head P x xs h) (remove_all P xs i (All-tail P x xs h))

place_all : (P : StreamRecord → Type 0) (xs : List StreamRecord) (o : Option ℕ) → All P xs → All P (remove_place xs o)
place_all P xs None h = h
place_all P xs (Some i) h = remove_all P xs i h

none_at_all : StreamRecord
none_at_all = record { number = 0; from = None; past = None }

none_placed : (stream : ℕ) (xs : List StreamRecord) → NoneHas stream xs → place_of stream xs ≡ None
none_placed stream xs h = by (place_of stream xs) refl where
  by : (o : Option ℕ) → place_of stream xs ≡ o → place_of stream xs ≡ None
  by None e = e
  by (Some i) e =
      let f = found (is_stream stream) xs i e in
      absurd (h i none_at_all f.within (eqb-true (get_or xs i none_at_all).number stream (f.passes none_at_all)))

not_found : (stream : ℕ) (xs : List StreamRecord) → find (is_stream stream) xs ≡ None → NoneHas stream xs
not_found stream [] e = All-nil (λ (x : StreamRecord). x.number ≢ stream)
not_found stream (x ∷ xs) e = by (eqb_tells x.number stream) (λ f. not_found stream xs f) where
  by : (((x.number == stream) ≡ true) × (x.number ≡ stream)) ⊎ (((x.number == stream) ≡ false) × (x.number ≢ stream)) → (find (is_stream stream) xs ≡ None → NoneHas stream xs) → NoneHas stream (x ∷ xs)
  by (inl i) r = let f : Some x ≡ None = sym (ap (λ b. cond b (Some x) (find (is_stream stream) xs)) i.0) ∙ e in absurd (cc)
  by (inr i) r = All-cons (λ (y : StreamRecord). y.number ≢ stream) x xs i.1 (r (sym (ap (λ b. cond b (Some x) (find (is_stream stream) xs)) i.0) ∙ e))

one_goes : (stream : ℕ) (xs : List StreamRecord) (i : ℕ) → AllPairs Apart xs → i < length xs → ((d : StreamRecord) → (get_or xs i d).number ≡ stream) → NoneHas stream (remove xs i)
one_goes stream [] i h lt e = absurd (omega arith)
one_goes stream (x ∷ xs) zero h lt e =
    All-weaker (Apart x) (λ (y : StreamRecord). y.number ≢ stream) (λ (y : StreamRecord) n f. n (e none_at_all ∙ sym f)) xs (head_pairs Apart x xs h)
one_goes stream (x ∷ xs) (suc i) h lt e =
    All-cons (λ (y : StreamRecord). y.number ≢ stream) x (remove xs i) (λ f. h 0 (suc i) none_at_all (omega arith) lt (f ∙ sym (e none_at_all)))
    (one_goes stream xs i (tail_pairs Apart x xs h) (omega (arith, lt)) e)

it_goes : (stream : ℕ) (xs : List StreamRecord) → AllPairs Apart xs → NoneHas stream (remove_place xs (place_of stream xs))
it_goes stream xs h = by (place_of stream xs) refl where
  by : (o : Option ℕ) → place_of stream xs ≡ o → NoneHas stream (remove_place xs o)
  by None e = not_found stream xs (missed (is_stream stream) xs e)
  by (Some i) e =
      let f = found (is_stream stream) xs i e in
      one_goes stream xs i h f.within (λ d. eqb-true (get_or xs i d).number stream (f.passes d))

still_apart : (stream : ℕ) (xs : List StreamRecord) → AllPairs Apart xs → AllPairs Apart (remove_place xs (place_of stream xs))
still_apart stream xs h = by (place_of stream xs) refl where
  by : (o : Option ℕ) → place_of stream xs ≡ o → AllPairs Apart (remove_place xs o)
  by None e = h
  by (Some i) e = all_pairs_remove Apart xs i (found (is_stream stream) xs i e).within h

fold_all : (P : StreamRecord → Type 0) (cs : List ℕ) (s : StreamsState) → All P s.records → All P (fold without s cs).records
fold_all P [] s h = h
fold_all P (c ∷ cs) s h = fold_all P cs (without s c) (place_all P s.records (place_of c s.records) h)

fold_goes : (cs : List ℕ) (s : StreamsState) → AllPairs Apart s.records → All (λ c. NoneHas c (fold without s cs).records) cs
fold_goes [] s h = All-nil (λ c. NoneHas c s.records)
fold_goes (c ∷ cs) s h =
    All-cons (λ k. NoneHas k (fold without (without s c) cs).records) c cs (fold_all (λ (x : StreamRecord). x.number ≢ c) cs (without s c) (it_goes c s.records h))
    (fold_goes cs (without s c) (still_apart c s.records h))

fold_others : (stream : ℕ) (cs : List ℕ) (s : StreamsState) → All (λ c. stream ≢ c) cs → record_of (fold without s cs) stream ≡ record_of s stream
fold_others stream [] s h = refl
fold_others stream (c ∷ cs) s h =
    fold_others stream cs (without s c) (All-tail (λ c. stream ≢ c) c cs h) ∙ others_without c stream s (All-head (λ c. stream ≢ c) c cs h)

none_pass : (xs : List StreamRecord) → All (λ (x : StreamRecord). is_none x.past ≡ false) xs → numbers xs ≡ []
none_pass [] h = refl
none_pass (x ∷ xs) h =
    ap (λ b. map (λ (x : StreamRecord). x.number) (cond b (x ∷ filter (λ (x : StreamRecord). is_none x.past) xs) (filter (λ (x : StreamRecord). is_none x.past) xs)))
    (All-head (λ (x : StreamRecord). is_none x.past ≡ false) x xs h)
    ∙ none_pass xs (All-tail (λ (x : StreamRecord). is_none x.past ≡ false) x xs h)

-- a record that was left isn't closing
is_open : (ys : List StreamRecord) → All (λ (x : StreamRecord). is_none x.past ≡ true → NoneHas x.number ys) ys → All (λ (x : StreamRecord). is_none x.past ≡ false) ys
is_open ys each k d lt = by (is_none (get_or ys k d).past) refl (each k d lt) where
  by : (b : Bool) → is_none (get_or ys k d).past ≡ b → (is_none (get_or ys k d).past ≡ true → NoneHas (get_or ys k d).number ys) → is_none (get_or ys k d).past ≡ false
  by true f g = absurd (g f k d lt refl)
  by false f g = f

all_go : (s : StreamsState) → AllPairs Apart s.records → closing_numbers (fold without s (closing_numbers s)) ≡ []
all_go s h =
    let ys = (fold without s (closing_numbers s)).records in
    ap rising
    (none_pass ys
    (is_open ys
    (fold_all (λ (x : StreamRecord). is_none x.past ≡ true → NoneHas x.number ys) (closing_numbers s) s
    (numbers_back (λ c. NoneHas c ys) s.records (rising_back (λ c. NoneHas c ys) (numbers s.records) (fold_goes (closing_numbers s) s h))))))

-- ---- the closings of a drain

closes_rise : (n : NodeState) (max : ℕ) (qs : List Queued) → AllPairs Apart n.streams.records → AllPairs Less (closes_behind n max qs)
closes_rise n max [] h = take_pairs (max - length n.queue) (closing_numbers n.streams) (rises (numbers n.streams.records) (numbers_apart n.streams.records h))
closes_rise n max (q ∷ qs) h = λ i j d lt within. absurd (omega arith)

closes_all : (n : NodeState) (max : ℕ) (qs : List Queued) → qs ≡ drop max n.queue → length n.queue + length (closing_numbers n.streams) ≤ max → closes_behind n max qs ≡ closing_numbers n.streams
closes_all n max [] e h = take_all (max - length n.queue) (closing_numbers n.streams) (omega (arith, h))
closes_all n max (q ∷ qs) e h =
    let more : suc (length qs) ≡ length n.queue - max = ap (λ (l : List Queued). length l) e ∙ length-drop max n.queue in
    absurd (omega (arith, h, more))

pub close_once : DrainsCloseOnce
unfolding after_drain
close_once n max i = record {
  rising = closes_rise n max (drop max n.queue) i.apart;
  gone = All-weaker (λ c. NoneHas c (fold without n.streams (closes n max)).records) (λ c. record_of (fold without n.streams (closes n max)) c ≡ None)
      (λ c h. ap (at_place (fold without n.streams (closes n max)).records) (none_placed c (fold without n.streams (closes n max)).records h)) (closes n max) (fold_goes (closes n max) n.streams i.apart);
  others = λ stream h. fold_others stream (closes n max) n.streams h;
  none_left = λ h. ap (λ (l : List ℕ). closing_numbers (fold without n.streams l)) (closes_all n max (drop max n.queue) refl h) ∙ all_go n.streams i.apart;
}
