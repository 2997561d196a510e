-- The code's table of streams stands for the streams after a step, of which it keeps no more than before.
use Rattle.std.proofs.Common.{◌≡◌, refl, sym, ap, ◌∙◌, subst, arith, ℕ, ◌+◌, ◌≤◌, ◌%◌, Bool, true, false, cond, List, [], ◌∷◌, ◌++◌, Option, Some, None, is_some}
use Rattle.std.specs.List.{count_by, find}
use Rattle.std.proofs.lemmas.List.Sums.{sum_by-cons}
use Rattle.grasp_model_node.specs.Queue.{Queued, datagram, dial, send}
use Rattle.grasp_session.specs.Messages.{Side, Near, Far}
use Rattle.grasp_types.specs.declared.address.Locator.{Locator}
use Rattle.grasp_types.specs.declared.message.Message.{Message}
use Rattle.grasp_model_network.specs.Sending.{streams_made}
use Rattle.grasp_model_network.specs.Setting.{Setting, numbered}
use Rattle.grasp_model_network.specs.Streams.{StreamEnd, StreamState, fresh_stream, is_same_end, is_at_end, side_of_end, has_end, count_at_end, stream_numbered, changed_by, at_end, change_at_end, with_said, lives, not_yet}
use Rattle.grasp_model_network.specs.World.{end_of}
use Rattle.grasp_laws_delivery.proofs.Ends.{end_itself}
use Rattle.grasp_laws_delivery.specs.Ready.{Every, HasGoodEnds}
use Rattle.grasp_simulator.specs.StreamsStand.{Queueing, HasSides, dial_at, TalkStands, numbers, IsNearOf, TableStands, IsTalk}
use Rattle.grasp_simulator.specs.declared.stream.Stream.{Stream}
use Rattle.grasp_simulator.specs.declared.stream.LifeEnd.{LifeEnd}
use Rattle.grasp_simulator.proofs.StreamTalks.{at_least_1, talk_at}
use Rattle.grasp_simulator.proofs.StreamUnseen.{said_stays}

-- ---- lists

every_push : {X : Type 0} (P : X → Type 0) (xs : List X) (x : X) → Every P xs → P x → Every P (xs ++ x ∷ [])
every_push P [] x h one = (one, tt)
every_push P (y ∷ ys) x h one = (h.0, every_push P ys x h.1 one)

every_front : {X : Type 0} (P : X → Type 0) (xs ys : List X) → Every P (xs ++ ys) → Every P xs
every_front P [] ys h = tt
every_front P (x ∷ xs) ys h = (h.0, every_front P xs ys h.1)

pub every_last : {X : Type 0} (P : X → Type 0) (xs : List X) (x : X) → Every P (xs ++ x ∷ []) → P x
every_last P [] x h = h.0
every_last P (y ∷ ys) x h = every_last P ys x h.1

pub count_push : {X : Type 0} (p : X → Bool) (xs : List X) (x : X) → count_by p (xs ++ x ∷ []) ≡ count_by p xs + cond (p x) 1 0
count_push {X} p [] x = let one : X → ℕ = λ y. cond (p y) 1 0 in let all : count_by p (x ∷ []) ≡ one x + 0 = sum_by-cons one x [] in omega (arith, all)
count_push {X} p (y ∷ ys) x =
    let one : X → ℕ = λ z. cond (p z) 1 0 in
    let now : count_by p (y ∷ (ys ++ x ∷ [])) ≡ one y + count_by p (ys ++ x ∷ []) = sum_by-cons one y (ys ++ x ∷ []) in
    let old : count_by p (y ∷ ys) ≡ one y + count_by p ys = sum_by-cons one y ys in
    let rest : count_by p (ys ++ x ∷ []) ≡ count_by p ys + one x = count_push p ys x in
    omega (arith, now, old, rest)

-- what is found by the one test and passes the other is counted by it
pub found_counts : (p q : StreamState → Bool) (ts : List StreamState) (t : StreamState) → find p ts ≡ Some t → q t ≡ true → 1 ≤ count_by q ts
found_counts p q [] t e h = absurd (cc)
found_counts p q (x ∷ xs) t e h = by_test (p x) refl e (found_counts p q xs t) where
  one : StreamState → ℕ
  one y = cond (q y) 1 0

  all : count_by q (x ∷ xs) ≡ one x + count_by q xs
  all = sum_by-cons one x xs

  by_test : (b : Bool) → p x ≡ b → cond b (Some x) (find p xs) ≡ Some t → (find p xs ≡ Some t → q t ≡ true → 1 ≤ count_by q xs) → 1 ≤ count_by q (x ∷ xs)
  by_test true is got below =
      let same : x ≡ t = cc in
      let first : one x ≡ 1 = ap (λ b. cond b 1 0) (ap q same ∙ h) in
      omega (arith, all, first)
  by_test false is got below = let rest : 1 ≤ count_by q xs = below got h in omega (arith, all, rest)

-- ---- what is said changes no end

near_said : (m : Message) (t : StreamState) (o : Option Side) → (changed_by (with_said m) t o).near ≡ t.near
near_said m t None = refl
near_said m t (Some side) = refl

has_said : (m : Message) (e : StreamEnd) (t : StreamState) (o : Option Side) → has_end e (changed_by (with_said m) t o) ≡ has_end e t
has_said m e t None = refl
has_said m e t (Some side) = refl

count_said : (m : Message) (e q : StreamEnd) (ts : List StreamState) → count_at_end (change_at_end ts q (with_said m)) e ≡ count_at_end ts e
count_said m e q [] = refl
count_said m e q (t ∷ ts) =
    let one : StreamState → ℕ = λ x. cond (has_end e x) 1 0 in
    let u : StreamState = at_end q (with_said m) t in
    let first : one u ≡ one t = ap (λ b. cond b 1 0) (has_said m e t (side_of_end q t)) in
    let rest : count_at_end (change_at_end ts q (with_said m)) e ≡ count_at_end ts e = count_said m e q ts in
    let now : count_by (has_end e) (u ∷ change_at_end ts q (with_said m)) ≡ one u + count_by (has_end e) (change_at_end ts q (with_said m)) = sum_by-cons one u (change_at_end ts q (with_said m)) in
    let old : count_by (has_end e) (t ∷ ts) ≡ one t + count_by (has_end e) ts = sum_by-cons one t ts in
    omega (arith, first, rest, now, old)

abbrev pub IsEven : StreamState → Type 0
IsEven t = t.near.number % 2 ≡ 0

even_said : (m : Message) (q : StreamEnd) (ts : List StreamState) → Every IsEven (change_at_end ts q (with_said m)) → Every IsEven ts
even_said m q [] h = tt
even_said m q (t ∷ ts) h = (subst (λ (e : StreamEnd). e.number % 2 ≡ 0) (near_said m t (side_of_end q t)) h.0, even_said m q ts h.1)

-- ---- what a step makes

-- no end has fewer streams than before
pub made_grow : (node : ℕ) (e : StreamEnd) (qs : List Queued) (ts : List StreamState) → count_at_end ts e ≤ count_at_end (streams_made node ts qs) e
unfolding streams_made
made_grow node e [] ts = omega arith
made_grow node e (datagram link to m ∷ qs) ts = made_grow node e qs ts
made_grow node e (dial stream to ∷ qs) ts =
    let more : List StreamState = ts ++ fresh_stream (end_of node stream) to ∷ [] in
    let rest : count_at_end more e ≤ count_at_end (streams_made node more qs) e = made_grow node e qs more in
    let one : count_at_end more e ≡ count_at_end ts e + cond (has_end e (fresh_stream (end_of node stream) to)) 1 0 = count_push (has_end e) ts (fresh_stream (end_of node stream) to) in
    omega (arith, rest, one)
made_grow node e (send stream m ∷ qs) ts =
    let said : List StreamState = change_at_end ts (end_of node stream) (with_said m) in
    let rest : count_at_end said e ≤ count_at_end (streams_made node said qs) e = made_grow node e qs said in
    let same : count_at_end said e ≡ count_at_end ts e = count_said m e (end_of node stream) ts in
    omega (arith, rest, same)

-- each stream that was there before has an even number still
pub made_even : (node : ℕ) (qs : List Queued) (ts : List StreamState) → Every IsEven (streams_made node ts qs) → Every IsEven ts
unfolding streams_made
made_even node [] ts h = h
made_even node (datagram link to m ∷ qs) ts h = made_even node qs ts h
made_even node (dial stream to ∷ qs) ts h =
    let new : StreamState = fresh_stream (end_of node stream) to in every_front IsEven ts (new ∷ []) (made_even node qs (ts ++ new ∷ []) h)
made_even node (send stream m ∷ qs) ts h = even_said m (end_of node stream) ts (made_even node qs (change_at_end ts (end_of node stream) (with_said m)) h)

-- ---- the table

-- each near end whose stream begins with its far side told that it is closed is one of a stream that is there
abbrev pub AreKnown : Queueing → List StreamState → Type 0
AreKnown begins ts = (e : StreamEnd) (to : Locator) → e.number % 2 ≡ 0 → begins e to ≡ Some true → 1 ≤ count_at_end ts e

module _ (streams : List Stream) (index : List (LifeEnd × ℕ)) (begins : Queueing) (dials : ℕ) where
  -- the code's stream of a number is that of some stream with its near end
  is_counted : (e : StreamEnd) (ts : List StreamState) (k : ℕ) (o : Option Stream) (p : Option StreamState) → stream_numbered ts k ≡ p → IsNearOf e o → IsTalk k o p → 1 ≤ count_at_end ts e
  is_counted e ts k None p is near talk = absurd near
  is_counted e ts k (Some code) None is near talk = absurd talk
  is_counted e ts k (Some code) (Some t) is near talk =
      let here : t.near ≡ end_of e.node e.number = talk.near ∙ (ap (λ n. end_of n code.number) near.0 ∙ ap (end_of e.node) near.1) in
      let same : is_same_end e t.near ≡ true = ap (is_same_end e) here ∙ end_itself e in
      let has : has_end e t ≡ true = ap (λ b. is_some (cond b (Some Near) (cond (is_at_end e t.far) (Some Far) None))) same in
      found_counts (numbers k) (has_end e) ts t is has

  -- where a new stream is the one of its end, the code knows of no stream with it
  not_known : (e : StreamEnd) (to : Locator) (ts : List StreamState) (o : Option ℕ) → dial_at index e ≡ o → count_at_end (ts ++ fresh_stream e to ∷ []) e ≤ 1 → TableStands streams index begins ts dials → o ≡ None
  not_known e to ts None at few s = refl
  not_known e to ts (Some k) at few s = absurd (
      let h = s.found e k at in
      let talk : IsTalk k (numbered streams k) (stream_numbered ts k) = talk_at streams index begins ts dials s k in
      let some : 1 ≤ count_at_end ts e = is_counted e ts k (numbered streams k) (stream_numbered ts k) refl (subst (IsNearOf e) (sym (at_least_1 streams index begins ts dials s k h.0)) h.2) talk in
      let one : StreamState → ℕ = λ x. cond (has_end e x) 1 0 in
      let both : count_at_end (ts ++ fresh_stream e to ∷ []) e ≡ count_at_end ts e + one (fresh_stream e to) = count_push (has_end e) ts (fresh_stream e to) in
      let has : one (fresh_stream e to) ≡ 1 = ap (λ b. cond (is_some (cond b (Some Near) None)) 1 0) (end_itself e) in
      omega (arith, few, some, both, has))

  -- and no mark speaks of it
  new_sides : (e : StreamEnd) (to : Locator) (ts : List StreamState) → e.number % 2 ≡ 0 → count_at_end (ts ++ fresh_stream e to ∷ []) e ≤ 1 → AreKnown begins ts → (o : Option Bool) → begins e to ≡ o
      → HasSides o lives not_yet
  new_sides e to ts even few known None at = tt
  new_sides e to ts even few known (Some false) at = (refl, refl)
  new_sides e to ts even few known (Some true) at = absurd (
      let some : 1 ≤ count_at_end ts e = known e to even at in
      let one : StreamState → ℕ = λ x. cond (has_end e x) 1 0 in
      let both : count_at_end (ts ++ fresh_stream e to ∷ []) e ≡ count_at_end ts e + one (fresh_stream e to) = count_push (has_end e) ts (fresh_stream e to) in
      let has : one (fresh_stream e to) ≡ 1 = ap (λ b. cond (is_some (cond b (Some Near) None)) 1 0) (end_itself e) in
      omega (arith, few, some, both, has))

  dial_stands : (e : StreamEnd) (to : Locator) (ts : List StreamState) → e.number % 2 ≡ 0 → count_at_end (ts ++ fresh_stream e to ∷ []) e ≤ 1 → AreKnown begins ts → TableStands streams index begins ts dials
      → TableStands streams index begins (ts ++ fresh_stream e to ∷ []) dials
  dial_stands e to ts even few known s = record {
    dialled = s.dialled;
    each = every_push (λ (t : StreamState). TalkStands streams index begins t t.number) ts (fresh_stream e to) s.each (record {
      unknown = not_known e to ts (dial_at index e) refl few s;
      even = even;
      sides = new_sides e to ts even few known (begins e to) refl;
      far = refl;
      near_sent = refl;
      near_delivered = refl;
      far_sent = refl;
      far_delivered = refl;
    });
    once = λ k least most. let more : count_by (numbers k) (ts ++ fresh_stream e to ∷ []) ≡ count_by (numbers k) ts + 0 = count_push (numbers k) ts (fresh_stream e to) in let one : count_by (numbers k) ts ≡ 1 = s.once k least most in omega (arith, more, one);
    few = s.few;
    found = s.found;
  }

  made_by : (node : ℕ) (qs : List Queued) (ts : List StreamState) → ((e : StreamEnd) → count_at_end (streams_made node ts qs) e ≤ 1) → Every IsEven (streams_made node ts qs)
      → AreKnown begins ts → TableStands streams index begins ts dials → TableStands streams index begins (streams_made node ts qs) dials
  unfolding streams_made
  made_by node [] ts apart even known s = s
  made_by node (datagram link to m ∷ qs) ts apart even known s = made_by node qs ts apart even known s
  made_by node (send stream m ∷ qs) ts apart even known s =
      made_by node qs (change_at_end ts (end_of node stream) (with_said m)) apart even
      (λ q l e at. subst (λ (n : ℕ). 1 ≤ n) (sym (count_said m q (end_of node stream) ts)) (known q l e at)) (said_stays m streams index begins (end_of node stream) ts dials s)
  made_by node (dial stream to ∷ qs) ts apart even known s =
      let e : StreamEnd = end_of node stream in
      let more : List StreamState = ts ++ fresh_stream e to ∷ [] in
      let grows : count_at_end more e ≤ count_at_end (streams_made node more qs) e = made_grow node e qs more in
      let few : count_at_end (streams_made node more qs) e ≤ 1 = apart e in
      let own : IsEven (fresh_stream e to) = every_last IsEven ts (fresh_stream e to) (made_even node qs more even) in
      made_by node qs more apart even
      (λ q l f at. let was : 1 ≤ count_at_end ts q = known q l f at in
      let then : count_at_end more q ≡ count_at_end ts q + cond (has_end q (fresh_stream e to)) 1 0 = count_push (has_end q) ts (fresh_stream e to) in omega (arith, was, then))
      (dial_stands e to ts own (omega (arith, grows, few)) known s)

-- streams with good ends have even numbers
abbrev pub GoodEnds : Setting → ℕ → ℕ → StreamState → Type 0
GoodEnds s nodes dials t = HasGoodEnds s nodes dials t.near t.number t.far

pub all_even : (s : Setting) (nodes count : ℕ) (ts : List StreamState) → Every (GoodEnds s nodes count) ts → Every IsEven ts
all_even s nodes count [] h = tt
all_even s nodes count (t ∷ ts) h = (h.0.even, all_even s nodes count ts h.1)

-- the table stands for the streams after a step, where each end is that of one
pub made_stands : (streams : List Stream) (index : List (LifeEnd × ℕ)) (begins : Queueing) (node : ℕ) (dials : ℕ) (s : Setting) (nodes count : ℕ) → (qs : List Queued) (ts : List StreamState)
    → ((e : StreamEnd) → count_at_end (streams_made node ts qs) e ≤ 1) → Every (GoodEnds s nodes count) (streams_made node ts qs) → AreKnown begins ts → TableStands streams index begins ts dials
    → TableStands streams index begins (streams_made node ts qs) dials
made_stands streams index begins node dials s nodes count qs ts apart ends known stands =
    made_by streams index begins dials node qs ts apart (all_even s nodes count (streams_made node ts qs) ends) known stands
