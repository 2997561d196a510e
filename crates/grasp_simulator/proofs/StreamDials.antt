-- A dial that is sent: the code's table takes its stream.
use Rattle.std.proofs.Common.{◌≡◌, inl, inr, refl, sym, ap, ◌∙◌, subst, arith, ℕ, zero, suc, ◌+◌, ◌-◌, ◌<◌, ◌≤◌, ◌==◌, ◌&&◌, Bool, true, false, cond, List, [], ◌∷◌, ◌++◌, length, map, Option, Some, None, is_some, slice_get}
use Rattle.std.specs.List.{count_by}
use Rattle.std.proofs.lemmas.Bool.{cases_Bool, cases_lt, and_parts, eqb-true}
use Rattle.std.proofs.lemmas.List.{length-append}
use Rattle.std.proofs.lemmas.List.Sums.{sum_by-cons}
use Rattle.std.proofs.lemmas.Option.{slice_get_within}
use Rattle.grasp_cbor.proofs.Facts.Lists.{get_end}
use Rattle.grasp_session.specs.Messages.{Side, Near, Far}
use Rattle.grasp_types.specs.declared.address.Locator.{Locator}
use Rattle.grasp_wire.specs.Laws.{encoded}
use Rattle.grasp_simulator.proofs.StreamPlaces.{Held, held_of}
use Rattle.grasp_simulator.specs.StreamParts.{first_standing, first_stream}
use Rattle.grasp_laws_delivery.proofs.Counts.{every_both, every_map}
use Rattle.grasp_laws_delivery.proofs.Ends.{same_ends}
use Rattle.grasp_laws_delivery.specs.Ready.{Every, WaitsFor, IsDialOf}
use Rattle.grasp_laws_network.proofs.Routing.{is_itself}
use Rattle.grasp_simulator.specs.StreamsStand.{Queueing, HasSides, arrival_of, first_arrival, key_of, same_near, dial_at, IsQueued, HeldAs, IsDialled, TalkStands, numbers, IsNearOf, TableStands, most_streams}
use Rattle.grasp_model_network.specs.Streams.{StreamEnd, StreamState, is_same_end, is_at_end, is_number, side_of_end, has_end, changed_by, at_end, change_at_end, with_number, lives}
use Rattle.grasp_model_network.specs.World.{end_of}
use Rattle.grasp_simulator.specs.declared.stream.Stream.{Stream}
use Rattle.grasp_simulator.specs.declared.stream.LifeEnd.{LifeEnd}

-- ---- lists

append_get : {A : Type 0} (xs : List A) (x a : A) (i : ℕ) → slice_get xs i ≡ Some a → slice_get (xs ++ x ∷ []) i ≡ Some a
append_get [] x a i e = absurd (cc)
append_get (y ∷ ys) x a zero e = e
append_get (y ∷ ys) x a (suc i) e = append_get ys x a i e

-- two counts are the same where they are so of each
counts_same : {A : Type 0} (p q : A → Bool) (g : A → A) (P : A → Type 0) → ((a : A) → P a → p (g a) ≡ q a) → (xs : List A) → Every P xs → count_by p (map g xs) ≡ count_by q xs
counts_same p q g P each [] h = refl
counts_same {A} p q g P each (x ∷ xs) h =
    let one : A → ℕ = λ a. cond (p a) 1 0 in
    let other : A → ℕ = λ a. cond (q a) 1 0 in
    let first : one (g x) ≡ other x = ap (λ b. cond b 1 0) (each x h.0) in
    let rest : count_by p (map g xs) ≡ count_by q xs = counts_same p q g P each xs h.1 in
    let now : count_by p (g x ∷ map g xs) ≡ one (g x) + count_by p (map g xs) = sum_by-cons one (g x) (map g xs) in
    let old : count_by q (x ∷ xs) ≡ other x + count_by q xs = sum_by-cons other x xs in
    omega (arith, first, rest, now, old)

-- ---- ends

-- a stream without a far end has this end as its near one, or not at all
no_far : (e : StreamEnd) (t : StreamState) → t.far ≡ None → has_end e t ≡ is_same_end e t.near
no_far e t none = by (is_same_end e t.near) (is_at_end e t.far) (ap (is_at_end e) none) where
  by : (b c : Bool) → c ≡ false → is_some (cond b (Some Near) (cond c (Some Far) None)) ≡ b
  by true c is = refl
  by false c is = ap (λ x. is_some (cond x (Some Far) None)) is

near_has : (e : StreamEnd) (t : StreamState) → is_same_end e t.near ≡ true → has_end e t ≡ true
near_has e t same = ap (λ b. is_some (cond b (Some Near) (cond (is_at_end e t.far) (Some Far) None))) same

side_none : (o : Option Side) → is_some o ≡ false → o ≡ None
side_none None h = refl
side_none (Some s) h = absurd (cc)

module _ (streams : List Stream) (index after : List (LifeEnd × ℕ)) (begins : Queueing) (closed : Bool) (node number : ℕ) (to : Locator) (ts : List StreamState) (dials : ℕ) (s : TableStands streams index begins ts dials)
    (d : IsDialOf ts (end_of node number) to) (starts : begins (end_of node number) to ≡ Some closed) (room : dials + 1 ≤ most_streams)
    (looks : (q : StreamEnd) → dial_at after q ≡ cond (same_near (key_of (end_of node number)) (key_of q)) (Some (dials + 1)) (dial_at index q)) where
  abbrev e : StreamEnd
  e = end_of node number

  abbrev new : Stream
  new = first_stream node number to closed

  abbrev more : List Stream
  more = streams ++ new ∷ []

  abbrev g : StreamState → StreamState
  g t = at_end e (with_number (dials + 1)) t

  abbrev Before : StreamState → Type 0
  Before t = TalkStands streams index begins t t.number × WaitsFor e to t

  all : Every Before ts
  all = every_both (λ (t : StreamState). TalkStands streams index begins t t.number) (WaitsFor e to) ts s.each d.waits

  new_at : slice_get more ((dials + 1) - 1) ≡ Some new
  new_at = let n : (dials + 1) - 1 ≡ length streams = let h : dials ≡ length streams = s.dialled in omega (arith, h) in ap (slice_get more) n ∙ get_end streams new

  looks_here : (q : StreamEnd) → same_near (key_of e) (key_of q) ≡ true → dial_at after q ≡ Some (dials + 1)
  looks_here q same = looks q ∙ ap (λ b. cond b (Some (dials + 1)) (dial_at index q)) same

  looks_other : (q : StreamEnd) → same_near (key_of e) (key_of q) ≡ false → dial_at after q ≡ dial_at index q
  looks_other q other = looks q ∙ ap (λ b. cond b (Some (dials + 1)) (dial_at index q)) other

  -- ---- the stream of the dial

  key_itself : same_near (key_of e) (key_of e) ≡ true
  key_itself = ap (λ b. b && (number == number)) (is_itself node) ∙ is_itself number

  is_near : (t : StreamState) → has_end e t ≡ true → IsQueued index begins t → e ≡ t.near
  is_near t has q = same_ends e t.near (sym (no_far e t q.far) ∙ has)

  number_given : (t : StreamState) (o : Option Side) → is_some o ≡ true → changed_by (with_number (dials + 1)) t o ≡ record t { number = Some (dials + 1) }
  number_given t None h = absurd (cc)
  number_given t (Some side) h = refl

  first_side : (b : Bool) → arrival_of (first_standing b) ≡ first_arrival b
  first_side true = refl
  first_side false = refl

  -- how its sides stand
  sides_here : (t : StreamState) → e ≡ t.near → t.to ≡ to → IsQueued index begins t → (t.near_side ≡ lives) × (t.far_side ≡ first_arrival closed)
  sides_here t near goes q =
      subst (λ o. HasSides o t.near_side t.far_side) starts
      (subst (λ (l : Locator). HasSides (begins e l) t.near_side t.far_side) goes (subst (λ (x : StreamEnd). HasSides (begins x t.to) t.near_side t.far_side) (sym near) q.sides))

  now_dialled : (t : StreamState) → e ≡ t.near → t.to ≡ to → IsQueued index begins t → IsDialled more after (dials + 1) (record t { number = Some (dials + 1) })
  now_dialled t near goes q = record {
    least = omega arith;
    known = ap (dial_at after) (sym near) ∙ looks_here e key_itself;
    held = subst (λ o. HeldAs o (dials + 1) (record t { number = Some (dials + 1) })) (sym new_at) (record {
      near = sym near;
      even = q.even;
      to = sym goes;
      far = q.far;
      near_side = sym (sides_here t near goes q).0;
      far_side = first_side closed ∙ sym (sides_here t near goes q).1;
      from_near = record { bytes = sym (ap encoded q.near_sent); delivered = sym q.near_delivered };
      from_far = record { bytes = sym (ap encoded q.far_sent); delivered = sym q.far_delivered };
    });
  }

  -- ---- the others

  apart : (t : StreamState) → has_end e t ≡ false → same_near (key_of e) (key_of t.near) ≡ false
  apart t other = elim (cases_Bool (same_near (key_of e) (key_of t.near))) [
    | inr h ↦ h
    | inl h ↦ absurd (let has : has_end e t ≡ true = near_has e t h in cc)
  ]

  held_still : (k : ℕ) (t : StreamState) → Held streams k t → HeldAs (slice_get more (k - 1)) k t
  held_still k t h = subst (λ o. HeldAs o k t) (sym (append_get streams new h.code (k - 1) h.got)) h.stands

  other_stands : (t : StreamState) (n : Option ℕ) → has_end e t ≡ false → TalkStands streams index begins t n → TalkStands more after begins t n
  other_stands t None other q = record {
    unknown = looks_other t.near (apart t other) ∙ q.unknown;
    even = q.even;
    sides = q.sides;
    far = q.far;
    near_sent = q.near_sent;
    near_delivered = q.near_delivered;
    far_sent = q.far_sent;
    far_delivered = q.far_delivered;
  }
  other_stands t (Some k) other h =
      let held : Held streams k t = held_of streams index begins k t h in
      record { least = h.least; known = looks_other t.near (apart t other) ∙ h.known; held = held_still k t held }

  -- ---- each, and each number

  stays_other : (t : StreamState) → has_end e t ≡ false → g t ≡ t
  stays_other t other = ap (changed_by (with_number (dials + 1)) t) (side_none (side_of_end e t) other)

  gives : (t : StreamState) → has_end e t ≡ true → g t ≡ record t { number = Some (dials + 1) }
  gives t has = number_given t (side_of_end e t) has

  queued : (t : StreamState) → has_end e t ≡ true → Before t → IsQueued index begins t
  queued t has b = subst (TalkStands streams index begins t) (b.1 has).0 b.0

  each : (t : StreamState) → Before t → TalkStands more after begins (g t) (g t).number
  each t b = elim (cases_Bool (has_end e t)) [
    | inl has ↦ subst (λ (x : StreamState). TalkStands more after begins x x.number) (sym (gives t has)) (now_dialled t (is_near t has (queued t has b)) (b.1 has).1 (queued t has b))
    | inr other ↦ subst (λ (x : StreamState). TalkStands more after begins x x.number) (sym (stays_other t other)) (other_stands t t.number other b.0)
  ]

  new_number : (n k : ℕ) → (n ≡ k → ⊥) → (n == k) ≡ false
  new_number n k other = elim (cases_Bool (n == k)) [
    | inr h ↦ h
    | inl h ↦ absurd (other (eqb-true n k h))
  ]

  old_count : (k : ℕ) → k ≤ dials → (t : StreamState) → Before t → numbers k (g t) ≡ numbers k t
  old_count k most t b = elim (cases_Bool (has_end e t)) [
    | inr other ↦ ap (numbers k) (stays_other t other)
    | inl has ↦ ap (numbers k) (gives t has) ∙ (new_number (dials + 1) k (λ h. omega (arith, h, most)) ∙ sym (ap (is_number k) (b.1 has).0))
  ]

  not_new : (t : StreamState) (n : Option ℕ) → TalkStands streams index begins t n → is_number (dials + 1) n ≡ false
  not_new t None h = refl
  not_new t (Some k) h =
      let held : Held streams k t = held_of streams index begins k t h in
      let within : k - 1 < length streams = slice_get_within streams (k - 1) held.code held.got in
      let count : dials ≡ length streams = s.dialled in
      let least : 1 ≤ k = h.least in
      new_number k (dials + 1) (λ is. omega (arith, is, within, count, least))

  new_count : (t : StreamState) → Before t → numbers (dials + 1) (g t) ≡ has_end e t
  new_count t b = elim (cases_Bool (has_end e t)) [
    | inr other ↦ ap (numbers (dials + 1)) (stays_other t other) ∙ (not_new t t.number b.0 ∙ sym other)
    | inl has ↦ ap (numbers (dials + 1)) (gives t has) ∙ (is_itself (dials + 1) ∙ sym has)
  ]

  once : (k : ℕ) → 1 ≤ k → k ≤ dials + 1 → count_by (numbers k) (map g ts) ≡ 1
  once k least most = elim (cases_lt dials k) [
    | inr old ↦ counts_same (numbers k) (numbers k) g Before (old_count k old) ts all ∙ s.once k least old
    | inl past ↦
        let n : k ≡ dials + 1 = omega (arith, past, most) in
        ap (λ j. count_by (numbers j) (map g ts)) n ∙ (counts_same (numbers (dials + 1)) (has_end e) g Before new_count ts all ∙ d.once)
  ]

  near_still : (q : StreamEnd) (i : ℕ) (o : Option Stream) → slice_get streams i ≡ o → IsNearOf q o → IsNearOf q (slice_get more i)
  near_still q i None got h = absurd h
  near_still q i (Some code) got h = subst (IsNearOf q) (sym (append_get streams new code i got)) h

  found : (q : StreamEnd) (k : ℕ) → dial_at after q ≡ Some k → (1 ≤ k) × (k ≤ dials + 1) × IsNearOf q (slice_get more (k - 1))
  found q k at = elim (cases_Bool (same_near (key_of e) (key_of q))) [
    | inl same ↦
        let here : dial_at after q ≡ Some (dials + 1) = looks_here q same in
        let n : dials + 1 ≡ k = cc (here, at) in
        let a = and_parts (node == q.node) (number == q.number) same in
        let m : k - 1 ≡ (dials + 1) - 1 = ap (λ j. j - 1) (sym n) in
        (omega (arith, n), omega (arith, n), subst (IsNearOf q) (sym (ap (slice_get more) m ∙ new_at)) (eqb-true node q.node a.0, eqb-true number q.number a.1))
    | inr other ↦
        let h = s.found q k (sym (looks_other q other) ∙ at) in
        (h.0, omega (arith, h.1), near_still q (k - 1) (slice_get streams (k - 1)) refl h.2)
  ]

  pub dialled : TableStands more after begins (change_at_end ts e (with_number (dials + 1))) (dials + 1)
  dialled = record {
    dialled = let a : length more ≡ length streams + 1 = length-append streams (new ∷ []) in let h : dials ≡ length streams = s.dialled in omega (arith, a, h);
    each = every_map Before (λ (t : StreamState). TalkStands more after begins t t.number) g each ts all;
    once = once;
    few = room;
    found = found;
  }
