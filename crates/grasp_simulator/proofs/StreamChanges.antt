-- Changes of one stream in the code's table and among the streams of a network.
use Rattle.std.proofs.Common.{◌≡◌, inl, inr, refl, sym, ap, ◌∙◌, subst, arith, ℕ, zero, suc, ◌+◌, ◌-◌, ◌<◌, ◌==◌, Bool, true, false, cond, List, [], ◌∷◌, ◌++◌, length, Option, Some, None, is_some, slice_get, get_or, slice_set, append_assoc}
use Rattle.std.specs.List.{count_by}
use Rattle.std.proofs.lemmas.Bool.{cases_Bool, eqb-true, eqb-false}
use Rattle.std.proofs.lemmas.List.Sums.{sum_by-cons}
use Rattle.grasp_cbor.proofs.Facts.Options.{same_some}
use Rattle.grasp_model_node.specs.Queue.{encoding}
use Rattle.grasp_session.specs.Messages.{Side, Near, Far}
use Rattle.grasp_types.specs.declared.message.Message.{Message}
use Rattle.grasp_wire.specs.Laws.{encoded}
use Rattle.grasp_simulator.proofs.StreamPlaces.{Held, held_of, side_here, side_of_queued, side_in, side_at_place}
use Rattle.grasp_model_network.specs.StreamChanges.{side_named}
use Rattle.grasp_model_network.specs.World.{end_of}
use Rattle.grasp_simulator.specs.StreamParts.{more_sent, stream_sent}
use Rattle.grasp_laws_delivery.proofs.Counts.{every_map}
use Rattle.grasp_laws_delivery.specs.Ready.{Every, IsSent, AreSent}
use Rattle.grasp_laws_network.proofs.Staying.{set_here}
use Rattle.grasp_simulator.specs.StreamsStand.{Queueing, dial_at, SentStands, StreamStands, IsQueued, HeldAs, IsDialled, TalkStands, numbers, IsNearOf, TableStands, place_in}
use Rattle.grasp_model_network.specs.Streams.{StreamEnd, Direction, StreamState, is_number, side_of_end, has_end, changed_by, at_end, change_at_end, with_sent}
use Rattle.grasp_simulator.specs.declared.stream.Sent.{Sent}
use Rattle.grasp_simulator.specs.declared.stream.Stream.{Stream}
use Rattle.grasp_simulator.specs.declared.stream.LifeEnd.{LifeEnd}

-- ---- lists

set_other : {A : Type 0} (xs : List A) (i j : ℕ) (b : A) → (i ≡ j → ⊥) → slice_get (slice_set xs i b) j ≡ slice_get xs j
set_other (x ∷ xs) zero zero b other = absurd (other refl)
set_other (x ∷ xs) (suc i) (suc j) b other = set_other xs i j b (λ h. other (ap suc h))
set_other _ _ _ b other = refl

set_length : {A : Type 0} (xs : List A) (i : ℕ) (b : A) → length (slice_set xs i b) ≡ length xs
set_length [] i b = refl
set_length (x ∷ xs) zero b = refl
set_length (x ∷ xs) (suc i) b = ap suc (set_length xs i b)

pub got_at : {A : Type 0} (xs : List A) (i : ℕ) (a : A) → i < length xs → a ≡ get_or xs i a → slice_get xs i ≡ Some a
got_at [] i a within is = absurd (omega (arith, within))
got_at (x ∷ xs) zero a within is = ap Some (sym is)
got_at (x ∷ xs) (suc i) a within is = got_at xs i a (omega (arith, within)) is

-- ---- a change by a side

-- the change keeps the stream's number
abbrev pub KeepsNumber : (StreamState → Side → StreamState) → Type 0
KeepsNumber f = (t : StreamState) (side : Side) → (f t side).number ≡ t.number

changed_number : (f : StreamState → Side → StreamState) → KeepsNumber f → (t : StreamState) (o : Option Side) → (changed_by f t o).number ≡ t.number
changed_number f keeps t None = refl
changed_number f keeps t (Some side) = keeps t side

pub count_stays : (k : ℕ) (e : StreamEnd) (f : StreamState → Side → StreamState) → KeepsNumber f → (ts : List StreamState) → count_by (numbers k) (change_at_end ts e f) ≡ count_by (numbers k) ts
count_stays k e f keeps [] = refl
count_stays k e f keeps (t ∷ ts) =
    let one : StreamState → ℕ = λ x. cond (numbers k x) 1 0 in
    let first : one (at_end e f t) ≡ one t = ap (λ o. cond (is_number k o) 1 0) (changed_number f keeps t (side_of_end e t)) in
    let rest : count_by (numbers k) (change_at_end ts e f) ≡ count_by (numbers k) ts = count_stays k e f keeps ts in
    let now : count_by (numbers k) (at_end e f t ∷ change_at_end ts e f) ≡ one (at_end e f t) + count_by (numbers k) (change_at_end ts e f) = sum_by-cons one (at_end e f t) (change_at_end ts e f) in
    let old : count_by (numbers k) (t ∷ ts) ≡ one t + count_by (numbers k) ts = sum_by-cons one t ts in
    omega (arith, first, rest, now, old)

module _ (streams : List Stream) (index : List (LifeEnd × ℕ)) (begins : Queueing) (node number : ℕ) (p : ℕ × Bool) (f : StreamState → Side → StreamState) (code after : Stream) (keeps : KeepsNumber f)
    (near_stays : (t : StreamState) (side : Side) → (f t side).near ≡ t.near) (placed : place_in streams index node number ≡ Some p) (got : slice_get streams p.0 ≡ Some code)
    (changes : (t : StreamState) → StreamStands code (p.0 + 1) t → StreamStands after (p.0 + 1) (f t (side_named p.1))) where
  abbrev e : StreamEnd
  e = end_of node number

  -- of the stream at the place the side is changed
  dialled_here : (k : ℕ) (t : StreamState) → IsDialled streams index k t → p.0 + 1 ≡ k → IsDialled (slice_set streams p.0 after) index k (f t (side_named p.1))
  dialled_here k t d is =
      let m : p.0 ≡ k - 1 = omega (arith, is) in
      let h : Held streams k t = held_of streams index begins k t d in
      let same : code ≡ h.code = same_some (slice_get streams p.0) code h.code got (ap (slice_get streams) m ∙ h.got) in
      let old : StreamStands code (p.0 + 1) t = subst (λ j. StreamStands code j t) (sym is) (subst (λ (c : Stream). StreamStands c k t) (sym same) h.stands) in
      let new : StreamStands after k (f t (side_named p.1)) = subst (λ j. StreamStands after j (f t (side_named p.1))) is (changes t old) in
      let at : slice_get (slice_set streams p.0 after) (k - 1) ≡ Some after = ap (slice_get (slice_set streams p.0 after)) (sym m) ∙ set_here streams p.0 code after got in
      record {
        least = d.least;
        known = ap (dial_at index) (near_stays t (side_named p.1)) ∙ d.known;
        held = subst (λ o. HeldAs o k (f t (side_named p.1))) (sym at) new;
      }

  -- every other one stays
  dialled_other : (k : ℕ) (t : StreamState) → IsDialled streams index k t → (p.0 + 1 ≡ k → ⊥) → IsDialled (slice_set streams p.0 after) index k t
  dialled_other k t d other =
      let apart : p.0 ≡ k - 1 → ⊥ = λ m. other (omega (arith, m, d.least)) in
      record { least = d.least; known = d.known; held = subst (λ o. HeldAs o k t) (sym (set_other streams p.0 (k - 1) after apart)) d.held }

  dialled_by : (k : ℕ) (t : StreamState) → IsDialled streams index k t → (b : Bool) → ((p.0 + 1) == k) ≡ b → IsDialled (slice_set streams p.0 after) index k (changed_by f t (side_at_place p.1 b))
  dialled_by k t d true is = dialled_here k t d (eqb-true (p.0 + 1) k is)
  dialled_by k t d false is = dialled_other k t d (eqb-false (p.0 + 1) k is)

  talk_by : (t : StreamState) (o : Option ℕ) → TalkStands streams index begins t o → TalkStands (slice_set streams p.0 after) index begins (at_end e f t) o
  talk_by t None q = subst (λ side. IsQueued index begins (changed_by f t side)) (sym (side_of_queued streams index begins node number t p q placed)) q
  talk_by t (Some k) d =
      let side : side_of_end e t ≡ side_in (Some p) k = side_here streams index begins node number k t d ∙ ap (λ o. side_in o k) placed in
      subst (λ s. IsDialled (slice_set streams p.0 after) index k (changed_by f t s)) (sym side) (dialled_by k t d ((p.0 + 1) == k) refl)

  talk_changed : (t : StreamState) → TalkStands streams index begins t t.number → TalkStands (slice_set streams p.0 after) index begins (at_end e f t) (at_end e f t).number
  talk_changed t h = subst (TalkStands (slice_set streams p.0 after) index begins (at_end e f t)) (sym (changed_number f keeps t (side_of_end e t))) (talk_by t t.number h)

  near_at : (q : StreamEnd) (i : ℕ) (near : after.near ≡ code.near) (named : after.number ≡ code.number) → IsNearOf q (slice_get streams i) → IsNearOf q (slice_get (slice_set streams p.0 after) i)
  near_at q i near named h = elim (cases_Bool (p.0 == i)) [
    | inr bad ↦ subst (IsNearOf q) (sym (set_other streams p.0 i after (eqb-false p.0 i bad))) h
    | inl good ↦
        let m : p.0 ≡ i = eqb-true p.0 i good in
        let was : slice_get streams i ≡ Some code = ap (slice_get streams) (sym m) ∙ got in
        let at : slice_get (slice_set streams p.0 after) i ≡ Some after = ap (slice_get (slice_set streams p.0 after)) (sym m) ∙ set_here streams p.0 code after got in
        let old : IsNearOf q (Some code) = subst (IsNearOf q) was h in
        subst (IsNearOf q) (sym at) (near ∙ old.0, named ∙ old.1)
  ]

  pub changed : (ts : List StreamState) (dials : ℕ) → after.near ≡ code.near → after.number ≡ code.number → TableStands streams index begins ts dials → TableStands (slice_set streams p.0 after) index begins (change_at_end ts e f) dials
  changed ts dials near named s = record {
    dialled = s.dialled ∙ sym (set_length streams p.0 after);
    each = every_map (λ (t : StreamState). TalkStands streams index begins t t.number) (λ (t : StreamState). TalkStands (slice_set streams p.0 after) index begins t t.number) (at_end e f) talk_changed ts s.each;
    once = λ k least most. count_stays k e f keeps ts ∙ s.once k least most;
    few = s.few;
    found = λ q k at. let h = s.found q k at in (h.0, h.1, near_at q (k - 1) near named h.2);
  }

-- ---- a message more

encoded_then : (ms : List Message) (m : Message) → encoded (ms ++ m ∷ []) ≡ encoded ms ++ encoding m
encoded_then [] m = last (encoding m) where
  last : (bytes : List ℕ) → bytes ++ [] ≡ bytes
  last [] = refl
  last (b ∷ bytes) = ap (λ q. b ∷ q) (last bytes)
encoded_then (n ∷ ms) m = ap (λ q. encoding n ++ q) (encoded_then ms m) ∙ sym (append_assoc (encoding n) (encoded ms) (encoding m))

more_stands : (code : Sent) (d : Direction) (m : Message) → SentStands code d → SentStands (more_sent code (encoding m)) (record d { sent = d.sent ++ m ∷ [] })
more_stands code d m s = record { bytes = ap (λ q. q ++ encoding m) s.bytes ∙ sym (encoded_then d.sent m); delivered = s.delivered }

pub sends : (code : Stream) (k : ℕ) (t : StreamState) (far : Bool) (m : Message) → StreamStands code k t → StreamStands (stream_sent code far (encoding m)) k (with_sent m t (side_named far))
sends code k t true m s = record {
  near = s.near;
  even = s.even;
  to = s.to;
  far = s.far;
  near_side = s.near_side;
  far_side = s.far_side;
  from_near = s.from_near;
  from_far = more_stands code.from_far t.from_far m s.from_far;
}
sends code k t false m s = record {
  near = s.near;
  even = s.even;
  to = s.to;
  far = s.far;
  near_side = s.near_side;
  far_side = s.far_side;
  from_near = more_stands code.from_near t.from_near m s.from_near;
  from_far = s.from_far;
}

keeps_sent : (m : Message) → KeepsNumber (with_sent m)
keeps_sent m t Near = refl
keeps_sent m t Far = refl

near_sent : (m : Message) (t : StreamState) (side : Side) → (with_sent m t side).near ≡ t.near
near_sent m t Near = refl
near_sent m t Far = refl

sent_near : (code : Stream) (far : Bool) (bytes : List ℕ) → (stream_sent code far bytes).near ≡ code.near
sent_near code true bytes = refl
sent_near code false bytes = refl

sent_number : (code : Stream) (far : Bool) (bytes : List ℕ) → (stream_sent code far bytes).number ≡ code.number
sent_number code true bytes = refl
sent_number code false bytes = refl

pub sent_here : (streams : List Stream) (index : List (LifeEnd × ℕ)) (begins : Queueing) (node number : ℕ) (p : ℕ × Bool) (code after : Stream) (bytes : List ℕ) (m : Message) (ts : List StreamState) (dials : ℕ)
    → place_in streams index node number ≡ Some p → slice_get streams p.0 ≡ Some code → after ≡ stream_sent code p.1 bytes → bytes ≡ encoding m → TableStands streams index begins ts dials
    → TableStands (slice_set streams p.0 after) index begins (change_at_end ts (end_of node number) (with_sent m)) dials
sent_here streams index begins node number p code after bytes m ts dials placed got new is s =
    let so : after ≡ stream_sent code p.1 (encoding m) = new ∙ ap (stream_sent code p.1) is in
    subst (λ (c : Stream). TableStands (slice_set streams p.0 c) index begins (change_at_end ts (end_of node number) (with_sent m)) dials) (sym so)
    (changed streams index begins node number p (with_sent m) code (stream_sent code p.1 (encoding m)) (keeps_sent m) (near_sent m) placed got (λ t. sends code (p.0 + 1) t p.1 m) ts dials
    (sent_near code p.1 (encoding m)) (sent_number code p.1 (encoding m)) s)

-- ---- an end that no stream has

no_side : (o : Option Side) (n : Option ℕ) → n ≡ None → (is_some o ≡ true → IsSent n) → o ≡ None
no_side None n none h = refl
no_side (Some side) n none h = absurd (subst IsSent none (h refl))

none_by : (streams : List Stream) (index : List (LifeEnd × ℕ)) (begins : Queueing) (node number : ℕ) (t : StreamState) (n : Option ℕ) → t.number ≡ n → place_in streams index node number ≡ None → TalkStands streams index begins t n
    → (has_end (end_of node number) t ≡ true → IsSent t.number) → side_of_end (end_of node number) t ≡ None
none_by streams index begins node number t None is placed h sent = no_side (side_of_end (end_of node number) t) t.number is sent
none_by streams index begins node number t (Some k) is placed h sent = side_here streams index begins node number k t h ∙ ap (λ o. side_in o k) placed

pub stays_nowhere : (streams : List Stream) (index : List (LifeEnd × ℕ)) (begins : Queueing) (node number : ℕ) (f : StreamState → Side → StreamState) (ts : List StreamState) → place_in streams index node number ≡ None
    → AreSent ts (end_of node number) → Every (λ (t : StreamState). TalkStands streams index begins t t.number) ts → change_at_end ts (end_of node number) f ≡ ts
stays_nowhere streams index begins node number f [] placed sent h = refl
stays_nowhere streams index begins node number f (t ∷ ts) placed sent h =
    let side : side_of_end (end_of node number) t ≡ None = none_by streams index begins node number t t.number refl placed h.0 sent.0 in
    let first : at_end (end_of node number) f t ≡ t = ap (changed_by f t) side in
    ap (λ (x : StreamState). x ∷ change_at_end ts (end_of node number) f) first ∙ ap (λ (l : List StreamState). t ∷ l) (stays_nowhere streams index begins node number f ts placed sent.1 h.1)

pub sent_nowhere : (streams : List Stream) (index : List (LifeEnd × ℕ)) (begins : Queueing) (node number : ℕ) (m : Message) (ts : List StreamState) (dials : ℕ) → place_in streams index node number ≡ None
    → AreSent ts (end_of node number) → TableStands streams index begins ts dials → TableStands streams index begins (change_at_end ts (end_of node number) (with_sent m)) dials
sent_nowhere streams index begins node number m ts dials placed sent s =
    subst (λ (l : List StreamState). TableStands streams index begins l dials) (sym (stays_nowhere streams index begins node number (with_sent m) ts placed sent s.each)) s
