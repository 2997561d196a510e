-- The place of an end in the code's table of streams is that of the stream that has it.
use Rattle.std.proofs.Common.{◌≡◌, inl, inr, refl, sym, ap, ◌∙◌, arith, ℕ, ◌+◌, ◌-◌, ◌*◌, ◌%◌, ◌/◌, ◌≤◌, ◌==◌, Bool, true, false, cond, List, Option, Some, None, slice_get}
use Rattle.std.proofs.lemmas.Bool.{cases_Bool, and_parts, eqb-true, eqb-false}
use Rattle.grasp_cbor.proofs.Facts.Options.{same_some}
use Rattle.grasp_laws_delivery.proofs.Ends.{same_ends, end_itself}
use Rattle.grasp_laws_network.proofs.Routing.{is_itself}
use Rattle.grasp_session.specs.Messages.{Side, Near, Far}
use Rattle.grasp_model_network.specs.StreamChanges.{side_named}
use Rattle.grasp_model_network.specs.World.{end_of}
use Rattle.grasp_simulator.specs.StreamsStand.{Queueing, dial_at, far_end, StreamStands, IsQueued, HeldAs, IsDialled, near_here, near_place, far_here, place_in}
use Rattle.grasp_model_network.specs.Streams.{StreamEnd, StreamState, is_same_end, is_at_end, is_number, side_of_end}
use Rattle.grasp_simulator.specs.declared.stream.Stream.{Stream}
use Rattle.grasp_simulator.specs.declared.stream.LifeEnd.{LifeEnd}

-- what stands for a stream that was dialled
pub record Held (streams : List Stream) (k : ℕ) (t : StreamState) : Type 0 where
  pub code : Stream
  pub got : slice_get streams (k - 1) ≡ Some code
  pub stands : StreamStands code k t

held_from : (streams : List Stream) (k : ℕ) (t : StreamState) (o : Option Stream) → slice_get streams (k - 1) ≡ o → HeldAs o k t → Held streams k t
held_from streams k t None e h = absurd h
held_from streams k t (Some code) e h = record { code = code; got = e; stands = h }

pub held_of : (streams : List Stream) (index : List (LifeEnd × ℕ)) (begins : Queueing) (k : ℕ) (t : StreamState) → IsDialled streams index k t → Held streams k t
held_of streams index begins k t d = held_from streams k t (slice_get streams (k - 1)) refl d.held

none_some : {A : Type 0} (o : Option A) (a : A) → o ≡ None → o ≡ Some a → ⊥
none_some o a e f = cc

pub true_false : (b : Bool) → b ≡ true → b ≡ false → ⊥
true_false b e f = cc

-- ---- ends

pub record SameEnds (e f : StreamEnd) : Type 0 where
  pub node : e.node ≡ f.node
  pub number : e.number ≡ f.number

pub end_parts : (e f : StreamEnd) → is_same_end e f ≡ true → SameEnds e f
end_parts e f h =
    let a = and_parts (e.node == f.node) (e.number == f.number) h in
    record { node = eqb-true e.node f.node a.0; number = eqb-true e.number f.number a.1 }

-- the far end of a stream has an odd number
pub far_is_odd : (node number k : ℕ) (o : Option ℕ) → 1 ≤ k → number % 2 ≡ 0 → is_at_end (end_of node number) (far_end o k) ≡ false
far_is_odd node number k None least even = refl
far_is_odd node number k (Some n) least even = elim (cases_Bool (is_same_end (end_of node number) (end_of n (2 * k - 1)))) [
  | inl h ↦ absurd (let s : SameEnds (end_of node number) (end_of n (2 * k - 1)) = end_parts (end_of node number) (end_of n (2 * k - 1)) h in omega (arith, least, even, s.number))
  | inr h ↦ h
]

-- ---- the side of a stream, by the place of the end

abbrev pub side_at_place : Bool → Bool → Option Side
side_at_place far true = Some (side_named far)
side_at_place far false = None

-- the side of the stream of this number
abbrev pub side_in : Option (ℕ × Bool) → ℕ → Option Side
side_in None k = None
side_in (Some p) k = side_at_place p.1 ((p.0 + 1) == k)

module _ (streams : List Stream) (index : List (LifeEnd × ℕ)) (begins : Queueing) (node number k : ℕ) (t : StreamState) (d : IsDialled streams index k t) where
  abbrev e : StreamEnd
  e = end_of node number

  h : Held streams k t
  h = held_of streams index begins k t d

  -- ---- a near end

  near_same : is_same_end e t.near ≡ true → near_place streams e (dial_at index e) ≡ Some (k - 1, false)
  near_same same =
      let is : e ≡ t.near = same_ends e t.near same in
      let at : dial_at index e ≡ Some k = ap (dial_at index) is ∙ d.known in
      let here : is_same_end e (end_of h.code.near h.code.number) ≡ true = ap (is_same_end e) (sym h.stands.near) ∙ same in
      ap (near_place streams e) at ∙ ap (λ o. near_here o e (k - 1)) h.got ∙ ap (λ b. cond b (Some (k - 1, false)) None) here

  place_again : side_in (Some (k - 1, false)) k ≡ Some Near
  place_again =
      let n : (k - 1) + 1 ≡ k = omega (arith, d.least) in
      ap (λ m. side_at_place false (m == k)) n ∙ ap (side_at_place false) (is_itself k)

  near_other_here : (j : ℕ) (o : Option Stream) → slice_get streams j ≡ o → is_same_end e t.near ≡ false → side_in (near_here o e j) k ≡ None
  near_other_here j None got other = refl
  near_other_here j (Some code) got other = elim (cases_Bool (is_same_end e (end_of code.near code.number))) [
    | inr bad ↦ ap (λ b. side_in (cond b (Some (j, false)) None) k) bad
    | inl good ↦ ap (λ b. side_in (cond b (Some (j, false)) None) k) good ∙ elim (cases_Bool ((j + 1) == k)) [
      | inr bad ↦ ap (side_at_place false) bad
      | inl is ↦ absurd (
          let n : j + 1 ≡ k = eqb-true (j + 1) k is in
          let m : j ≡ k - 1 = omega (arith, n) in
          let same : code ≡ h.code = same_some (slice_get streams j) code h.code got (ap (slice_get streams) m ∙ h.got) in
          let near : t.near ≡ end_of code.near code.number = h.stands.near ∙ ap (λ (c : Stream). end_of c.near c.number) (sym same) in
          true_false (is_same_end e t.near) (ap (is_same_end e) near ∙ good) other)
    ]
  ]

  near_other : (o : Option ℕ) → is_same_end e t.near ≡ false → side_in (near_place streams e o) k ≡ None
  near_other None other = refl
  near_other (Some j) other = near_other_here (j - 1) (slice_get streams (j - 1)) refl other

  side_near : number % 2 ≡ 0 → side_of_end e t ≡ side_in (near_place streams e (dial_at index e)) k
  side_near even =
      let far : is_at_end e t.far ≡ false = ap (is_at_end e) h.stands.far ∙ far_is_odd node number k h.code.far d.least even in
      elim (cases_Bool (is_same_end e t.near)) [
        | inl same ↦ ap (λ b. cond b (Some Near) (cond (is_at_end e t.far) (Some Far) None)) same ∙ sym (ap (λ o. side_in o k) (near_same same) ∙ place_again)
        | inr other ↦ ap (λ b. cond b (Some Near) (cond (is_at_end e t.far) (Some Far) None)) other ∙ (ap (λ b. cond b (Some Far) None) far ∙ sym (near_other (dial_at index e) other))
      ]

  -- ---- a far end

  far_again : (i : ℕ) → i + 1 ≡ k → side_in (Some (i, true)) k ≡ Some Far
  far_again i n = ap (λ m. side_at_place true (m == k)) n ∙ ap (side_at_place true) (is_itself k)

  far_same : (o : Option ℕ) → h.code.far ≡ o → is_at_end e (far_end o k) ≡ true → side_in (far_here (slice_get streams (number / 2)) node (number / 2)) k ≡ Some Far
  far_same None is same = absurd (true_false false same refl)
  far_same (Some n) is same =
      let s : SameEnds e (end_of n (2 * k - 1)) = end_parts e (end_of n (2 * k - 1)) same in
      let m : number / 2 ≡ k - 1 = omega (arith, s.number, d.least) in
      let got : slice_get streams (number / 2) ≡ Some h.code = ap (slice_get streams) m ∙ h.got in
      let good : is_number node h.code.far ≡ true = ap (is_number node) is ∙ (ap (λ x. n == x) s.node ∙ is_itself n) in
      let next : number / 2 + 1 ≡ k = omega (arith, m, d.least) in
      ap (λ q. side_in (far_here q node (number / 2)) k) got ∙ (ap (λ b. side_in (cond b (Some (number / 2, true)) None) k) good ∙ far_again (number / 2) next)

  far_is : (o : Option ℕ) → is_number node o ≡ true → number ≡ 2 * k - 1 → is_at_end e (far_end o k) ≡ true
  far_is None good n = absurd (true_false false good refl)
  far_is (Some m) good n =
      let same : m ≡ node = eqb-true m node good in
      let both : end_of node number ≡ end_of m (2 * k - 1) = ap (λ x. end_of x number) (sym same) ∙ ap (end_of m) n in
      ap (λ (x : StreamEnd). is_same_end x (end_of m (2 * k - 1))) both ∙ end_itself (end_of m (2 * k - 1))

  far_other : (o : Option Stream) → slice_get streams (number / 2) ≡ o → number % 2 ≡ 1 → is_at_end e t.far ≡ false → side_in (far_here o node (number / 2)) k ≡ None
  far_other None got odd other = refl
  far_other (Some code) got odd other = elim (cases_Bool (is_number node code.far)) [
    | inr bad ↦ ap (λ b. side_in (cond b (Some (number / 2, true)) None) k) bad
    | inl good ↦ ap (λ b. side_in (cond b (Some (number / 2, true)) None) k) good ∙ elim (cases_Bool ((number / 2 + 1) == k)) [
      | inr bad ↦ ap (side_at_place true) bad
      | inl is ↦ absurd (
          let n : number / 2 + 1 ≡ k = eqb-true (number / 2 + 1) k is in
          let m : number / 2 ≡ k - 1 = omega (arith, n) in
          let w : number ≡ 2 * k - 1 = omega (arith, n, odd) in
          let same : code ≡ h.code = same_some (slice_get streams (number / 2)) code h.code got (ap (slice_get streams) m ∙ h.got) in
          let far : t.far ≡ far_end code.far k = h.stands.far ∙ ap (λ (c : Stream). far_end c.far k) (sym same) in
          true_false (is_at_end e t.far) (ap (is_at_end e) far ∙ far_is code.far good w) other)
    ]
  ]

  side_far : number % 2 ≡ 1 → side_of_end e t ≡ side_in (far_here (slice_get streams (number / 2)) node (number / 2)) k
  side_far odd =
      let near : is_same_end e t.near ≡ false = elim (cases_Bool (is_same_end e t.near)) [
        | inl same ↦ absurd (let s : SameEnds e t.near = end_parts e t.near same in let n : t.near.number % 2 ≡ 0 = h.stands.even in omega (arith, odd, n, s.number))
        | inr other ↦ other
      ] in
      ap (λ b. cond b (Some Near) (cond (is_at_end e t.far) (Some Far) None)) near ∙ elim (cases_Bool (is_at_end e t.far)) [
        | inl same ↦ ap (λ b. cond b (Some Far) None) same ∙ sym (far_same h.code.far refl (ap (is_at_end e) (sym h.stands.far) ∙ same))
        | inr other ↦ ap (λ b. cond b (Some Far) None) other ∙ sym (far_other (slice_get streams (number / 2)) refl odd other)
      ]

  -- the side that this end is of a stream that was dialled
  pub side_here : side_of_end e t ≡ side_in (place_in streams index node number) k
  side_here = elim (cases_Bool ((number % 2) == 0)) [
    | inl even ↦ side_near (eqb-true (number % 2) 0 even) ∙ sym (ap (λ b. side_in (cond b (near_place streams e (dial_at index e)) (far_here (slice_get streams (number / 2)) node (number / 2))) k) even)
    | inr odd ↦ let no = eqb-false (number % 2) 0 odd in let one : number % 2 ≡ 1 = omega (arith, no) in
        side_far one ∙ sym (ap (λ b. side_in (cond b (near_place streams e (dial_at index e)) (far_here (slice_get streams (number / 2)) node (number / 2))) k) odd)
  ]

-- an end that has a place is no end of a stream whose dial is queued
pub side_of_queued : (streams : List Stream) (index : List (LifeEnd × ℕ)) (begins : Queueing) (node number : ℕ) (t : StreamState) (p : ℕ × Bool) → IsQueued index begins t → place_in streams index node number ≡ Some p
    → side_of_end (end_of node number) t ≡ None
side_of_queued streams index begins node number t p q placed =
    let e : StreamEnd = end_of node number in
    let near : is_same_end e t.near ≡ false = elim (cases_Bool (is_same_end e t.near)) [
      | inr other ↦ other
      | inl same ↦ absurd (
          let is : e ≡ t.near = same_ends e t.near same in
          let unknown : dial_at index e ≡ None = ap (dial_at index) is ∙ q.unknown in
          let even : number % 2 ≡ 0 = ap (λ (x : StreamEnd). x.number % 2) is ∙ q.even in
          let none : place_in streams index node number ≡ None = ap (λ m. cond (m == 0) (near_place streams e (dial_at index e)) (far_here (slice_get streams (number / 2)) node (number / 2))) even ∙ ap (near_place streams e) unknown in
          none_some (place_in streams index node number) p none placed)
    ] in
    ap (λ b. cond b (Some Near) (cond (is_at_end e t.far) (Some Far) None)) near ∙ ap (λ o. cond (is_at_end e o) (Some Far) None) q.far
