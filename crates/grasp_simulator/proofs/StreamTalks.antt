-- The streams of a network by their numbers, and changes that the code's table doesn't keep.
use Rattle.std.proofs.Common.{◌≡◌, inl, inr, refl, sym, ap, ◌∙◌, subst, arith, ℕ, ◌+◌, ◌-◌, ◌≤◌, ◌==◌, Bool, true, false, cond, List, [], ◌∷◌, length, Option, Some, None, slice_get}
use Rattle.std.specs.List.{count_by, find}
use Rattle.std.proofs.lemmas.Bool.{cases_Bool, cases_lt, eqb-true}
use Rattle.std.proofs.lemmas.List.Sums.{sum_by-cons}
use Rattle.std.proofs.lemmas.Option.{slice_get_past}
use Rattle.grasp_model_network.specs.Setting.{numbered}
use Rattle.grasp_laws_delivery.specs.Ready.{Every}
use Rattle.grasp_simulator.specs.StreamsStand.{Queueing, HeldAs, IsDialled, TalkStands, numbers, TableStands, IsTalk}
use Rattle.grasp_model_network.specs.Streams.{StreamState, is_number, stream_numbered}
use Rattle.grasp_simulator.specs.declared.stream.Stream.{Stream}
use Rattle.grasp_simulator.specs.declared.stream.LifeEnd.{LifeEnd}

pub record Chosen (P : StreamState → Type 0) (p : StreamState → Bool) (t : StreamState) : Type 0 where
  pub passes : p t ≡ true
  pub holds : P t

module _ (P : StreamState → Type 0) (p : StreamState → Bool) where
  found_by : (x : StreamState) (xs : List StreamState) (t : StreamState) → (find p xs ≡ Some t → Every P xs → Chosen P p t) → (b : Bool) → p x ≡ b → cond b (Some x) (find p xs) ≡ Some t → P x × Every P xs → Chosen P p t
  found_by x xs t rest true is e h = let same : x ≡ t = cc in subst (Chosen P p) same (record { passes = is; holds = h.0 })
  found_by x xs t rest false is e h = rest e h.1

  pub found_is : (ts : List StreamState) (t : StreamState) → find p ts ≡ Some t → Every P ts → Chosen P p t
  found_is [] t e h = absurd (cc)
  found_is (x ∷ xs) t e h = found_by x xs t (found_is xs t) (p x) refl e h

module _ (p : StreamState → Bool) where
  none_by : (x : StreamState) (xs : List StreamState) → (find p xs ≡ None → count_by p xs ≡ 0) → (b : Bool) → p x ≡ b → cond b (Some x) (find p xs) ≡ None → count_by p (x ∷ xs) ≡ 0
  none_by x xs below true is e = absurd (cc)
  none_by x xs below false is e =
      let one : StreamState → ℕ = λ y. cond (p y) 1 0 in
      let all : count_by p (x ∷ xs) ≡ one x + count_by p xs = sum_by-cons one x xs in
      let first : one x ≡ 0 = ap (λ b. cond b 1 0) is in
      let rest : count_by p xs ≡ 0 = below e in
      omega (arith, all, first, rest)

  pub none_counted : (ts : List StreamState) → find p ts ≡ None → count_by p ts ≡ 0
  none_counted [] e = refl
  none_counted (x ∷ xs) e = none_by x xs (none_counted xs) (p x) refl e

module _ (streams : List Stream) (index : List (LifeEnd × ℕ)) (begins : Queueing) (ts : List StreamState) (dials : ℕ) (s : TableStands streams index begins ts dials) where
  pub at_least_1 : (k : ℕ) → 1 ≤ k → numbered streams k ≡ slice_get streams (k - 1)
  at_least_1 k least = elim (cases_Bool (k == 0)) [
    | inl is ↦ absurd (let n : k ≡ 0 = eqb-true k 0 is in omega (arith, n, least))
    | inr other ↦ ap (λ b. cond b None (slice_get streams (k - 1))) other
  ]

  held_talk : (k : ℕ) (t : StreamState) (o : Option Stream) → HeldAs o k t → IsTalk k o (Some t)
  held_talk k t None h = h
  held_talk k t (Some code) h = h

  talk_by : (k : ℕ) (t : StreamState) (n : Option ℕ) → is_number k n ≡ true → TalkStands streams index begins t n → IsTalk k (numbered streams k) (Some t)
  talk_by k t None is h = absurd (cc)
  talk_by k t (Some j) is h =
      let same : j ≡ k = eqb-true j k is in
      let d : IsDialled streams index k t = subst (λ m. IsDialled streams index m t) same h in
      subst (λ o. IsTalk k o (Some t)) (sym (at_least_1 k d.least)) (held_talk k t (slice_get streams (k - 1)) d.held)

  nothing_at : (k : ℕ) → count_by (numbers k) ts ≡ 0 → numbered streams k ≡ None
  nothing_at k none = elim (cases_lt 0 k) [
    | inr less ↦ let n : k ≡ 0 = omega (arith, less) in ap (numbered streams) n
    | inl more ↦ elim (cases_lt dials k) [
      | inl past ↦ let d : dials ≡ length streams = s.dialled in at_least_1 k (omega (arith, more)) ∙ slice_get_past streams (k - 1) (omega (arith, past, d))
      | inr within ↦ absurd (let one : count_by (numbers k) ts ≡ 1 = s.once k (omega (arith, more)) within in omega (arith, one, none))
    ]
  ]

  talk_found : (k : ℕ) (o : Option StreamState) → stream_numbered ts k ≡ o → IsTalk k (numbered streams k) o
  talk_found k None e = subst (λ c. IsTalk k c None) (sym (nothing_at k (none_counted (numbers k) ts e))) tt
  talk_found k (Some t) e =
      let c : Chosen (λ (x : StreamState). TalkStands streams index begins x x.number) (numbers k) t = found_is (λ (x : StreamState). TalkStands streams index begins x x.number) (numbers k) ts t e s.each in
      talk_by k t t.number c.passes c.holds

  -- the stream of a number
  pub talk_at : (k : ℕ) → IsTalk k (numbered streams k) (stream_numbered ts k)
  talk_at k = talk_found k (stream_numbered ts k) refl
