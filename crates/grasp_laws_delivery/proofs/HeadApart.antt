-- No two streams of a network have one end, and what a node knows is one stream.
use Rattle.std.proofs.Common.{◌≡◌, ◌≤◌, ◌+◌, ◌-◌, ◌%◌, ◌==◌, ◌⊎◌, inl, inr, refl, sym, ap, ◌∙◌, subst, arith, ℕ, Bool, true, false, cond, List, [], ◌∷◌, length, Option, Some, None, slice_get}
use Rattle.std.specs.List.{count_by}
use Rattle.std.proofs.lemmas.Bool.{cases_Bool, eqb-true, true≢false}
use Rattle.grasp_cbor.proofs.Places.{got_below}
use Rattle.grasp_laws_node.specs.Dials.{evens_from}
use Rattle.grasp_laws_node.specs.Sends.{IsKnown}
use Rattle.grasp_model_network.specs.GoodSetting.{IsGoodSetting}
use Rattle.grasp_model_network.specs.Plans.{IsNode}
use Rattle.grasp_model_network.specs.Setting.{Setting, numbered}
use Rattle.grasp_model_network.specs.Streams.{StreamEnd}
use Rattle.grasp_model_network.specs.World.{Seat, end_of}
use Rattle.grasp_laws_delivery.specs.Heads.{Head, has_head_end, nears_at}
use Rattle.grasp_laws_delivery.specs.Kept.{IsArrived, NodeKept, AreKept}
use Rattle.grasp_laws_delivery.specs.Ready.{Every}
use Rattle.grasp_laws_delivery.proofs.Counts.{count_first, count_yes}
use Rattle.grasp_laws_delivery.proofs.HeadCounts.{none_near, even_most, odd_most, known_once}

-- ---- places

none_there : {A : Type 0} (xs : List A) (n : ℕ) → numbered xs n ≡ None → IsNode (length xs) n → ⊥
none_there xs n none at = got_below xs (n - 1) (omega (arith, at.least, at.most)) (subst (λ b. cond b None (slice_get xs (n - 1)) ≡ None) (not_zero n at.least) none) where
  not_zero : (k : ℕ) → 1 ≤ k → (k == 0) ≡ false
  not_zero k least = elim (cases_Bool (k == 0)) [
    | inl is ↦ absurd (let z : k ≡ 0 = eqb-true k 0 is in omega (arith, z, least))
    | inr not ↦ not
  ]

even_or_odd : (n : ℕ) → (n % 2 ≡ 0) ⊎ (n % 2 ≡ 1)
even_or_odd n = elim (cases_Bool ((n % 2) == 0)) [
  | inl is ↦ inl (eqb-true (n % 2) 0 is)
  | inr not ↦ inr (odd (λ e. true≢false (sym (ap (λ k. k == 0) e) ∙ not)))
] where
  odd : (n % 2 ≡ 0 → ⊥) → n % 2 ≡ 1
  odd h = omega (arith, h)

-- ---- a network

module _ (s : Setting) (good : IsGoodSetting s) (seats : List Seat) (hs : List Head) (dials : ℕ) (k : AreKept s seats hs dials) where
  near_by : (node : ℕ) (o : Option Seat) → numbered seats node ≡ o → (nears_at node hs ≡ []) ⊎ ((dialled : ℕ) × (nears_at node hs ≡ evens_from 0 dialled))
  near_by node None none = inl (none_near s good (length seats) dials node (none_there seats node none) hs k.ends)
  near_by node (Some seat) here = inr (seat.core.streams.dialled, (k.nodes node seat here).nears)

  pub kept_apart : (e : StreamEnd) → count_by (has_head_end e) hs ≤ 1
  kept_apart e = by_parity (even_or_odd e.number) where
    by_parity : (e.number % 2 ≡ 0) ⊎ (e.number % 2 ≡ 1) → count_by (has_head_end e) hs ≤ 1
    by_parity (inl even) = even_most s good (length seats) dials e.node e.number even hs k.ends (near_by e.node (numbered seats e.node) refl)
    by_parity (inr odd) = odd_most s good (length seats) dials e odd hs k.ends k.once

  pub kept_known : (node : ℕ) (seat : Seat) (number : ℕ) → NodeKept hs node seat → IsKnown (λ n. IsArrived hs node n) seat.core.streams.dialled number
      → count_by (has_head_end (end_of node number)) hs ≡ 1
  kept_known node seat number n known = known_once s good (length seats) dials hs k.ends k.once node seat.core.streams.dialled number n.nears known

-- ---- what has an end that one alone has

-- the value is one of the list
abbrev pub IsIn : {A : Type 0} → A → List A → Type 0
IsIn y [] = ⊥
IsIn y (x ∷ xs) = (x ≡ y) ⊎ IsIn y xs

module _ {A : Type 0} (p : A → Bool) where
  one_more : (x : A) (xs : List A) → 1 ≤ count_by p xs → 1 ≤ count_by p (x ∷ xs)
  one_more x xs rest = let c : count_by p (x ∷ xs) ≡ cond (p x) 1 0 + count_by p xs = count_first p x xs in omega (arith, c, rest)

  at_least_one : (xs : List A) (y : A) → IsIn y xs → p y ≡ true → 1 ≤ count_by p xs
  at_least_one [] y i is = absurd i
  at_least_one (x ∷ xs) y (inl same) is = let e : count_by p (x ∷ xs) ≡ 1 + count_by p xs = count_yes p x xs (ap p same ∙ is) in omega (arith, e)
  at_least_one (x ∷ xs) y (inr i) is = one_more x xs (at_least_one xs y i is)

  fewer : (x : A) (xs : List A) (most : ℕ) → count_by p (x ∷ xs) ≤ most → count_by p xs ≤ most
  fewer x xs most few = let c : count_by p (x ∷ xs) ≡ cond (p x) 1 0 + count_by p xs = count_first p x xs in omega (arith, c, few)

  none_passes : (x : A) (xs : List A) → count_by p (x ∷ xs) ≤ 0 → p x ≡ true → ⊥
  none_passes x xs few is = let c : count_by p (x ∷ xs) ≡ 1 + count_by p xs = count_yes p x xs is in omega (arith, c, few)

  none_pass : (y : A) (xs : List A) → count_by p xs ≤ 0 → Every (λ x. p x ≡ true → x ≡ y) xs
  none_pass y [] few = tt
  none_pass y (x ∷ xs) few = (λ is. absurd (none_passes x xs few is), none_pass y xs (fewer x xs 0 few))

  one_before : (x : A) (xs : List A) → 1 ≤ count_by p xs → count_by p (x ∷ xs) ≤ 1 → p x ≡ true → ⊥
  one_before x xs rest few is = let c : count_by p (x ∷ xs) ≡ 1 + count_by p xs = count_yes p x xs is in omega (arith, c, rest, few)

  -- where at most one passes, each that passes is this one
  pub one_alike : (xs : List A) (y : A) → IsIn y xs → p y ≡ true → count_by p xs ≤ 1 → Every (λ x. p x ≡ true → x ≡ y) xs
  one_alike [] y i is few = tt
  one_alike (x ∷ xs) y (inl same) is few =
      let c : count_by p (x ∷ xs) ≡ 1 + count_by p xs = count_yes p x xs (ap p same ∙ is) in (λ e. same, none_pass y xs (omega (arith, c, few)))
  one_alike (x ∷ xs) y (inr i) is few = (λ e. absurd (one_before x xs (at_least_one xs y i is) few e), one_alike xs y i is (fewer x xs 1 few))
