-- How many streams have an end: one, or none that a node knows of.
use Rattle.std.proofs.Common.{◌≡◌, ◌≤◌, ◌<◌, ◌+◌, ◌*◌, ◌%◌, ◌==◌, ◌⊎◌, inl, inr, refl, sym, ap, ◌∙◌, subst, arith, ℕ, zero, suc, Bool, true, false, cond, List, [], ◌∷◌, Option, Some, None}
use Rattle.std.specs.List.{count_by}
use Rattle.std.proofs.lemmas.Bool.{cases_Bool, cases_lt, eqb-true, eqb-false}
use Rattle.grasp_laws_network.proofs.Routing.{not_equal}
use Rattle.grasp_laws_node.specs.Dials.{evens_from}
use Rattle.grasp_laws_node.specs.Sends.{IsKnown}
use Rattle.grasp_model_network.proofs.Facts.{number_passes}
use Rattle.grasp_model_network.specs.GoodSetting.{IsGoodSetting}
use Rattle.grasp_model_network.specs.Plans.{IsNode}
use Rattle.grasp_model_network.specs.Setting.{Setting}
use Rattle.grasp_model_network.specs.Streams.{StreamEnd, is_same_end, is_at_end}
use Rattle.grasp_model_network.specs.World.{end_of}
use Rattle.grasp_laws_delivery.specs.Heads.{Head, has_head_end, has_number, HasFar, nears_at}
use Rattle.grasp_laws_delivery.specs.Kept.{IsArrived, GoodHead}
use Rattle.grasp_laws_delivery.specs.Ready.{Every, HasGoodNumber, HasGoodFar}
use Rattle.grasp_laws_delivery.proofs.Counts.{every_weaker, count_first, count_yes, count_no, count_at_most, Found, none_or_one}
use Rattle.grasp_laws_delivery.proofs.Ends.{end_itself, parts_are, other_numbers, other_nodes, some_end, at_far, far_here, not_far, near_alone, far_alone}

-- ---- even numbers

abbrev is_it : ℕ → ℕ → Bool
is_it number m = m == number

pub evens_below : (c a number : ℕ) → number < 2 * a → count_by (is_it number) (evens_from a c) ≡ 0
evens_below zero a number h = refl
evens_below (suc c) a number h =
    count_no (is_it number) (2 * a) (evens_from (a + 1) c) (not_equal (2 * a) number (λ e. omega (arith, h, e))) ∙ evens_below c (a + 1) number (omega (arith, h))

pub evens_past : (c a number : ℕ) → 2 * (a + c) ≤ number → count_by (is_it number) (evens_from a c) ≡ 0
evens_past zero a number h = refl
evens_past (suc c) a number h =
    count_no (is_it number) (2 * a) (evens_from (a + 1) c) (not_equal (2 * a) number (λ e. omega (arith, h, e))) ∙ evens_past c (a + 1) number (omega (arith, h))

pub evens_in : (c a number : ℕ) → number % 2 ≡ 0 → 2 * a ≤ number → number < 2 * (a + c) → count_by (is_it number) (evens_from a c) ≡ 1
evens_in zero a number even least most = absurd (omega (arith, least, most))
evens_in (suc c) a number even least most = elim (cases_Bool ((2 * a) == number)) [
  | inl is ↦
      let e : 2 * a ≡ number = eqb-true (2 * a) number is in
      let rest : count_by (is_it number) (evens_from (a + 1) c) ≡ 0 = evens_below c (a + 1) number (omega (arith, e)) in
      let all : count_by (is_it number) (evens_from a (suc c)) ≡ 1 + count_by (is_it number) (evens_from (a + 1) c) = count_yes (is_it number) (2 * a) (evens_from (a + 1) c) is in
      omega (arith, rest, all)
  | inr not ↦
      let e : (2 * a ≡ number) → ⊥ = eqb-false (2 * a) number not in
      let more : 2 * (a + 1) ≤ number = elim (cases_lt number (2 * (a + 1))) [
        | inl less ↦ absurd (e (omega (arith, even, least, less)))
        | inr past ↦ omega (arith, past)
      ] in
      count_no (is_it number) (2 * a) (evens_from (a + 1) c) not ∙ evens_in c (a + 1) number even more (omega (arith, most))
]

-- ---- the ends of one stream

-- the near end has an even number, the far end an odd one; and a stream whose dial isn't sent was opened nowhere
pub record EndsApart (h : Head) : Type 0 where
  pub even : h.near.number % 2 ≡ 0
  pub odd : (e : StreamEnd) → h.far ≡ Some e → e.number % 2 ≡ 1
  pub unopened : h.number ≡ None → h.far ≡ None

-- an even number is that of a near end, an odd one that of a far end
pub even_end : (e : StreamEnd) → e.number % 2 ≡ 0 → (h : Head) → EndsApart h → has_head_end e h ≡ is_same_end e h.near
even_end e even h a = near_alone e h (not_far e h.far (λ f is same. let odd = a.odd f is in omega (arith, even, odd, same)))

pub odd_end : (e : StreamEnd) → e.number % 2 ≡ 1 → (h : Head) → EndsApart h → has_head_end e h ≡ is_at_end e h.far
odd_end e odd h a = far_alone e h (other_numbers e h.near (λ same. omega (arith, odd, a.even, same)))

-- a stream that was opened at this end
pub record ArrivedAs (s : Setting) (nodes dials : ℕ) (e : StreamEnd) (number : Option ℕ) : Type 0 where
  pub k : ℕ
  pub number_is : number ≡ Some k
  pub least : 1 ≤ k
  pub most : k ≤ dials
  pub member : IsNode nodes e.node
  pub arrived : e.number ≡ s.arrives_as e.node k

module _ (s : Setting) (good : IsGoodSetting s) (nodes dials : ℕ) where
  abbrev Good : Head → Type 0
  Good = GoodHead s nodes dials

  arrived_parts : (e : StreamEnd) (number : Option ℕ) (far : Option StreamEnd) → HasGoodNumber dials number → HasGoodFar s nodes number far → far ≡ Some e → ArrivedAs s nodes dials e number
  arrived_parts e number None d o is = absurd (cc)
  arrived_parts e None (Some f) d o is = absurd o
  arrived_parts e (Some k) (Some f) d o is =
      subst (λ (x : StreamEnd). ArrivedAs s nodes dials x (Some k)) (some_end f e is)
      (record { k = k; number_is = refl; least = d.0; most = d.1; member = o.0; arrived = o.1 })

  pub arrived_as : (e : StreamEnd) (h : Head) → Good h → h.far ≡ Some e → ArrivedAs s nodes dials e h.number
  arrived_as e h g is = arrived_parts e h.number h.far g.dialled g.opened is

  pub far_is_odd : (e : StreamEnd) (h : Head) → Good h → h.far ≡ Some e → e.number % 2 ≡ 1
  far_is_odd e h g is = let a = arrived_as e h g is in subst (λ n. n % 2 ≡ 1) (sym a.arrived) (good.arrivals_odd e.node a.k a.least)

  -- a stream whose dial isn't sent was opened nowhere
  none_opened : (number : Option ℕ) (far : Option StreamEnd) → HasGoodFar s nodes number far → number ≡ None → far ≡ None
  none_opened number None o is = refl
  none_opened None (Some f) o is = absurd o
  none_opened (Some k) (Some f) o is = absurd (cc)

  pub good_apart : (h : Head) → Good h → EndsApart h
  good_apart h g = record { even = g.even; odd = λ e is. far_is_odd e h g is; unopened = none_opened h.number h.far g.opened }

  -- ---- near ends

  same_near : (node number : ℕ) (h : Head) → h.near.node ≡ node → is_same_end (end_of node number) h.near ≡ (h.near.number == number)
  same_near node number h at = elim (cases_Bool (h.near.number == number)) [
    | inl is ↦
        subst (λ (x : StreamEnd). is_same_end x h.near ≡ (h.near.number == number)) (parts_are h.near node number at (eqb-true h.near.number number is)) (end_itself h.near ∙ sym is)
    | inr not ↦ other_numbers (end_of node number) h.near (λ same. eqb-false h.near.number number not (sym same)) ∙ sym not
  ]

  pub near_count : (node number : ℕ) → number % 2 ≡ 0 → (hs : List Head) → Every Good hs → count_by (has_head_end (end_of node number)) hs ≡ count_by (is_it number) (nears_at node hs)
  near_count node number even [] g = refl
  near_count node number even (h ∷ hs) g = by_node (h.near.node == node) refl (near_count node number even hs g.1) where
    by_node : (b : Bool) → (h.near.node == node) ≡ b → count_by (has_head_end (end_of node number)) hs ≡ count_by (is_it number) (nears_at node hs)
        → count_by (has_head_end (end_of node number)) (h ∷ hs) ≡ count_by (is_it number) (cond b (h.near.number ∷ nears_at node hs) (nears_at node hs))
    by_node true is rest =
        let here : has_head_end (end_of node number) h ≡ (h.near.number == number) =
        even_end (end_of node number) even h (good_apart h g.0) ∙ same_near node number h (eqb-true h.near.node node is) in
        count_first (has_head_end (end_of node number)) h hs
        ∙ (ap (λ b. cond b 1 0 + count_by (has_head_end (end_of node number)) hs) here
        ∙ (ap (λ n. cond (h.near.number == number) 1 0 + n) rest ∙ sym (count_first (is_it number) h.near.number (nears_at node hs))))
    by_node false is rest =
        count_no (has_head_end (end_of node number)) h hs
        (even_end (end_of node number) even h (good_apart h g.0) ∙ other_nodes (end_of node number) h.near (λ same. eqb-false h.near.node node is (sym same)))
        ∙ rest

  -- ---- far ends

  pub far_least : (e : StreamEnd) → (hs : List Head) → Every Good hs → HasFar e hs → 1 ≤ count_by (has_head_end e) hs
  far_least e [] g f = absurd f
  far_least e (h ∷ hs) g (inl is) =
      let all : count_by (has_head_end e) (h ∷ hs) ≡ 1 + count_by (has_head_end e) hs =
      count_yes (has_head_end e) h hs (odd_end e (far_is_odd e h g.0 is) h (good_apart h g.0) ∙ far_here e h.far is) in
      omega (arith, all)
  far_least e (h ∷ hs) g (inr f) =
      let rest : 1 ≤ count_by (has_head_end e) hs = far_least e hs g.1 f in
      let all : count_by (has_head_end e) (h ∷ hs) ≡ cond (has_head_end e h) 1 0 + count_by (has_head_end e) hs = count_first (has_head_end e) h hs in
      omega (arith, rest, all)

  pub far_odd : (e : StreamEnd) (hs : List Head) → Every Good hs → HasFar e hs → e.number % 2 ≡ 1
  far_odd e [] g f = absurd f
  far_odd e (h ∷ hs) g (inl is) = far_is_odd e h g.0 is
  far_odd e (h ∷ hs) g (inr f) = far_odd e hs g.1 f

  -- the numbers of the dials that were sent are each that of one stream
  abbrev Once : List Head → Type 0
  Once hs = (k : ℕ) → 1 ≤ k → k ≤ dials → count_by (has_number k) hs ≡ 1

  pub odd_most : (e : StreamEnd) → e.number % 2 ≡ 1 → (hs : List Head) → Every Good hs → Once hs → count_by (has_head_end e) hs ≤ 1
  odd_most e odd hs g once = by_found (none_or_one Good (has_head_end e) hs g) where
    of_one : (k : ℕ) → 1 ≤ k → e.number ≡ s.arrives_as e.node k → (h : Head) → Good h → has_head_end e h ≡ true → has_number k h ≡ true
    of_one k least is h g has =
        let a = arrived_as e h g (at_far e h.far (sym (odd_end e odd h (good_apart h g)) ∙ has)) in
        let same : a.k ≡ k = good.arrivals_apart e.node a.k k a.least least (sym a.arrived ∙ is) in
        number_passes k h.number (a.number_is ∙ ap (λ (x : ℕ). Some x) same)

    by_found : (count_by (has_head_end e) hs ≡ 0) ⊎ Found Good (has_head_end e) → count_by (has_head_end e) hs ≤ 1
    by_found (inl none) = omega (arith, none)
    by_found (inr f) =
        let a = arrived_as e f.it f.holds (at_far e f.it.far (sym (odd_end e odd f.it (good_apart f.it f.holds)) ∙ f.passes)) in
        let most : count_by (has_head_end e) hs ≤ count_by (has_number a.k) hs =
        count_at_most (has_head_end e) (has_number a.k) hs (every_weaker Good (λ h. has_head_end e h ≡ true → has_number a.k h ≡ true) (of_one a.k a.least a.arrived) hs g) in
        let one : count_by (has_number a.k) hs ≡ 1 = once a.k a.least a.most in
        omega (arith, most, one)

  -- ---- what a node knows

  pub known_once : (hs : List Head) → Every Good hs → Once hs → (node dialled number : ℕ) → nears_at node hs ≡ evens_from 0 dialled → IsKnown (λ n. IsArrived hs node n) dialled number
      → count_by (has_head_end (end_of node number)) hs ≡ 1
  known_once hs g once node dialled number nears (inl f) =
      let odd : number % 2 ≡ 1 = far_odd (end_of node number) hs g f in
      let least : 1 ≤ count_by (has_head_end (end_of node number)) hs = far_least (end_of node number) hs g f in
      let most : count_by (has_head_end (end_of node number)) hs ≤ 1 = odd_most (end_of node number) odd hs g once in
      omega (arith, least, most)
  known_once hs g once node dialled number nears (inr k) =
      near_count node number k.0 hs g ∙ (ap (count_by (is_it number)) nears ∙ evens_in dialled 0 number k.0 (omega arith) (omega (arith, k.1)))

  -- ---- no two streams have one end

  -- a node that isn't there dials nothing
  pub none_near : (node : ℕ) → (IsNode nodes node → ⊥) → (hs : List Head) → Every Good hs → nears_at node hs ≡ []
  none_near node absent [] g = refl
  none_near node absent (h ∷ hs) g =
      ap (λ b. cond b (h.near.number ∷ nears_at node hs) (nears_at node hs)) (not_equal h.near.node node (λ is. absent (subst (IsNode nodes) is g.0.member))) ∙ none_near node absent hs g.1

  evens_most : (number dialled : ℕ) → number % 2 ≡ 0 → count_by (is_it number) (evens_from 0 dialled) ≤ 1
  evens_most number dialled even = elim (cases_lt number (2 * dialled)) [
    | inl less ↦ let one = evens_in dialled 0 number even (omega arith) (omega (arith, less)) in omega (arith, one)
    | inr past ↦ let none = evens_past dialled 0 number (omega (arith, past)) in omega (arith, none)
  ]

  pub even_most : (node number : ℕ) → number % 2 ≡ 0 → (hs : List Head) → Every Good hs → (nears_at node hs ≡ []) ⊎ ((dialled : ℕ) × (nears_at node hs ≡ evens_from 0 dialled))
      → count_by (has_head_end (end_of node number)) hs ≤ 1
  even_most node number even hs g (inl none) =
      let e : count_by (has_head_end (end_of node number)) hs ≡ 0 = near_count node number even hs g ∙ ap (count_by (is_it number)) none in omega (arith, e)
  even_most node number even hs g (inr some) =
      let e : count_by (has_head_end (end_of node number)) hs ≡ count_by (is_it number) (evens_from 0 some.0) = near_count node number even hs g ∙ ap (count_by (is_it number)) some.1 in
      let m : count_by (is_it number) (evens_from 0 some.0) ≤ 1 = evens_most number some.0 even in
      omega (arith, e, m)
