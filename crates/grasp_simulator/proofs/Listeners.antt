-- Who listens at a locator, in the code and in the network.
use Rattle.std.proofs.Common.{◌≡◌, ◌≤◌, ◌<◌, refl, sym, ap, ◌∙◌, arith, tests, ℕ, zero, suc, ◌+◌, ◌-◌, cond, Bool, true, false, not, List, ◌∷◌, length, map, nat_lt, Option, Some, None}
use Rattle.std.specs.List.{position, position_or_len}
use Rattle.grasp_types.specs.Same.{same_locator}
use Rattle.grasp_types.specs.declared.address.Locator.{Locator}
use Rattle.grasp_model_network.specs.Setting.{Member, numbers_from, is_at, counted_from_1, member_at, script_locator, script_member, script_setting}
use Rattle.grasp_model_network.specs.declared.plan.WorldPlan.{WorldPlan}
use Rattle.grasp_simulator.specs.Listening.{listener_from}

-- ---- the node that listens

-- the number of a place, where the first is that of this number
abbrev counted_from : ℕ → Option ℕ → Option ℕ
counted_from a None = None
counted_from a (Some i) = Some (i + a)

abbrev placed : ℕ → ℕ → ℕ → Option ℕ
placed a n count = counted_from a (cond (nat_lt n count) (Some n) None)

less_same : (n count : ℕ) → nat_lt (1 + n) (suc count) ≡ nat_lt n count
less_same n count = grind (arith, tests)

less_first : (count : ℕ) → nat_lt 0 (suc count) ≡ true
less_first count = grind (arith, tests)

placed_later : (a n count : ℕ) → placed (a + 1) n count ≡ placed a (1 + n) (suc count)
placed_later a n count = by_less (nat_lt n count) ∙ ap (λ (b : Bool). counted_from a (cond b (Some (1 + n)) None)) (sym (less_same n count)) where
  by_less : (b : Bool) → counted_from (a + 1) (cond b (Some n) None) ≡ counted_from a (cond b (Some (1 + n)) None)
  by_less true = ap Some (omega arith)
  by_less false = refl

first_passes : (q : Member → Bool) (m : Member) (ms : List Member) (a : ℕ) → q m ≡ true → counted_from a (position q (m ∷ ms)) ≡ Some a
first_passes q m ms a is =
    ap (λ (b : Bool). placed a (cond (not b) (1 + position_or_len q ms) 0) (suc (length ms))) is ∙ ap (λ (b : Bool). counted_from a (cond b (Some 0) None)) (less_first (length ms)) ∙ (let e : 0 + a ≡ a = omega arith in ap Some e)

first_fails : (q : Member → Bool) (m : Member) (ms : List Member) (a : ℕ) → q m ≡ false → counted_from a (position q (m ∷ ms)) ≡ counted_from (a + 1) (position q ms)
first_fails q m ms a is = ap (λ (b : Bool). placed a (cond (not b) (1 + position_or_len q ms) 0) (suc (length ms))) is ∙ sym (placed_later a (position_or_len q ms) (length ms))

listener_at : (p : WorldPlan) (to : Locator) (a n : ℕ) → listener_from a n to ≡ counted_from a (position (is_at to) (map (script_member p) (numbers_from a n)))
unfolding listener_from numbers_from
listener_at p to a zero = refl
listener_at p to a (suc n) = by_test (same_locator to (script_locator a)) refl (listener_at p to (a + 1) n) where
  by_test : (b : Bool) → same_locator to (script_locator a) ≡ b → listener_from (a + 1) n to ≡ counted_from (a + 1) (position (is_at to) (map (script_member p) (numbers_from (a + 1) n)))
      → cond b (Some a) (listener_from (a + 1) n to) ≡ counted_from a (position (is_at to) (script_member p a ∷ map (script_member p) (numbers_from (a + 1) n)))
  by_test true is below = sym (first_passes (is_at to) (script_member p a) (map (script_member p) (numbers_from (a + 1) n)) a is)
  by_test false is below = below ∙ sym (first_fails (is_at to) (script_member p a) (map (script_member p) (numbers_from (a + 1) n)) a is)

from_1 : (o : Option ℕ) → counted_from 1 o ≡ counted_from_1 o
from_1 None = refl
from_1 (Some i) = refl

-- the first node of a script that listens at the locator is the member at the locator
pub listener_is : (p : WorldPlan) (to : Locator) → listener_from 1 p.nodes to ≡ member_at (script_setting p) to
unfolding script_setting
listener_is p to = listener_at p to 1 p.nodes ∙ from_1 (position (is_at to) (map (script_member p) (numbers_from 1 p.nodes)))

-- ---- how the code looks for it

listener_passed : (node count : ℕ) (to : Locator) → 1 ≤ count → same_locator to (script_locator node) ≡ false → listener_from node count to ≡ listener_from (node + 1) (count - 1) to
unfolding listener_from
listener_passed node zero to some other = absurd (omega (arith, some))
listener_passed node (suc count) to some other = let e : count ≡ suc count - 1 = omega arith in rw other (ap (λ (n : ℕ). listener_from (node + 1) n to) e)

listener_here : (node count : ℕ) (to : Locator) → 1 ≤ count → same_locator to (script_locator node) ≡ true → listener_from node count to ≡ Some node
unfolding listener_from
listener_here node zero to some is = absurd (omega (arith, some))
listener_here node (suc count) to some is = rw is refl

no_listener : (node count : ℕ) (to : Locator) → count ≡ 0 → listener_from node count to ≡ None
unfolding listener_from
no_listener node zero to none = refl
no_listener node (suc count) to none = absurd (omega (arith, none))

-- where a node doesn't listen at the locator, the listener is looked for among the nodes behind it
pub looked_on : (nodes before : ℕ) (to : Locator) → before < nodes → same_locator to (script_locator (before + 1)) ≡ false → listener_from (before + 1) (nodes - before) to ≡ listener_from ((before + 1) + 1) (nodes - (before + 1)) to
looked_on nodes before to within other =
    listener_passed (before + 1) (nodes - before) to (omega (arith, within)) other ∙ ap (λ (count : ℕ). listener_from ((before + 1) + 1) count to) (omega arith)

pub looked_here : (nodes before : ℕ) (to : Locator) → before < nodes → same_locator to (script_locator (before + 1)) ≡ true → listener_from (before + 1) (nodes - before) to ≡ Some (before + 1)
looked_here nodes before to within is = listener_here (before + 1) (nodes - before) to (omega (arith, within)) is

pub looked_all : (nodes before : ℕ) (to : Locator) → nodes ≤ before → listener_from (before + 1) (nodes - before) to ≡ None
looked_all nodes before to past = no_listener (before + 1) (nodes - before) to (omega (arith, past))
