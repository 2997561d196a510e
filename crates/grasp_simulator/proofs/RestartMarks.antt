-- What the marks of a restart say.
use Rattle.std.proofs.Common.{◌≡◌, ◌<◌, refl, sym, ap, ◌∙◌, subst, arith, tests, ℕ, zero, suc, ◌/◌, ◌==◌, ◌&&◌, ◌||◌, Bool, true, false, List, [], ◌∷◌, ◌++◌, Some, slice_get, nat_lt}
use Rattle.std.specs.List.{AllZip, list_any}
use Rattle.std.proofs.lemmas.Bool.{and_from, eq-eqb, or_left, or_right}
use Rattle.std.proofs.lemmas.Option.{none-some, same_Some}
use Rattle.grasp_core.specs.Stands.{NodeStands}
use Rattle.grasp_model_network.specs.Streams.{StreamEnd, is_number}
use Rattle.grasp_model_node.specs.Node.{NodeState}
use Rattle.grasp_types.specs.declared.address.Locator.{Locator}
use Rattle.grasp_simulator.specs.Listening.{listener_from}
use Rattle.grasp_simulator.specs.Marking.{matches, is_marked}
use Rattle.grasp_simulator.specs.Restarts.{IsMarkOf}
use Rattle.grasp_simulator.specs.declared.marks.Mark.{Mark}
use Rattle.grasp_simulator.specs.declared.seat.Seat.{Seat as SeatCode}

-- the mark of a code's node that says so
pub record MarkFound (node : ℕ) (codes : List SeatCode) (p : Mark → Bool) : Type 0 where
  pub place : ℕ
  pub code : SeatCode
  pub got : slice_get codes place ≡ Some code
  pub mark : Mark
  pub is : IsMarkOf node code mark
  pub says : p mark ≡ true

pub mark_found : (node : ℕ) (codes : List SeatCode) (added : List Mark) (p : Mark → Bool) → AllZip (IsMarkOf node) codes added → list_any p added ≡ true → MarkFound node codes p
mark_found node [] [] p all is = absurd (cc)
mark_found node [] (m ∷ ms) p all is = absurd all
mark_found node (code ∷ codes) [] p all is = absurd all
mark_found node (code ∷ codes) (m ∷ ms) p all is = by_first (p m) refl is (mark_found node codes ms p all.1) where
  by_first : (b : Bool) → p m ≡ b → (b || list_any p ms) ≡ true → (list_any p ms ≡ true → MarkFound node codes p) → MarkFound node (code ∷ codes) p
  by_first true e f rest = record { place = 0; code = code; got = refl; mark = m; is = all.0; says = e }
  by_first false e f rest = let found : MarkFound node codes p = rest f in record { place = suc found.place; code = found.code; got = found.got; mark = found.mark; is = found.is; says = found.says }

pub mark_says : (node : ℕ) (codes : List SeatCode) (added : List Mark) (p : Mark → Bool) (i : ℕ) (code : SeatCode) → AllZip (IsMarkOf node) codes added → slice_get codes i ≡ Some code
    → ((m : Mark) → IsMarkOf node code m → p m ≡ true) → list_any p added ≡ true
mark_says node [] added p i code all got says = absurd (none-some code got)
mark_says node (c ∷ cs) [] p i code all got says = absurd all
mark_says node (c ∷ cs) (m ∷ ms) p zero code all got says = or_left (p m) (list_any p ms) (says m (subst (λ (x : SeatCode). IsMarkOf node x m) (same_Some c code got) all.0))
mark_says node (c ∷ cs) (m ∷ ms) p (suc i) code all got says = or_right (p m) (list_any p ms) (mark_says node cs ms p i code all.1 got says)

pub no_mark : (node : ℕ) (codes : List SeatCode) (added : List Mark) (p : Mark → Bool) → AllZip (IsMarkOf node) codes added → ((code : SeatCode) (m : Mark) → IsMarkOf node code m → p m ≡ false) → list_any p added ≡ false
no_mark node [] [] p all none = refl
no_mark node [] (m ∷ ms) p all none = absurd all
no_mark node (code ∷ codes) [] p all none = absurd all
no_mark node (code ∷ codes) (m ∷ ms) p all none = ap (λ b. b || list_any p ms) (none code m all.0) ∙ no_mark node codes ms p all.1 none

below_true : (a b : ℕ) → a < b → nat_lt a b ≡ true
below_true a b h = grind (arith, tests)

pub true_below : (a b : ℕ) → nat_lt a b ≡ true → a < b
true_below a b h = grind (arith, tests)

-- the marks that a restart adds speak of a stream of this life exactly where it goes to the node
pub added_marked : (node nodes : ℕ) (codes : List SeatCode) (added : List Mark) (e : StreamEnd) (to : Locator) (i : ℕ) (code : SeatCode) (n : NodeState) → AllZip (IsMarkOf node) codes added → slice_get codes i ≡ Some code
    → code.life ≡ e.node → NodeStands code.core n → e.number / 2 < n.streams.dialled → is_marked added nodes e to ≡ is_number node (listener_from 1 nodes to)
added_marked node nodes codes added e to i code n all got life stands below = by_goal (is_number node (listener_from 1 nodes to)) refl where
  by_goal : (b : Bool) → is_number node (listener_from 1 nodes to) ≡ b → is_marked added nodes e to ≡ is_number node (listener_from 1 nodes to)
  by_goal true goes =
      mark_says node codes added (matches e nodes to) i code all got
      (λ m h.
      let here : (m.life == e.node) ≡ true = eq-eqb m.life e.node (h.life ∙ life) in
      let less : nat_lt (e.number / 2) m.dialled ≡ true = ap (λ (k : ℕ). nat_lt (e.number / 2) k) (h.dialled n stands) ∙ below_true (e.number / 2) n.streams.dialled below in
      let there : is_number m.node (listener_from 1 nodes to) ≡ true = ap (λ (k : ℕ). is_number k (listener_from 1 nodes to)) h.node_is ∙ goes in
      and_from (m.life == e.node) (nat_lt (e.number / 2) m.dialled && is_number m.node (listener_from 1 nodes to)) here
      (and_from (nat_lt (e.number / 2) m.dialled) (is_number m.node (listener_from 1 nodes to)) less there))
      ∙ sym goes
  by_goal false goes =
      no_mark node codes added (matches e nodes to) all
      (λ c m h.
      let there : is_number m.node (listener_from 1 nodes to) ≡ false = ap (λ (k : ℕ). is_number k (listener_from 1 nodes to)) h.node_is ∙ goes in
      ap (λ b. m.life == e.node && (nat_lt (e.number / 2) m.dialled && b)) there ∙ never (m.life == e.node) (nat_lt (e.number / 2) m.dialled))
      ∙ sym goes where
        never : (a b : Bool) → (a && (b && false)) ≡ false
        never true true = refl
        never true false = refl
        never false b = refl

pub zip_push : {A B : Type 0} (R : A → B → Type 0) (xs : List A) (ys : List B) (x : A) (y : B) → AllZip R xs ys → R x y → AllZip R (xs ++ x ∷ []) (ys ++ y ∷ [])
zip_push R [] [] x y all one = (one, tt)
zip_push R [] (b ∷ ys) x y all one = absurd all
zip_push R (a ∷ xs) [] x y all one = absurd all
zip_push R (a ∷ xs) (b ∷ ys) x y all one = (all.0, zip_push R xs ys x y all.1 one)
