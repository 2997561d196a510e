-- What a response tells is read from its items.
use Rattle.std.proofs.Common.{◌≡◌, ◌<◌, ◌+◌, ◌-◌, ◌==◌, ℕ, zero, suc, Option, Some, None, IfSome, option_map, List, [], ◌∷◌, ◌++◌, map, refl, sym, ap, subst, ◌∙◌, arith, cond, inl, inr, nat_lt, true, false, length, take, drop, slice_get, append-nil, length-append, length-drop, ltb-true}
use Rattle.std.proofs.Math.Seq.{take-length, take-append_seam}
use Rattle.std.proofs.lemmas.Bool.{ltb-false, eq-eqb, eqb-true}
use Rattle.std.proofs.lemmas.Option.{same_Some as some_same, none-some}
use Rattle.std.specs.List.{slice_range}
use Rattle.grasp_cbor.proofs.Facts.Bools.{chosen_yes, chosen_no}
use Rattle.grasp_cbor.proofs.Facts.Lists.{get_end}
use Rattle.grasp_cbor.proofs.Takes.{chosen}
use Rattle.grasp_cbor.specs.DataItem.{DataItem, unsigned, array_of, data_items}
use Rattle.grasp_cbor.specs.Encodable.{IsEncodable, AreEncodable}
use Rattle.grasp_types.specs.Address.{locator_item, IsLocator}
use Rattle.grasp_types.specs.Message.{answer_items, IsAnswer, AreLocators}
use Rattle.grasp_types.specs.Objective.{optional, objective_item}
use Rattle.grasp_types.specs.declared.address.Locator.{Locator}
use Rattle.grasp_types.specs.declared.address.Locator.TheVariants.{V6, V4, Fqdn, Uri}
use Rattle.grasp_types.specs.declared.message.Answer.{Answer}
use Rattle.grasp_types.specs.declared.message.Answer.TheVariants.{Locators, Divert}
use Rattle.grasp_types.specs.declared.objective.Objective.{Objective}
use Rattle.grasp_wire.specs.Reading.{◌>>=◌, at_place, test_at, passes, number_in, parts_in, kind_in, has_text_first, last_at, one_or_more}
use Rattle.grasp_wire.specs.ReadParts.{locator_in, divert_in, divert_answer, locators_answer, answer_between, answer_end}
use Rattle.grasp_wire.proofs.Runs.{turn, no_turn}
use Rattle.grasp_wire.proofs.Scalars.{Again, some_bind, not_test, array_found, array_again}
use Rattle.grasp_wire.proofs.Locators.{of_kind, locator_finds, locator_again}
use Rattle.grasp_wire.proofs.Steps.{encodable_at, encodable_range, first_is, and_then, some_found, some_again}

pub range_rest : (ts : List DataItem) (from : ℕ) → slice_range ts from (length ts) ≡ drop from ts
range_rest ts from = ap (λ n. take n (drop from ts)) (sym (length-drop from ts)) ∙ take-length (drop from ts)

range_of_one : (ts : List DataItem) (from : ℕ) (t : DataItem) → slice_get ts from ≡ Some t → slice_range ts from (from + 1) ≡ t ∷ []
range_of_one ts from t at = turn ts from (from + 1) t (omega arith) at ∙ ap (λ us. t ∷ us) (no_turn ts (from + 1) (from + 1) (omega arith))

some_range : {X : Type 0} (read : DataItem → Option X) (ts : List DataItem) (from to : ℕ) (xs : List X) → one_or_more read (slice_range ts from to) ≡ Some xs → from < to
some_range read ts from to xs h = elim (chosen (nat_lt from to) zero zero (cond (nat_lt from to) zero zero) refl) [
  | inl p ↦ ltb-true from to p.0
  | inr p ↦ absurd (none-some xs (sym (ap (one_or_more read) (no_turn ts from to (ltb-false from to p.0))) ∙ h))
]

-- diverts

divert_found : (t : DataItem) (ls : List Locator) (k : ℕ) → IsEncodable t → kind_in t ≡ Some k → (k == 100) ≡ true → divert_in t ≡ Some ls
    → (t ≡ array_of (unsigned 100 ∷ map locator_item ls)) × AreLocators ls
unfolding kind_in divert_in
divert_found t ls k enc kind is h =
    let us = array_found (λ parts. one_or_more locator_in (slice_range parts 1 (length parts))) t ls enc h in
    let number = sym (array_again (λ parts. at_place number_in parts 0) us.0) ∙ ap (λ u. parts_in u >>= λ parts. at_place number_in parts 0) (sym us.1) ∙ kind in
    let f = some_found locator_in locator_item IsLocator locator_finds (slice_range us.0 1 (length us.0)) ls (encodable_range us.0 1 (length us.0) us.2) us.3 in (
      us.1 ∙ ap array_of (and_then (unsigned 100) us.0 (drop 1 us.0) _ (of_kind us.0 k 100 (first_is us.0 k us.2 number) is) (sym (range_rest us.0 1) ∙ f.0)),
      record { some = f.1; each = f.2 },
    )

divert_again : (ls : List Locator) → AreLocators ls → divert_in (array_of (unsigned 100 ∷ map locator_item ls)) ≡ Some ls
unfolding divert_in
divert_again ls h =
    array_again (λ parts. one_or_more locator_in (slice_range parts 1 (length parts))) (unsigned 100 ∷ map locator_item ls)
    ∙ ap (one_or_more locator_in) (range_rest (unsigned 100 ∷ map locator_item ls) 1)
    ∙ some_again locator_in locator_item IsLocator locator_again ls h.some h.each

-- answers

abbrev IsAnswerAt : List DataItem → ℕ → ℕ → Answer → Type 0
IsAnswerAt ts from to a = (slice_range ts from to ≡ answer_items a) × IsAnswer a × (from < to)

divert_answer_found : (ts : List DataItem) (from to k : ℕ) (t : DataItem) (a : Answer) → AreEncodable (data_items ts) → slice_get ts from ≡ Some t → kind_in t ≡ Some k
    → (k == 100) ≡ true → to ≡ from + 1 → divert_answer ts from ≡ Some a → IsAnswerAt ts from to a
unfolding divert_answer
divert_answer_found ts from to k t a enc at kind is to_is h =
    let ls = some_bind (at_place divert_in ts from) (λ xs. Some (Divert xs)) a h in
    let d = divert_found t ls.0 k (encodable_at ts from t enc at) kind is (sym (ap (λ o. o >>= divert_in) at) ∙ ls.1) in
    subst (IsAnswerAt ts from to) (some_same (Divert ls.0) a ls.2)
    (ap (slice_range ts from) to_is ∙ range_of_one ts from t at ∙ ap (λ u. u ∷ []) d.0, d.1, omega (arith, to_is))

locators_answer_found : (ts : List DataItem) (from to : ℕ) (a : Answer) → AreEncodable (data_items ts) → locators_answer ts from to ≡ Some a → IsAnswerAt ts from to a
unfolding locators_answer
locators_answer_found ts from to a enc h =
    let ls = some_bind (one_or_more locator_in (slice_range ts from to)) (λ xs. Some (Locators xs)) a h in
    let f = some_found locator_in locator_item IsLocator locator_finds (slice_range ts from to) ls.0 (encodable_range ts from to enc) ls.1 in
    subst (IsAnswerAt ts from to) (some_same (Locators ls.0) a ls.2) (f.0, record { some = f.1; each = f.2 }, some_range locator_in ts from to ls.0 ls.1)

pub answer_found : (ts : List DataItem) (from to : ℕ) (a : Answer) → AreEncodable (data_items ts) → answer_between ts from to ≡ Some a → IsAnswerAt ts from to a
unfolding answer_between
answer_found ts from to a enc h =
    let k = some_bind (at_place kind_in ts from) _ a h in
    let t = some_bind (slice_get ts from) kind_in k.0 k.1 in
    elim (chosen (k.0 == 100) (cond (to == from + 1) (divert_answer ts from) None) (locators_answer ts from to) (Some a) k.2) [
      | inl p ↦ elim (chosen (to == from + 1) (divert_answer ts from) None (Some a) p.1) [
        | inl q ↦ divert_answer_found ts from to k.0 t.0 a enc t.1 t.2 p.0 (eqb-true to (from + 1) q.0) q.1
        | inr q ↦ absurd (none-some a q.1)
      ]
      | inr p ↦ locators_answer_found ts from to a enc p.1
    ]

-- where it ends

abbrev pub NoText : List DataItem → Type 0
NoText [] = Unit {0}
NoText (t ∷ ts) = (has_text_first t ≡ false) × NoText ts

locator_no_text : (l : Locator) → has_text_first (locator_item l) ≡ false
unfolding has_text_first
locator_no_text (V6 n proto port) = refl
locator_no_text _ = refl

locators_no_text : (ls : List Locator) → NoText (map locator_item ls)
locators_no_text [] = tt
locators_no_text (l ∷ ls) = (locator_no_text l, locators_no_text ls)

pub answer_no_text : (a : Answer) → NoText (answer_items a)
unfolding has_text_first
answer_no_text (Locators ls) = locators_no_text ls
answer_no_text (Divert ls) = (refl, tt)

objective_text : (o : Objective) → has_text_first (objective_item o) ≡ true
unfolding has_text_first
objective_text o = refl

no_text_at : (ts : List DataItem) → NoText ts → (k : ℕ) → test_at has_text_first ts k ≡ false
no_text_at [] h k = refl
no_text_at (t ∷ ts) h zero = h.0
no_text_at (t ∷ ts) h (suc k) = no_text_at ts h.1 k

end_none : (ts : List DataItem) → NoText ts → answer_end ts ≡ length ts
unfolding answer_end
end_none ts h = ap (λ b. cond b (length ts - 1) (length ts)) (no_text_at ts h (length ts - 1))

end_some : (xs : List DataItem) (y : DataItem) → has_text_first y ≡ true → answer_end (xs ++ y ∷ []) ≡ length xs
unfolding answer_end
end_some xs y is =
    let ts = xs ++ y ∷ [] in
    let e : length ts - 1 ≡ length xs = omega (arith, length-append xs (y ∷ [])) in
    ap (λ n. cond (test_at has_text_first ts n) n (length ts)) e
    ∙ ap (λ o. cond (passes has_text_first o) (length xs) (length ts)) (get_end xs y)
    ∙ ap (λ b. cond b (length xs) (length ts)) is

pub end_is : (xs : List DataItem) (o : Option Objective) → NoText xs → answer_end (xs ++ optional (option_map objective_item o)) ≡ length xs
end_is xs None h = ap answer_end (append-nil xs) ∙ end_none xs h
end_is xs (Some o) h = end_some xs (objective_item o) (objective_text o)

-- a last part is read again

pub last_again : {X : Type 0} (read : DataItem → Option X) (item : X → DataItem) (Is : X → Type 0) → Again read item Is → (xs : List DataItem) (o : Option X) → IfSome o Is
    → last_at read (xs ++ optional (option_map item o)) (length xs) ≡ Some o
last_again read item Is again xs None h = chosen_yes _ (Some None) _ (eq-eqb (length (xs ++ [])) (length xs) (ap length (append-nil xs)))
last_again read item Is again xs (Some x) h =
    let ts = xs ++ item x ∷ [] in
    let e = length-append xs (item x ∷ []) in
    chosen_no (length ts == length xs) (Some None) _ (not_test (length ts) (length xs) (omega (arith, e)))
    ∙ chosen_yes (length ts == length xs + 1) (at_place read ts (length xs) >>= λ y. Some (Some y)) None (eq-eqb (length ts) (length xs + 1) (omega (arith, e)))
    ∙ ap (λ o. o >>= read >>= λ y. Some (Some y)) (get_end xs (item x))
    ∙ ap (λ o. o >>= λ y. Some (Some y)) (again x h)

-- answers are read again

middle : (w x y z : DataItem) (us rest : List DataItem) → slice_range (w ∷ x ∷ y ∷ z ∷ (us ++ rest)) 4 (length (w ∷ x ∷ y ∷ z ∷ us)) ≡ us
middle w x y z us rest =
    let e : length (w ∷ x ∷ y ∷ z ∷ us) - 4 ≡ length us = omega arith in
    ap (λ n. take n (us ++ rest)) e ∙ take-append_seam us rest

kind_of_locator : (l : Locator) → (k : ℕ) × (kind_in (locator_item l) ≡ Some k) × ((k == 100) ≡ false)
unfolding kind_in
kind_of_locator (V6 n proto port) = (103, refl, refl)
kind_of_locator (V4 n proto port) = (104, refl, refl)
kind_of_locator (Fqdn name proto port) = (105, refl, refl)
kind_of_locator (Uri text proto port) = (106, refl, refl)

locators_answer_again : (w x y z : DataItem) (ls : List Locator) (rest : List DataItem) → AreLocators ls
    → locators_answer (w ∷ x ∷ y ∷ z ∷ (map locator_item ls ++ rest)) 4 (length (w ∷ x ∷ y ∷ z ∷ map locator_item ls)) ≡ Some (Locators ls)
unfolding locators_answer
locators_answer_again w x y z ls rest h =
    ap (λ us. one_or_more locator_in us >>= λ xs. Some (Locators xs)) (middle w x y z (map locator_item ls) rest)
    ∙ ap (λ o. o >>= λ xs. Some (Locators xs)) (some_again locator_in locator_item IsLocator locator_again ls h.some h.each)

divert_kind : (ls : List Locator) → kind_in (array_of (unsigned 100 ∷ map locator_item ls)) ≡ Some 100
unfolding kind_in
divert_kind ls = refl

divert_answer_again : (w x y z : DataItem) (ls : List Locator) (rest : List DataItem) → AreLocators ls
    → divert_answer (w ∷ x ∷ y ∷ z ∷ array_of (unsigned 100 ∷ map locator_item ls) ∷ rest) 4 ≡ Some (Divert ls)
unfolding divert_answer
divert_answer_again w x y z ls rest h = ap (λ o. o >>= λ xs. Some (Divert xs)) (divert_again ls h)

pub answer_again : (w x y z : DataItem) (a : Answer) (rest : List DataItem) → IsAnswer a
    → answer_between (w ∷ x ∷ y ∷ z ∷ (answer_items a ++ rest)) 4 (length (w ∷ x ∷ y ∷ z ∷ answer_items a)) ≡ Some a
unfolding answer_between
answer_again w x y z (Locators []) rest h = absurd (omega (arith, h.some))
answer_again w x y z (Locators (l ∷ ls)) rest h =
    let ts = w ∷ x ∷ y ∷ z ∷ (map locator_item (l ∷ ls) ++ rest) in
    let to = length (w ∷ x ∷ y ∷ z ∷ map locator_item (l ∷ ls)) in
    let k = kind_of_locator l in
    ap (λ o. o >>= λ kind. cond (kind == 100) (cond (to == 5) (divert_answer ts 4) None) (locators_answer ts 4 to)) k.1
    ∙ chosen_no (k.0 == 100) (cond (to == 5) (divert_answer ts 4) None) (locators_answer ts 4 to) k.2
    ∙ locators_answer_again w x y z (l ∷ ls) rest h
answer_again w x y z (Divert ls) rest h =
    let ts = w ∷ x ∷ y ∷ z ∷ array_of (unsigned 100 ∷ map locator_item ls) ∷ rest in
    ap (λ o. o >>= λ kind. cond (kind == 100) (divert_answer ts 4) (locators_answer ts 4 5)) (divert_kind ls)
    ∙ divert_answer_again w x y z ls rest h
