-- A datagram has one answer.
use Rattle.std.proofs.Common.{◌≡◌, ◌≢◌, ℕ, ◌+◌, ◌<◌, ◌≤◌, ◌^◌, ◌⊎◌, inl, inr, List, length, take, drop, take-append-drop, Some, Result, Ok, Err, refl, sym, ap, subst, ◌∙◌, arith}
use Rattle.std.proofs.lemmas.Bool.{cases_lt}
use Rattle.std.proofs.lemmas.List.{length-take-le, take_all}
use Rattle.grasp_cbor.specs.Bytes.{AllBytes}
use Rattle.grasp_cbor.specs.DataItem.{DataItem}
use Rattle.grasp_cbor.specs.Encodes.{Encodes}
use Rattle.grasp_cbor.specs.Ending.{Ending, whole, partial, too_long, faulty, IsWhole, IsEnding}
use Rattle.grasp_cbor.specs.declared.walker.FaultName.{FaultName}
use Rattle.grasp_cbor.specs.declared.walker.FaultName.TheVariants as name
use Rattle.grasp_cbor.proofs.Cases.{some_ending}
use Rattle.grasp_types.specs.declared.message.Message.{Message}
use Rattle.grasp_wire.specs.declared.fault.CutFault.{CutFault}
use Rattle.grasp_wire.specs.declared.fault.CutFault.TheVariants.{Malformed, NotText, TooDeep, TooLong, NotMessage, OutOfMemory}
use Rattle.grasp_wire.specs.declared.fault.OneFault.{OneFault}
use Rattle.grasp_wire.specs.declared.fault.OneFault.TheVariants.{Cut, Truncated, Trailing}
use Rattle.grasp_wire.specs.Laws.{SomeAnswer, OneAnswer}
use Rattle.grasp_wire.specs.One.{AnswersOne}
use Rattle.grasp_wire.specs.Reads.{fault_of}
use Rattle.grasp_wire.specs.Stream.{RestKind, IsRest, IsNoMessage, waiting}
use Rattle.grasp_wire.specs.Stream as rest
use Rattle.grasp_wire.specs.Wire.{IsWireForm}
use Rattle.grasp_wire.proofs.Dividing.{one_kind}
use Rattle.grasp_wire.proofs.Joins.{one_form}
use Rattle.grasp_wire.proofs.Rests.{no_message}
use Rattle.grasp_wire.proofs.SomeDivision.{IsItemOf, decided, whole_encodable}

-- what a rest of this kind is answered by
abbrev OfKind : List ℕ → RestKind → Result Message OneFault → Type 0
OfKind bytes kind a = ((kind ≡ waiting) × (a ≡ Err (Truncated (length bytes)))) ⊎ ((fault : CutFault) × (fault_of 0 kind ≡ Some fault) × (a ≡ Err (Cut fault)))

record OfRest (bytes : List ℕ) (limit : ℕ) (a : Result Message OneFault) : Type 0 where
  kind : RestKind
  kind_is : IsRest bytes limit kind
  answer : OfKind bytes kind a

record OfForm (bytes : List ℕ) (limit : ℕ) (a : Result Message OneFault) : Type 0 where
  message : Message
  at : ℕ
  inside : at ≤ length bytes
  form : IsWireForm message (take at bytes) limit
  answer : ((at ≡ length bytes) × (a ≡ Ok message)) ⊎ ((at < length bytes) × (a ≡ Err (Trailing at)))

-- what begins a datagram decides its answer
abbrev Meant : List ℕ → ℕ → Result Message OneFault → Type 0
Meant bytes limit a = (a ≡ Err (Cut OutOfMemory)) ⊎ (OfRest bytes limit a ⊎ OfForm bytes limit a)

of_fault : (bytes : List ℕ) (limit : ℕ) (fault : CutFault) (kind : RestKind) → IsRest bytes limit kind → fault_of 0 kind ≡ Some fault → Meant bytes limit (Err (Cut fault))
of_fault bytes limit fault kind h e = inr (inl (record { kind = kind; kind_is = h; answer = inr (fault, e, refl) }))

meant : (bytes : List ℕ) (limit : ℕ) (a : Result Message OneFault) → AnswersOne bytes limit a → Meant bytes limit a
meant bytes limit (Ok m) h = inr (inr (record { message = m; at = length bytes; inside = omega arith; form = subst (λ x. IsWireForm m x limit) (sym (take_all (length bytes) bytes (omega arith))) h; answer = inl (refl, refl) }))
meant bytes limit (Err (Cut OutOfMemory)) h = inl refl
meant bytes limit (Err (Cut (Malformed at))) h = of_fault bytes limit (Malformed at) h.kind h.kind_is h.fault_is
meant bytes limit (Err (Cut (NotText at))) h = of_fault bytes limit (NotText at) h.kind h.kind_is h.fault_is
meant bytes limit (Err (Cut (TooDeep at))) h = of_fault bytes limit (TooDeep at) h.kind h.kind_is h.fault_is
meant bytes limit (Err (Cut (TooLong at))) h = of_fault bytes limit (TooLong at) h.kind h.kind_is h.fault_is
meant bytes limit (Err (Cut (NotMessage at))) h = of_fault bytes limit (NotMessage at) h.kind h.kind_is h.fault_is
meant bytes limit (Err (Truncated at)) h = inr (inl (record { kind = waiting; kind_is = h.waits; answer = inl (refl, ap (λ n. Err (Truncated n)) h.at_is) }))
meant bytes limit (Err (Trailing at)) h =
    let more = h.more in
    inr (inr (record { message = h.message; at = at; inside = omega arith; form = h.form; answer = inr (more, refl) }))

same_kinds : (bytes : List ℕ) (k : RestKind) (a b : Result Message OneFault) → OfKind bytes k a → OfKind bytes k b → a ≡ b
same_kinds bytes k a b (inl x) (inl y) = x.1 ∙ sym y.1
same_kinds bytes k a b (inl x) (inr y) = absurd (let e = sym (ap (fault_of 0) x.0) ∙ y.1 in cc)
same_kinds bytes k a b (inr x) (inl y) = absurd (let e = sym (ap (fault_of 0) y.0) ∙ x.1 in cc)
same_kinds bytes k a b (inr x) (inr y) = let e : Some x.0 ≡ Some y.0 = sym x.1 ∙ y.1 in let f : x.0 ≡ y.0 = cc in x.2 ∙ ap (λ z. Err (Cut z)) f ∙ sym y.2

same_rests : (bytes : List ℕ) (limit : ℕ) (a b : Result Message OneFault) → AllBytes bytes → OfRest bytes limit a → OfRest bytes limit b → a ≡ b
same_rests bytes limit a b all x y = same_kinds bytes y.kind a b (subst (λ k. OfKind bytes k a) (one_kind bytes limit x.kind y.kind all x.kind_is y.kind_is) x.answer) y.answer

rest_or_form : (bytes : List ℕ) (limit : ℕ) (a b : Result Message OneFault) → AllBytes bytes → OfRest bytes limit a → OfForm bytes limit b → ⊥
rest_or_form bytes limit a b all x y = no_message bytes limit x.kind all x.kind_is y.message y.at y.inside y.form

same_forms : (bytes : List ℕ) (limit : ℕ) (a b : Result Message OneFault) → OfForm bytes limit a → OfForm bytes limit b → a ≡ b
same_forms bytes limit a b x y =
    let one = one_form x.message y.message (take x.at bytes) (take y.at bytes) (drop x.at bytes) (drop y.at bytes) limit x.form y.form (take-append-drop x.at bytes ∙ sym (take-append-drop y.at bytes)) in
    let at : x.at ≡ y.at = let i = x.inside in let j = y.inside in omega (arith, ap length one.form, length-take-le x.at bytes i, length-take-le y.at bytes j) in
    by_ends x.answer y.answer at one.message where
      by_ends : ((x.at ≡ length bytes) × (a ≡ Ok x.message)) ⊎ ((x.at < length bytes) × (a ≡ Err (Trailing x.at)))
          → ((y.at ≡ length bytes) × (b ≡ Ok y.message)) ⊎ ((y.at < length bytes) × (b ≡ Err (Trailing y.at))) → x.at ≡ y.at → x.message ≡ y.message → a ≡ b
      by_ends (inl p) (inl q) at m = p.1 ∙ ap Ok m ∙ sym q.1
      by_ends (inl p) (inr q) at m = absurd (omega (arith, p.0, q.0))
      by_ends (inr p) (inl q) at m = absurd (omega (arith, p.0, q.0))
      by_ends (inr p) (inr q) at m = p.1 ∙ ap (λ n. Err (Trailing n)) at ∙ sym q.1

by_meaning : (bytes : List ℕ) (limit : ℕ) (a b : Result Message OneFault) → AllBytes bytes → Meant bytes limit a → Meant bytes limit b → (a ≡ b) ⊎ ((a ≡ Err (Cut OutOfMemory)) ⊎ (b ≡ Err (Cut OutOfMemory)))
by_meaning bytes limit a b all (inl e) k = inr (inl e)
by_meaning bytes limit a b all (inr h) (inl e) = inr (inr e)
by_meaning bytes limit a b all (inr (inl x)) (inr (inl y)) = inl (same_rests bytes limit a b all x y)
by_meaning bytes limit a b all (inr (inl x)) (inr (inr y)) = absurd (rest_or_form bytes limit a b all x y)
by_meaning bytes limit a b all (inr (inr x)) (inr (inl y)) = absurd (rest_or_form bytes limit b a all y x)
by_meaning bytes limit a b all (inr (inr x)) (inr (inr y)) = inl (same_forms bytes limit a b x y)

pub one_answer : OneAnswer
one_answer bytes limit a b all h k = by_meaning bytes limit a b all (meant bytes limit a h) (meant bytes limit b k)

-- ---- some answer

abbrev HasAnswer : List ℕ → ℕ → Type 0
HasAnswer bytes limit = (answer : Result Message OneFault) × AnswersOne bytes limit answer × (answer ≢ Err (Cut OutOfMemory))

named_answer : (bytes : List ℕ) (limit : ℕ) (n : FaultName) (at : ℕ) → IsRest bytes limit (rest.faulty n at) → HasAnswer bytes limit
named_answer bytes limit name.Malformed at h = (Err (Cut (Malformed (0 + at))), record { kind = rest.faulty name.Malformed at; kind_is = h; fault_is = refl }, λ e. cc)
named_answer bytes limit name.NotText at h = (Err (Cut (NotText (0 + at))), record { kind = rest.faulty name.NotText at; kind_is = h; fault_is = refl }, λ e. cc)
named_answer bytes limit name.TooDeep at h = (Err (Cut (TooDeep (0 + at))), record { kind = rest.faulty name.TooDeep at; kind_is = h; fault_is = refl }, λ e. cc)

item_answer : (bytes : List ℕ) (limit : ℕ) (item : DataItem) (used : ℕ) → IsWhole bytes limit item used → IsItemOf item ⊎ IsNoMessage item → HasAnswer bytes limit
item_answer bytes limit item used w (inr none) =
    (Err (Cut (NotMessage 0)), record { kind = rest.not_message; kind_is = record { item = item; used = used; whole = w; no_message = none }; fault_is = refl }, λ e. cc)
item_answer bytes limit item used w (inl is) =
    let inside = w.inside in
    let within = w.within in
    let form : IsWireForm is.message (take used bytes) limit = record { is_message = is.is_message; encodes = subst (λ t. Encodes t (take used bytes)) is.item_is w.encodes; fits = omega (arith, length-take-le used bytes inside) } in
    elim (cases_lt used (length bytes)) [
      | inl lt ↦ (Err (Trailing used), record { message = is.message; form = form; more = lt }, λ e. cc)
      | inr ge ↦ (Ok is.message, subst (λ x. IsWireForm is.message x limit) (take_all used bytes ge) form, λ e. cc)
    ]

ending_answer : (bytes : List ℕ) (limit : ℕ) (e : Ending) → limit < 2 ^ 64 → AllBytes bytes → IsEnding bytes limit e → HasAnswer bytes limit
ending_answer bytes limit partial few all h = (Err (Truncated (length bytes)), record { waits = h; at_is = refl }, λ e. cc)
ending_answer bytes limit too_long few all h = (Err (Cut (TooLong 0)), record { kind = rest.too_long; kind_is = h; fault_is = refl }, λ e. cc)
ending_answer bytes limit (faulty n at) few all h = named_answer bytes limit n at h
ending_answer bytes limit (whole item used) few all h = item_answer bytes limit item used h (decided item (whole_encodable bytes limit item used few all h))

pub some_answer : SomeAnswer
some_answer bytes limit few all = let e = some_ending bytes limit all in ending_answer bytes limit e.0 few all e.1
