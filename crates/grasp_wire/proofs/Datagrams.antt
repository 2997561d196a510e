-- Datagrams that are messages.
use Rattle.std.proofs.Common.{inl, inr, ℕ, List, [], Ok, Err, length, take, drop, take-append-drop, append-nil, refl, sym, ap, ◌∙◌, arith}
use Rattle.std.proofs.lemmas.List.{length-take-le}
use Rattle.grasp_cbor.specs.Bytes.{AllBytes}
use Rattle.grasp_types.specs.declared.message.Message.{Message}
use Rattle.grasp_wire.specs.declared.fault.CutFault.TheVariants.{OutOfMemory}
use Rattle.grasp_wire.specs.declared.fault.OneFault.TheVariants.{Cut, Truncated, Trailing}
use Rattle.grasp_wire.specs.Laws.{FormsAreDecoded}
use Rattle.grasp_wire.specs.One.{HasTrailing}
use Rattle.grasp_wire.specs.Stream.{RestKind, IsRest, waiting}
use Rattle.grasp_wire.specs.Wire.{IsWireForm}
use Rattle.grasp_wire.proofs.Dividing.{one_message}
use Rattle.grasp_wire.proofs.Joins.{one_form, begins}
use Rattle.grasp_wire.proofs.Rests.{no_message}

no_rest : (m : Message) (bytes : List ℕ) (limit : ℕ) (kind : RestKind) → AllBytes bytes → IsWireForm m bytes limit → IsRest bytes limit kind → ⊥
no_rest m bytes limit kind b form rest = begins m bytes [] bytes limit form (sym (append-nil bytes)) (no_message bytes limit kind b rest)

no_trailing : (m : Message) (bytes : List ℕ) (limit at : ℕ) → IsWireForm m bytes limit → HasTrailing bytes limit at → ⊥
no_trailing m bytes limit at form t =
    let more = t.more in
    let one = one_form t.message m (take at bytes) bytes (drop at bytes) [] limit t.form form (take-append-drop at bytes ∙ sym (append-nil bytes)) in
    omega (arith, more, ap length one.form, length-take-le at bytes (omega (arith, more)))

pub forms_are_decoded : FormsAreDecoded
forms_are_decoded m bytes limit (Ok n) b form a = inl (ap Ok (one_message n m bytes limit a form))
forms_are_decoded m bytes limit (Err (Cut OutOfMemory)) b form a = inr refl
forms_are_decoded m bytes limit (Err (Cut _)) b form a = absurd (no_rest m bytes limit a.kind b form a.kind_is)
forms_are_decoded m bytes limit (Err (Truncated at)) b form a = absurd (no_rest m bytes limit waiting b form a.waits)
forms_are_decoded m bytes limit (Err (Trailing at)) b form a = absurd (no_trailing m bytes limit at form a)
