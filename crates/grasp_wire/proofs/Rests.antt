-- A rest begins with no message.
use Rattle.std.proofs.Common.{◌≡◌, ℕ, ◌≤◌, List, length, take, drop, take-append-drop, sym, ◌∙◌, arith}
use Rattle.std.proofs.lemmas.List.{length-take-le}
use Rattle.grasp_cbor.specs.Bytes.{AllBytes}
use Rattle.grasp_cbor.specs.Ending.{whole, partial, too_long, faulty, IsWhole}
use Rattle.grasp_cbor.proofs.Cases.{one_ending}
use Rattle.grasp_cbor.proofs.Whole.{one_encodes}
use Rattle.grasp_types.specs.Message.{item_of}
use Rattle.grasp_types.specs.declared.message.Message.{Message}
use Rattle.grasp_wire.specs.Wire.{IsWireForm}
use Rattle.grasp_wire.specs.Stream.{BeginsNoMessage, RestKind, IsRest}
use Rattle.grasp_wire.specs.Stream as rest

-- a wire form at the front is a whole item
pub form_whole : (m : Message) (n : ℕ) (s : List ℕ) (limit : ℕ) → n ≤ length s → IsWireForm m (take n s) limit → IsWhole s limit (item_of m) n
form_whole m n s limit l form =
    let f = form.fits in
    record { encodes = form.encodes; inside = l; within = omega (arith, length-take-le n s l) }

pub no_message : (s : List ℕ) (limit : ℕ) (kind : RestKind) → AllBytes s → IsRest s limit kind → BeginsNoMessage s limit
no_message s limit rest.waiting bytes h m n l form = absurd (let e : partial ≡ whole (item_of m) n = one_ending s limit partial (whole (item_of m) n) bytes h (form_whole m n s limit l form) in cc)
no_message s limit rest.too_long bytes h m n l form = absurd (let e : too_long ≡ whole (item_of m) n = one_ending s limit too_long (whole (item_of m) n) bytes h (form_whole m n s limit l form) in cc)
no_message s limit (rest.faulty name at) bytes h m n l form = absurd (let e : faulty name at ≡ whole (item_of m) n = one_ending s limit (faulty name at) (whole (item_of m) n) bytes h (form_whole m n s limit l form) in cc)
no_message s limit rest.not_message bytes h m n l form =
    let same = one_encodes h.item (item_of m) (take h.used s) (take n s) (drop h.used s) (drop n s) h.whole.encodes form.encodes (take-append-drop h.used s ∙ sym (take-append-drop n s)) in
    h.no_message m form.is_message same.0
