-- Every stream of bytes divides.
use Rattle.std.proofs.Common.{◌≡◌, ℕ, zero, suc, ◌<◌, ◌^◌, ◌⊎◌, inl, inr, List, [], ◌∷◌, length, take, drop, Option, Some, None, take-append-drop, refl, ap, subst, arith}
use Rattle.std.proofs.lemmas.List.{length-take-le, length-drop}
use Rattle.grasp_cbor.specs.Bytes.{AllBytes}
use Rattle.grasp_cbor.specs.DataItem.{DataItem}
use Rattle.grasp_cbor.specs.Encodable.{IsEncodable}
use Rattle.grasp_cbor.specs.Encodes.{Encodes}
use Rattle.grasp_cbor.specs.Ending.{Ending, whole, partial, too_long, faulty, IsWhole, IsEnding}
use Rattle.grasp_cbor.proofs.Cases.{some_ending}
use Rattle.grasp_cbor.proofs.Encoded.{encoded}
use Rattle.grasp_cbor.proofs.HeadBytes.{AllBytes-drop, AllBytes-take}
use Rattle.grasp_types.specs.Message.{item_of, IsMessage}
use Rattle.grasp_types.specs.declared.message.Message.{Message}
use Rattle.grasp_wire.specs.Wire.{IsWireForm}
use Rattle.grasp_wire.specs.Stream.{Divides, RestKind, IsRest, IsNoMessage}
use Rattle.grasp_wire.specs.Stream as rest
use Rattle.grasp_wire.proofs.Joins.{no_bytes, divides_more, divides_alone}
use Rattle.grasp_wire.proofs.Messages.{message_finds}
use Rattle.grasp_wire.proofs.MessagesAgain.{message_again}
use Rattle.grasp_wire.specs.ReadMessages.{message_in}

-- the item is that of a message, or of none
pub record IsItemOf (item : DataItem) : Type 0 where
  pub message : Message
  pub is_message : IsMessage message
  pub item_is : item ≡ item_of message

by_reading : (item : DataItem) (found : Option Message) → message_in item ≡ found → IsEncodable item → IsItemOf item ⊎ IsNoMessage item
by_reading item (Some m) read encodable =
    let finds = message_finds item m encodable read in
    inl (record { message = m; is_message = finds.1; item_is = finds.0 })
by_reading item None read encodable = inr (λ m h is. let again = message_again m h in let same = ap message_in is in absurd (cc (again, same, read)))

pub decided : (item : DataItem) → IsEncodable item → IsItemOf item ⊎ IsNoMessage item
decided item encodable = by_reading item (message_in item) refl encodable

-- an item within the limit can be encoded
pub whole_encodable : (s : List ℕ) (limit : ℕ) (item : DataItem) (used : ℕ) → limit < 2 ^ 64 → AllBytes s → IsWhole s limit item used → IsEncodable item
whole_encodable s limit item used few bytes w =
    let inside = w.inside in
    let within = w.within in
    encoded item (take used s) (AllBytes-take used s bytes) (omega (arith, few, length-take-le used s inside)) w.encodes

abbrev HasDivision : List ℕ → ℕ → Type 0
HasDivision stream limit = (messages : List Message) × (rest : List ℕ) × (kind : RestKind) × Divides stream limit messages rest kind

alone : (s : List ℕ) (limit : ℕ) (kind : RestKind) → AllBytes s → IsRest s limit kind → HasDivision s limit
alone s limit kind bytes h = ([], s, kind, divides_alone limit s kind bytes h)

-- after its first item
after_item : (s : List ℕ) (limit : ℕ) (item : DataItem) (used : ℕ) → AllBytes s → IsWhole s limit item used → IsItemOf item ⊎ IsNoMessage item
    → (AllBytes (drop used s) → length (drop used s) < length s → HasDivision (drop used s) limit) → HasDivision s limit
after_item s limit item used bytes w (inr none) next = alone s limit rest.not_message bytes (record { item = item; used = used; whole = w; no_message = none })
after_item s limit item used bytes w (inl is) next =
    let inside = w.inside in
    let within = w.within in
    let form : IsWireForm is.message (take used s) limit = record { is_message = is.is_message; encodes = subst (λ t. Encodes t (take used s)) is.item_is w.encodes; fits = omega (arith, length-take-le used s inside) } in
    let some : 0 < length (take used s) = no_bytes item (take used s) w.encodes in
    let d = next (AllBytes-drop used s bytes) (omega (arith, length-drop used s, length-take-le used s inside)) in
    (is.message ∷ d.0, d.1, d.2, subst (λ x. Divides x limit (is.message ∷ d.0) d.1 d.2) (take-append-drop used s) (divides_more limit is.message (take used s) (drop used s) d.0 d.1 d.2 form d.3))

by_ending : (fuel : ℕ) (s : List ℕ) (limit : ℕ) (e : Ending) → limit < 2 ^ 64 → AllBytes s → length s < fuel → IsEnding s limit e → HasDivision s limit
by_ending fuel s limit partial few bytes l h = alone s limit rest.waiting bytes h
by_ending fuel s limit too_long few bytes l h = alone s limit rest.too_long bytes h
by_ending fuel s limit (faulty name at) few bytes l h = alone s limit (rest.faulty name at) bytes h
by_ending zero s limit (whole item used) few bytes l h = absurd (omega arith)
by_ending (suc fuel) s limit (whole item used) few bytes l h =
    after_item s limit item used bytes h (decided item (whole_encodable s limit item used few bytes h))
    (λ b k. let e = some_ending (drop used s) limit b in by_ending fuel (drop used s) limit e.0 few b (omega arith) e.1)

pub some_division : (stream : List ℕ) (limit : ℕ) → limit < 2 ^ 64 → AllBytes stream → HasDivision stream limit
some_division stream limit few bytes =
    let e = some_ending stream limit bytes in
    by_ending (suc (length stream)) stream limit e.0 few bytes (omega arith) e.1
