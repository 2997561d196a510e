-- Which types of this crate may cross threads, for the crates above.
use denote.RattleType.{RattleType}
use denote.Hole.{as_row}
use denote.Hole.Fix.{holes}
use denote.Hole.FixSend.{Sends, fix_send}
use denote.Param.Send.{IsSend, sendable}
use denote.Param.SendFields.{variants_send, declared_send, as_row_send}
use denote.Struct.Field.{u64-field, row_field}
use denote.Struct.Tuple.{Tuple, tuple_type}
use mathlib.Core.List.{[], ◌∷◌}
use Rattle.std.proofs.Crossing.{crosses, Vec-send, Box-send}
use Rattle.std.specs.contracts.vec.Vec as Vec
use Rattle.std.specs.contracts.boxed.Box as Box
use Rattle.std.specs.contracts.alloc.Global as Heap
use Rattle.std.specs.contracts.impls.GlobalAllocator.TheImpl.{ghosts}
use Rattle.grasp_cbor.specs.contracts.tree.Item as Item
use Rattle.grasp_cbor.specs.contracts.tree.Item.TheKnot.{type-Item}
use Rattle.grasp_cbor.specs.contracts.tree.Items as Items
use Rattle.grasp_cbor.specs.contracts.tree.Pairs as Pairs
use Rattle.grasp_cbor.specs.contracts.strings.Octets as Octets
use Rattle.grasp_cbor.specs.contracts.strings.Chars as Chars
use Rattle.grasp_cbor.specs.contracts.scalars.SimpleValue as Simple
use Rattle.grasp_cbor.specs.contracts.scalars.FloatBits as Float

step-Item : Sends Item.the_ring Item.the_member
step-Item = record {
  send = λ h s. variants_send (type-Item (h Items.the_member) (h Pairs.the_member) (h Item.the_member))
      (search (s, sendable, crosses) depth 60 fits 5000);
}

step-Items : Sends Item.the_ring Items.the_member
step-Items = record { send = λ h s. declared_send (Items.the_layer h) (search (s, sendable, crosses) depth 60 fits 5000) }

step-Pairs : Sends Item.the_ring Pairs.the_member
step-Pairs = record { send = λ h s. declared_send (Pairs.the_layer h) (search (s, sendable, crosses) depth 60 fits 5000) }

hole_sends : (i : _) → IsSend (holes Item.the_ring i)
hole_sends = fix_send Item.the_ring (Item.by_members (Sends Item.the_ring) step-Item step-Items step-Pairs)

pair_send : (R : RattleType) → IsSend R → IsSend (Tuple (R ∷ R ∷ []))
pair_send R s = declared_send (tuple_type (R ∷ R ∷ [])) (as_row_send (row_field R) s, (as_row_send (row_field R) s, tt))

-- an item may go to another thread
pub Item-send : IsSend Item.the_row
Item-send =
    let a : IsSend Item.the_hole = hole_sends Item.the_member in
    let b : IsSend Items.the_row = declared_send Items.the_type (search (a, sendable, crosses) depth 60 fits 5000) in
    let t : IsSend (Tuple (Item.the_hole ∷ Item.the_hole ∷ [])) = pair_send _ a in
    let v : IsSend (Vec.the_row (Tuple (Item.the_hole ∷ Item.the_hole ∷ [])) Heap.the_row ghosts) = Vec-send _ t in
    let c : IsSend Pairs.the_row = declared_send Pairs.the_type (v, tt) in
    let x : IsSend (Box.the_row Item.the_hole Heap.the_row ghosts) = Box-send _ a in
    let n : IsSend (as_row u64-field) = search sendable in
    let o : IsSend Octets.the_row = search (sendable, crosses) depth 60 fits 5000 in
    let m : IsSend Chars.the_row = search (sendable, crosses) depth 60 fits 5000 in
    let p : IsSend Simple.the_row = search (sendable, crosses) depth 60 fits 5000 in
    let f : IsSend Float.the_row = search (sendable, crosses) depth 60 fits 5000 in
    variants_send Item.enum ((n, tt), ((n, tt), ((o, tt), ((m, tt), ((b, tt), ((c, tt), ((n, (x, tt)), ((p, tt), ((f, tt), tt)))))))))
