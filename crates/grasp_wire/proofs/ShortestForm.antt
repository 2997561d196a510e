-- The shortest encodings of messages that can be sent.
use Rattle.std.proofs.Common.{ℕ, ◌<◌, ◌≤◌, ◌^◌, length, arith}
use Rattle.grasp_cbor.specs.Encodable.{IsEncodable}
use Rattle.grasp_cbor.specs.Shortest.{shortest}
use Rattle.grasp_types.specs.Message.{item_of, IsMessage}
use Rattle.grasp_types.specs.declared.message.Message.{Message}
use Rattle.grasp_wire.specs.Laws.{ShortestIsWireForm}
use Rattle.grasp_wire.proofs.EncodableItems.{message_fine, shortest_is_form}

pub shortest_form : ShortestIsWireForm
shortest_form = shortest_is_form

pub sendable_encodable : (message : Message) (limit : ℕ) → limit < 2 ^ 64 → IsMessage message → length (shortest (item_of message)) ≤ limit → IsEncodable (item_of message)
sendable_encodable message limit below is short = message_fine message is (omega (arith, below, short))
