-- What was sent in a network that turns lead to is bytes.
use Rattle.std.proofs.Common.{◌≡◌, arith, ℕ, ◌+◌, ◌<◌, ◌≤◌, ◌^◌, List, [], ◌∷◌, length, drop, All}
use Rattle.std.proofs.lemmas.Bool.{ltb-false}
use Rattle.std.specs.Prelude.{sum_by}
use Rattle.std.proofs.lemmas.List.Elements.{All-nil, All-cons, All-head, All-tail}
use Rattle.std.proofs.lemmas.List.Sums.{sum_by-cons}
use Rattle.grasp_cbor.proofs.HeadBytes.{AllBytes-drop, AllBytes-take}
use Rattle.grasp_cbor.proofs.ShortestBytes.{shortest_bytes}
use Rattle.grasp_cbor.specs.Bytes.{AllBytes}
use Rattle.grasp_model_node.specs.Queue.{encoding}
use Rattle.grasp_session.specs.Messages.{Side}
use Rattle.grasp_types.specs.Message.{IsMessage, item_of}
use Rattle.grasp_types.specs.declared.message.Message.{Message}
use Rattle.grasp_wire.proofs.ShortestForm.{sendable_encodable}
use Rattle.grasp_wire.specs.Laws.{encoded, IsSendable}
use Rattle.grasp_laws_network.proofs.Counted.{bytes_are_counted}
use Rattle.grasp_laws_network.proofs.Going.{not_too_much}
use Rattle.grasp_model_network.specs.Runs.{IsReached}
use Rattle.grasp_model_network.specs.Setting.{Setting}
use Rattle.grasp_model_network.specs.Streams.{StreamState, sent_by, next_bytes}
use Rattle.grasp_model_network.specs.World.{SentDatagram, WorldState, bytes_sent, datagram_bytes, stream_bytes, most_bytes}
use Rattle.grasp_laws_delivery.proofs.Fronts.{encoded_bytes}
use Rattle.grasp_laws_delivery.proofs.RangedNetworks.{IsSentRanged, all_sent_ranged}
use Rattle.grasp_laws_delivery.specs.Divided.{IsSentMessage, DatagramsAreMessages}

-- ---- datagrams

message_bytes : (limit : ℕ) (m : Message) → limit < 2 ^ 64 → IsMessage m → length (encoding m) ≤ limit → AllBytes (encoding m)
message_bytes limit m small is fits = shortest_bytes (item_of m) (sendable_encodable m limit small is fits)

least_part : (sum a b limit : ℕ) → sum ≡ a + b → sum ≤ limit → a ≤ limit
least_part sum a b limit e h = omega (arith, e, h)

other_part : (sum a b limit : ℕ) → sum ≡ a + b → sum ≤ limit → b ≤ limit
other_part sum a b limit e h = omega (arith, e, h)

sent_bytes : (limit : ℕ) (ds : List SentDatagram) → limit < 2 ^ 64 → sum_by datagram_bytes ds ≤ limit → All IsSentRanged ds → All (λ d. IsSentMessage d.message) ds
sent_bytes limit [] small few all = All-nil (λ d. IsSentMessage d.message)
sent_bytes limit (d ∷ ds) small few all =
    let sum = sum_by-cons datagram_bytes d ds in
    let is = All-head IsSentRanged d ds all in
    let one = least_part (sum_by datagram_bytes (d ∷ ds)) (datagram_bytes d) (sum_by datagram_bytes ds) limit sum few in
    let others = other_part (sum_by datagram_bytes (d ∷ ds)) (datagram_bytes d) (sum_by datagram_bytes ds) limit sum few in
    All-cons (λ x. IsSentMessage x.message) d ds (record { is_message = is; bytes = message_bytes limit d.message small is one })
    (sent_bytes limit ds small others (All-tail IsSentRanged d ds all))

few_datagrams : (s : Setting) (w : WorldState) → IsReached s w → sum_by datagram_bytes w.datagrams ≤ most_bytes
unfolding bytes_sent
few_datagrams s w r =
    least_part w.byte_count (sum_by datagram_bytes w.datagrams) (sum_by stream_bytes w.streams) most_bytes (bytes_are_counted.all s w r) (ltb-false most_bytes w.byte_count (not_too_much s w r))

most_small : most_bytes < 2 ^ 64
most_small = omega arith

pub datagrams_are_messages : DatagramsAreMessages
datagrams_are_messages s w r = sent_bytes most_bytes w.datagrams most_small (few_datagrams s w r) (all_sent_ranged s w r)

-- ---- streams

-- the next bytes that a side sent are numbers below 256
pub next_are_bytes : (limit : ℕ) (t : StreamState) (side : Side) (count : ℕ) → limit < 2 ^ 64 → All (IsSendable limit) (sent_by t side).sent → AllBytes (next_bytes t side count)
next_are_bytes limit t side count small all =
    AllBytes-take count (drop (sent_by t side).delivered (encoded (sent_by t side).sent))
    (AllBytes-drop (sent_by t side).delivered (encoded (sent_by t side).sent) (encoded_bytes limit (sent_by t side).sent small all))
