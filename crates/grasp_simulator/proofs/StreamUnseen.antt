-- Changes of streams of which the code's table keeps nothing: what is said, and what is ended.
use Rattle.std.proofs.Common.{◌≡◌, refl, sym, ap, ◌∙◌, subst, ℕ, ◌-◌, List, Option, Some, None, slice_get}
use Rattle.grasp_laws_delivery.proofs.Counts.{every_map}
use Rattle.grasp_session.specs.Messages.{Side, Near, Far}
use Rattle.grasp_types.specs.declared.message.Message.{Message}
use Rattle.grasp_simulator.proofs.StreamChanges.{KeepsNumber, count_stays}
use Rattle.grasp_simulator.specs.StreamsStand.{Queueing, IsQueued, HeldAs, dial_at, TalkStands, TableStands}
use Rattle.grasp_model_network.specs.Streams.{StreamEnd, StreamState, side_of_end, changed_by, at_end, change_at_end, with_said, with_ended}
use Rattle.grasp_simulator.specs.declared.stream.Stream.{Stream}
use Rattle.grasp_simulator.specs.declared.stream.LifeEnd.{LifeEnd}

-- the table stands for a stream after the change as it did before it
abbrev IsUnseen : (StreamState → Side → StreamState) → Type 0
IsUnseen f = (streams : List Stream) (index : List (LifeEnd × ℕ)) (begins : Queueing) (t : StreamState) (side : Side) (n : Option ℕ) → TalkStands streams index begins t n → TalkStands streams index begins (f t side) n

unseen_by : (f : StreamState → Side → StreamState) → IsUnseen f → KeepsNumber f → (streams : List Stream) (index : List (LifeEnd × ℕ)) (begins : Queueing) (t : StreamState) (o : Option Side) → TalkStands streams index begins t t.number
    → TalkStands streams index begins (changed_by f t o) (changed_by f t o).number
unseen_by f same keeps streams index begins t None h = h
unseen_by f same keeps streams index begins t (Some side) h = subst (TalkStands streams index begins (f t side)) (sym (keeps t side)) (same streams index begins t side t.number h)

unseen : (f : StreamState → Side → StreamState) → IsUnseen f → KeepsNumber f → (streams : List Stream) (index : List (LifeEnd × ℕ)) (begins : Queueing) (e : StreamEnd) (ts : List StreamState) (dials : ℕ) → TableStands streams index begins ts dials
    → TableStands streams index begins (change_at_end ts e f) dials
unseen f same keeps streams index begins e ts dials s = record {
  dialled = s.dialled;
  each = every_map (λ (t : StreamState). TalkStands streams index begins t t.number) (λ (t : StreamState). TalkStands streams index begins t t.number) (at_end e f) (λ t. unseen_by f same keeps streams index begins t (side_of_end e t)) ts s.each;
  once = λ k least most. count_stays k e f keeps ts ∙ s.once k least most;
  few = s.few;
  found = s.found;
}

ended_queued : (index : List (LifeEnd × ℕ)) (begins : Queueing) (t : StreamState) (side : Side) → IsQueued index begins t → IsQueued index begins (with_ended t side)
ended_queued index begins t Near q = record { unknown = q.unknown; even = q.even; sides = q.sides; far = q.far; near_sent = q.near_sent; near_delivered = q.near_delivered; far_sent = q.far_sent; far_delivered = q.far_delivered }
ended_queued index begins t Far q = record { unknown = q.unknown; even = q.even; sides = q.sides; far = q.far; near_sent = q.near_sent; near_delivered = q.near_delivered; far_sent = q.far_sent; far_delivered = q.far_delivered }

ended_held : (t : StreamState) (side : Side) (k : ℕ) (o : Option Stream) → HeldAs o k t → HeldAs o k (with_ended t side)
ended_held t side k None s = s
ended_held t Near k (Some code) s = record { near = s.near; even = s.even; to = s.to; far = s.far; near_side = s.near_side; far_side = s.far_side; from_near = record { bytes = s.from_near.bytes; delivered = s.from_near.delivered }; from_far = record { bytes = s.from_far.bytes; delivered = s.from_far.delivered } }
ended_held t Far k (Some code) s = record { near = s.near; even = s.even; to = s.to; far = s.far; near_side = s.near_side; far_side = s.far_side; from_near = record { bytes = s.from_near.bytes; delivered = s.from_near.delivered }; from_far = record { bytes = s.from_far.bytes; delivered = s.from_far.delivered } }

ended_near : (t : StreamState) (side : Side) → (with_ended t side).near ≡ t.near
ended_near t Near = refl
ended_near t Far = refl

ended_number : KeepsNumber with_ended
ended_number t Near = refl
ended_number t Far = refl

ended_unseen : IsUnseen with_ended
ended_unseen streams index begins t side None q = ended_queued index begins t side q
ended_unseen streams index begins t side (Some k) d = record { least = d.least; known = ap (λ (x : StreamEnd). dial_at index x) (ended_near t side) ∙ d.known; held = ended_held t side k (slice_get streams (k - 1)) d.held }

-- the table stands for the streams of which one side has ended its direction
pub ended_stays : (streams : List Stream) (index : List (LifeEnd × ℕ)) (begins : Queueing) (e : StreamEnd) (ts : List StreamState) (dials : ℕ) → TableStands streams index begins ts dials → TableStands streams index begins (change_at_end ts e with_ended) dials
ended_stays = unseen with_ended ended_unseen ended_number

said_queued : (m : Message) (index : List (LifeEnd × ℕ)) (begins : Queueing) (t : StreamState) (side : Side) → IsQueued index begins t → IsQueued index begins (with_said m t side)
said_queued m index begins t Near q = record { unknown = q.unknown; even = q.even; sides = q.sides; far = q.far; near_sent = q.near_sent; near_delivered = q.near_delivered; far_sent = q.far_sent; far_delivered = q.far_delivered }
said_queued m index begins t Far q = record { unknown = q.unknown; even = q.even; sides = q.sides; far = q.far; near_sent = q.near_sent; near_delivered = q.near_delivered; far_sent = q.far_sent; far_delivered = q.far_delivered }

said_held : (m : Message) (t : StreamState) (side : Side) (k : ℕ) (o : Option Stream) → HeldAs o k t → HeldAs o k (with_said m t side)
said_held m t side k None s = s
said_held m t Near k (Some code) s = record { near = s.near; even = s.even; to = s.to; far = s.far; near_side = s.near_side; far_side = s.far_side; from_near = record { bytes = s.from_near.bytes; delivered = s.from_near.delivered }; from_far = record { bytes = s.from_far.bytes; delivered = s.from_far.delivered } }
said_held m t Far k (Some code) s = record { near = s.near; even = s.even; to = s.to; far = s.far; near_side = s.near_side; far_side = s.far_side; from_near = record { bytes = s.from_near.bytes; delivered = s.from_near.delivered }; from_far = record { bytes = s.from_far.bytes; delivered = s.from_far.delivered } }

said_near : (m : Message) (t : StreamState) (side : Side) → (with_said m t side).near ≡ t.near
said_near m t Near = refl
said_near m t Far = refl

said_number : (m : Message) → KeepsNumber (with_said m)
said_number m t Near = refl
said_number m t Far = refl

said_unseen : (m : Message) → IsUnseen (with_said m)
said_unseen m streams index begins t side None q = said_queued m index begins t side q
said_unseen m streams index begins t side (Some k) d = record { least = d.least; known = ap (λ (x : StreamEnd). dial_at index x) (said_near m t side) ∙ d.known; held = said_held m t side k (slice_get streams (k - 1)) d.held }

-- the table stands for the streams of which one side has said a message
pub said_stays : (m : Message) (streams : List Stream) (index : List (LifeEnd × ℕ)) (begins : Queueing) (e : StreamEnd) (ts : List StreamState) (dials : ℕ) → TableStands streams index begins ts dials → TableStands streams index begins (change_at_end ts e (with_said m)) dials
said_stays m = unseen (with_said m) (said_unseen m) (said_number m)
