-- Streams of which bytes are delivered to an end, and of which an end is told that they are closed.
use Rattle.std.proofs.Common.{◌≡◌, refl, sym, ap, ◌∙◌, subst, ℕ, ◌+◌, Bool, true, false, List, length, Some, None, slice_get, slice_set, take, drop}
use Rattle.grasp_session.specs.Messages.{Side, Near, Far}
use Rattle.grasp_wire.specs.Laws.{encoded}
use Rattle.grasp_model_network.specs.StreamChanges.{side_named}
use Rattle.grasp_model_network.specs.World.{end_of}
use Rattle.grasp_model_network.specs.Streams.{Direction, StreamState, told_closed, change_at_end, with_delivered, with_side}
use Rattle.grasp_laws_delivery.specs.Ready.{AreSent}
use Rattle.grasp_simulator.specs.StreamParts.{piece_of, more_delivered, stream_delivered, stream_told}
use Rattle.grasp_simulator.specs.StreamsStand.{Queueing, SentStands, StreamStands, TableStands, place_in}
use Rattle.grasp_simulator.specs.declared.stream.Sent.{Sent}
use Rattle.grasp_simulator.specs.declared.stream.Stream.{Stream}
use Rattle.grasp_simulator.specs.declared.stream.LifeEnd.{LifeEnd}
use Rattle.grasp_simulator.proofs.StreamChanges.{KeepsNumber, changed, stays_nowhere}

-- ---- bytes that are delivered

-- the next bytes of the code's direction are those of the network's
pub piece_is : (code : Sent) (d : Direction) (count : ℕ) → SentStands code d → piece_of code count ≡ take count (drop d.delivered (encoded d.sent))
piece_is code d count s = ap (λ (n : ℕ). take count (drop n code.bytes)) s.delivered ∙ ap (λ (bytes : List ℕ). take count (drop d.delivered bytes)) s.bytes

delivered_stands : (code : Sent) (d : Direction) (count : ℕ) → SentStands code d → SentStands (more_delivered code count) (record d { delivered = d.delivered + length (take count (drop d.delivered (encoded d.sent))) })
delivered_stands code d count s = record {
  bytes = s.bytes;
  delivered = ap (λ (n : ℕ). n + length (piece_of code count)) s.delivered ∙ ap (λ (piece : List ℕ). d.delivered + length piece) (piece_is code d count s);
}

delivers : (count : ℕ) (code : Stream) (k : ℕ) (t : StreamState) (far : Bool) → StreamStands code k t → StreamStands (stream_delivered code far count) k (with_delivered count t (side_named far))
delivers count code k t true s = record {
  near = s.near;
  even = s.even;
  to = s.to;
  far = s.far;
  near_side = s.near_side;
  far_side = s.far_side;
  from_near = delivered_stands code.from_near t.from_near count s.from_near;
  from_far = s.from_far;
}
delivers count code k t false s = record {
  near = s.near;
  even = s.even;
  to = s.to;
  far = s.far;
  near_side = s.near_side;
  far_side = s.far_side;
  from_near = s.from_near;
  from_far = delivered_stands code.from_far t.from_far count s.from_far;
}

delivered_number : (count : ℕ) → KeepsNumber (with_delivered count)
delivered_number count t Near = refl
delivered_number count t Far = refl

delivered_near : (count : ℕ) (t : StreamState) (side : Side) → (with_delivered count t side).near ≡ t.near
delivered_near count t Near = refl
delivered_near count t Far = refl

near_still : (count : ℕ) (code : Stream) (far : Bool) → (stream_delivered code far count).near ≡ code.near
near_still count code true = refl
near_still count code false = refl

number_still : (count : ℕ) (code : Stream) (far : Bool) → (stream_delivered code far count).number ≡ code.number
number_still count code true = refl
number_still count code false = refl

-- ---- an end that is told

tells : (code : Stream) (k : ℕ) (t : StreamState) (far : Bool) → StreamStands code k t → StreamStands (stream_told code far) k (with_side told_closed t (side_named far))
tells code k t true s = record { near = s.near; even = s.even; to = s.to; far = s.far; near_side = s.near_side; far_side = refl; from_near = s.from_near; from_far = s.from_far }
tells code k t false s = record { near = s.near; even = s.even; to = s.to; far = s.far; near_side = refl; far_side = s.far_side; from_near = s.from_near; from_far = s.from_far }

told_number : KeepsNumber (with_side told_closed)
told_number t Near = refl
told_number t Far = refl

told_near : (t : StreamState) (side : Side) → (with_side told_closed t side).near ≡ t.near
told_near t Near = refl
told_near t Far = refl

near_told : (code : Stream) (far : Bool) → (stream_told code far).near ≡ code.near
near_told code true = refl
near_told code false = refl

number_told : (code : Stream) (far : Bool) → (stream_told code far).number ≡ code.number
number_told code true = refl
number_told code false = refl

-- ---- the table

module _ (streams : List Stream) (index : List (LifeEnd × ℕ)) (begins : Queueing) (node number : ℕ) (ts : List StreamState) (dials : ℕ) (s : TableStands streams index begins ts dials) where
  pub delivered_here : (count : ℕ) (p : ℕ × Bool) (code after : Stream) → place_in streams index node number ≡ Some p → slice_get streams p.0 ≡ Some code → after ≡ stream_delivered code p.1 count
      → TableStands (slice_set streams p.0 after) index begins (change_at_end ts (end_of node number) (with_delivered count)) dials
  delivered_here count p code after placed got new =
      subst (λ (c : Stream). TableStands (slice_set streams p.0 c) index begins (change_at_end ts (end_of node number) (with_delivered count)) dials) (sym new)
      (changed streams index begins node number p (with_delivered count) code (stream_delivered code p.1 count) (delivered_number count) (delivered_near count) placed got (λ t. delivers count code (p.0 + 1) t p.1) ts dials
      (near_still count code p.1) (number_still count code p.1) s)

  pub told_here : (p : ℕ × Bool) (code after : Stream) → place_in streams index node number ≡ Some p → slice_get streams p.0 ≡ Some code → after ≡ stream_told code p.1
      → TableStands (slice_set streams p.0 after) index begins (change_at_end ts (end_of node number) (with_side told_closed)) dials
  told_here p code after placed got new =
      subst (λ (c : Stream). TableStands (slice_set streams p.0 c) index begins (change_at_end ts (end_of node number) (with_side told_closed)) dials) (sym new)
      (changed streams index begins node number p (with_side told_closed) code (stream_told code p.1) told_number told_near placed got (λ t. tells code (p.0 + 1) t p.1) ts dials (near_told code p.1) (number_told code p.1) s)

  -- a change by an end that no stream has
  pub changed_nowhere : (f : StreamState → Side → StreamState) → place_in streams index node number ≡ None → AreSent ts (end_of node number) → TableStands streams index begins (change_at_end ts (end_of node number) f) dials
  changed_nowhere f placed sent = subst (λ (l : List StreamState). TableStands streams index begins l dials) (sym (stays_nowhere streams index begins node number f ts placed sent s.each)) s
