-- The streams and the nodes of a network after a step, and after a drain.
use Rattle.std.proofs.Common.{◌≡◌, ◌≢◌, refl, sym, ap, ◌∙◌, subst, ℕ, ◌-◌, ◌≤◌, ◌==◌, true, false, List, take, ◌⊎◌, inl, inr, slice_set, Option, None, Some}
use Rattle.std.proofs.lemmas.Bool.Decides.{eqb_tells}
use Rattle.grasp_agent.specs.Replies.{after_reply}
use Rattle.grasp_agent.specs.States.{AgentState}
use Rattle.grasp_model_node.specs.Draining.{closes, after_drain}
use Rattle.grasp_model_node.specs.Node.{NodeState}
use Rattle.grasp_types.specs.declared.message.Message.{Message}
use Rattle.grasp_laws_network.proofs.EachNode.{put_is}
use Rattle.grasp_laws_network.proofs.Others.{put_elsewhere, arrived_keeps, delivered_keeps, told_keeps}
use Rattle.grasp_laws_network.proofs.Sent.{sending_keeps_nodes}
use Rattle.grasp_laws_network.proofs.Telling.{one_least}
use Rattle.grasp_laws_network.specs.Telling.{OneAgent}
use Rattle.grasp_model_network.specs.EventSteps.{after_agent_call, after_agent, after_arrival, after_clock, after_cut, after_delivery, after_piece}
use Rattle.grasp_model_network.specs.StreamChanges.{arrived, told, reached_side, side_named, delivered}
use Rattle.grasp_model_network.specs.Events.{after_visit}
use Rattle.grasp_model_network.specs.Notes.{noted}
use Rattle.grasp_model_network.specs.Routes.{Route}
use Rattle.grasp_model_network.specs.Sending.{posted, gained, streams_made, seat_with, stepped, drained_from}
use Rattle.grasp_model_network.specs.Setting.{Setting, numbered}
use Rattle.grasp_model_network.specs.Streams.{StreamState, stream_numbered}
use Rattle.grasp_model_network.specs.Visits.{Visit, Choice}
use Rattle.grasp_model_network.specs.World.{Seat, WorldState, seat_at, with_seat}
use Rattle.grasp_model_network.specs.declared.event.Event.{Event}
use Rattle.grasp_model_network.specs.declared.event.Event.TheVariants as event
use Rattle.grasp_laws_delivery.proofs.Holding.{IsStep}
use Rattle.grasp_laws_delivery.specs.Saying.{OfEachStream}

-- ---- one node is put

-- a node is that which was put, or another one as it was
abbrev pub IsPutOr : List Seat → ℕ → Seat → ℕ → Seat → Type 0
IsPutOr seats node seat n other = ((n ≡ node) × (seat ≡ other)) ⊎ ((n ≢ node) × (numbered seats n ≡ Some other))

pub put_or : (seats : List Seat) (node : ℕ) (seat : Seat) (n : ℕ) (other : Seat) → 1 ≤ node → numbered (slice_set seats (node - 1) seat) n ≡ Some other → IsPutOr seats node seat n other
put_or seats node seat n other least found = by_node (eqb_tells n node) where
  by_node : (((n == node) ≡ true) × (n ≡ node)) ⊎ (((n == node) ≡ false) × (n ≢ node)) → IsPutOr seats node seat n other
  by_node (inl t) = inl (t.1, put_is seats node seat other least (subst (λ k. numbered (slice_set seats (node - 1) seat) k ≡ Some other) t.1 found))
  by_node (inr t) = inr (t.1, sym (put_elsewhere seats node n seat least t.1) ∙ found)

-- ---- a step

-- the streams before what the step has queued
abbrev pub streams_before : Setting → WorldState → Event → Visit → Choice → List StreamState
streams_before s w (event.Arrive stream hold) v c = (arrived w v (s.arrives_as v.node stream) c.reply (stream_numbered w.streams stream)).streams
streams_before s w (event.Bytes stream far count hold) v c = (delivered w count (reached_side w stream (side_named far))).streams
streams_before s w (event.Cut stream far hold) v c = (told w (reached_side w stream (side_named far))).streams
streams_before s w _ v c = w.streams

pub streams_stepped : (s : Setting) (w : WorldState) (e : Event) (v : Visit) (c : Choice) → IsStep e
    → (after_visit s w e v c).streams ≡ streams_made v.node (streams_before s w e v c) (gained v.seat.core c.after)
unfolding after_clock after_agent after_agent_call after_delivery after_arrival after_piece after_cut noted stepped
streams_stepped s w (event.Want node length longest peer) v c is = absurd is
streams_stepped s w (event.Return node prefix peer) v c is = absurd is
streams_stepped s w (event.Drain node max) v c is = absurd is
streams_stepped s w _ v c is = refl

-- the node of the step is put, with some agent
pub record SeatsPut (w x : WorldState) (v : Visit) (c : Choice) : Type 0 where
  pub agent : AgentState
  pub agent_is : (agent ≡ v.seat.agent) ⊎ (agent ≡ after_reply v.seat.agent c.reply)
  pub seats : x.seats ≡ slice_set w.seats (v.node - 1) (seat_with c.after agent)

put_in : (w x y : WorldState) (v : Visit) (c : Choice) (agent : AgentState) → (agent ≡ v.seat.agent) ⊎ (agent ≡ after_reply v.seat.agent c.reply) → x.seats ≡ w.seats → y.seats ≡ (stepped x v c.after agent).seats → SeatsPut w y v c
unfolding stepped
put_in w x y v c agent is e f = record { agent = agent; agent_is = is; seats = f ∙ ap (λ seats. slice_set seats (v.node - 1) (seat_with c.after agent)) e }

pub seats_stepped : (s : Setting) (w : WorldState) (e : Event) (v : Visit) (c : Choice) → IsStep e → SeatsPut w (after_visit s w e v c) v c
unfolding after_clock after_agent after_agent_call after_delivery after_arrival after_piece after_cut noted
seats_stepped s w (event.Clock node millis) v c is = put_in w w (after_clock w v c) v c v.seat.agent (inl refl) refl refl
seats_stepped s w (event.Want node length longest peer) v c is = absurd is
seats_stepped s w (event.Return node prefix peer) v c is = absurd is
seats_stepped s w (event.Agent node hold) v c is = put_in w w (after_agent w v c) v c (after_reply v.seat.agent c.reply) (inr refl) refl refl
seats_stepped s w (event.Api node asa call hold) v c is = put_in w w (after_agent_call w v asa call c) v c v.seat.agent (inl refl) refl refl
seats_stepped s w (event.Datagram index hold) v c is = put_in w w (after_delivery w v index c) v c v.seat.agent (inl refl) refl refl
seats_stepped s w (event.Arrive stream hold) v c is =
    put_in w (arrived w v (s.arrives_as v.node stream) c.reply (stream_numbered w.streams stream)) (after_arrival s w v stream c) v c v.seat.agent (inl refl)
    (arrived_keeps w v (s.arrives_as v.node stream) c.reply (stream_numbered w.streams stream)) refl
seats_stepped s w (event.Bytes stream far count hold) v c is =
    put_in w (delivered w count (reached_side w stream (side_named far))) (after_piece w v stream (side_named far) count c) v c v.seat.agent (inl refl)
    (delivered_keeps w count (reached_side w stream (side_named far))) refl
seats_stepped s w (event.Cut stream far hold) v c is =
    put_in w (told w (reached_side w stream (side_named far))) (after_cut w v stream (side_named far) c) v c v.seat.agent (inl refl)
    (told_keeps w (reached_side w stream (side_named far))) refl
seats_stepped s w (event.Drain node max) v c is = absurd is

-- what is so of the node of the step, and of every other one
pub each_seat : (P : ℕ → Seat → Type 0) (w x : WorldState) (v : Visit) (c : Choice) → 1 ≤ v.node → SeatsPut w x v c
    → ((agent : AgentState) → (agent ≡ v.seat.agent) ⊎ (agent ≡ after_reply v.seat.agent c.reply) → seat_at x v.node ≡ Some (seat_with c.after agent) → P v.node (seat_with c.after agent))
    → ((node : ℕ) (seat : Seat) → node ≢ v.node → seat_at w node ≡ Some seat → P node seat) → (node : ℕ) (seat : Seat) → seat_at x node ≡ Some seat → P node seat
each_seat P w x v c least put own others node seat found =
    by_node (put_or w.seats v.node (seat_with c.after put.agent) node seat least (subst (λ seats. numbered seats node ≡ Some seat) put.seats found)) where
      by_node : IsPutOr w.seats v.node (seat_with c.after put.agent) node seat → P node seat
      by_node (inl t) =
          subst (λ k. P k seat) (sym t.0)
          (subst (λ (y : Seat). P v.node y) t.1 (own put.agent put.agent_is (subst (λ k. seat_at x k ≡ Some (seat_with c.after put.agent)) t.0 (found ∙ ap (λ (y : Seat). Some y) (sym t.1)))))
      by_node (inr t) = others node seat t.0 t.1

-- ---- a drain

-- a datagram that is sent changes no stream
pub posted_each : (P : StreamState → Type 0) (w : WorldState) (m : Message) (route : Option Route) → OfEachStream P w.streams → OfEachStream P (posted w m route).streams
posted_each P w m None each = each
posted_each P w m (Some route) each = each

-- the node is put as the drain leaves it
pub each_drained : (P : ℕ → Seat → Type 0) (s : Setting) (w : WorldState) (node : ℕ) (seat : Seat) (m : NodeState) (max : ℕ) → 1 ≤ node → P node (seat_with (after_drain m max) seat.agent)
    → ((n : ℕ) (other : Seat) → n ≢ node → seat_at w n ≡ Some other → P n other) → (n : ℕ) (other : Seat) → seat_at (drained_from s w node seat m max) n ≡ Some other → P n other
each_drained P s w node seat m max least own others n other found =
    by_node (put_or w.seats node put n other least (subst (λ seats. numbered seats n ≡ Some other) kept found)) where
      put : Seat
      put = seat_with (after_drain m max) seat.agent

      kept : (drained_from s w node seat m max).seats ≡ slice_set w.seats (node - 1) put
      kept = sending_keeps_nodes s (with_seat w node put) node (take max m.queue) (closes m max)

      by_node : IsPutOr w.seats node put n other → P n other
      by_node (inl t) = subst (λ k. P k other) (sym t.0) (subst (λ (y : Seat). P node y) t.1 own)
      by_node (inr t) = others n other t.0 t.1

-- ---- another agent

-- what is so of each node and of the streams stays so, if it does of the node whose agent is another one
pub agent_keeps : (P : List StreamState → ℕ → Seat → Type 0) (w x : WorldState) (o : OneAgent w x) → (P w.streams o.node o.seat → P w.streams o.node (seat_with o.seat.core o.agent))
    → ((node : ℕ) (seat : Seat) → seat_at w node ≡ Some seat → P w.streams node seat) → (node : ℕ) (seat : Seat) → seat_at x node ≡ Some seat → P x.streams node seat
agent_keeps P w x o own each = subst (λ (y : WorldState). (n : ℕ) (other : Seat) → seat_at y n ≡ Some other → P y.streams n other) (sym o.after) put where
  put : (n : ℕ) (other : Seat) → seat_at (with_seat w o.node (seat_with o.seat.core o.agent)) n ≡ Some other → P w.streams n other
  put n other found = by_node (put_or w.seats o.node (seat_with o.seat.core o.agent) n other (one_least w x o) found) where
    by_node : IsPutOr w.seats o.node (seat_with o.seat.core o.agent) n other → P w.streams n other
    by_node (inl t) = subst (λ k. P w.streams k other) (sym t.0) (subst (λ (y : Seat). P w.streams o.node y) t.1 (own (each o.node o.seat o.here)))
    by_node (inr t) = each n other t.1
