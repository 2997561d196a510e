-- Changes of streams that leave each closed side as it is.
use Rattle.std.proofs.Common.{◌≡◌, refl, ◌∙◌, ℕ, ◌+◌, true, List, [], ◌∷◌, ◌++◌, fold, map, take, Option, Some, None, slice_get}
use Rattle.grasp_agent.specs.States.{AgentState}
use Rattle.grasp_model_node.specs.Begin.{begin}
use Rattle.grasp_model_node.specs.Draining.{closes, after_drain}
use Rattle.grasp_model_node.specs.Node.{NodeState}
use Rattle.grasp_model_node.specs.Queue.{Queued, datagram, dial, send}
use Rattle.grasp_session.specs.Messages.{Side, Near, Far}
use Rattle.grasp_types.specs.declared.message.Message.{Message}
use Rattle.grasp_laws_network.proofs.Lists.{slice_map}
use Rattle.grasp_model_network.specs.Restarting.{told_at}
use Rattle.grasp_model_network.specs.Routes.{Route, route_of}
use Rattle.grasp_model_network.specs.Sending.{gained, having_made, streams_made, seat_with, stepped, posted, having_sent, having_closed, handed_over, drained, drained_at, drained_from}
use Rattle.grasp_model_network.specs.Setting.{Setting}
use Rattle.grasp_model_network.specs.Streams.{StreamEnd, Direction, StreamState, told_closed, fresh_stream, end_at, side_at, sent_by, with_direction, with_side, with_said, with_sent, with_ended, with_number, at_end, change_at_end}
use Rattle.grasp_model_network.specs.Visits.{Visit}
use Rattle.grasp_model_network.specs.World.{Seat, WorldState, member_of, seat_at, with_seat, end_of}
use Rattle.grasp_laws_delivery.proofs.Sides.{at_end_has, place_changed, place_kept}
use Rattle.grasp_laws_delivery.proofs.Turned.{told_by}
use Rattle.grasp_laws_reports.specs.Outcomes.{StaysClosed}

-- ---- one stream

pub same_closed : (side : Side) (t : StreamState) → side_at t side ≡ told_closed → StaysClosed side t t
same_closed side t e = record { closed = e; end = refl; delivered = refl }

closed_then : (side : Side) (t u x : StreamState) → StaysClosed side t u → StaysClosed side u x → StaysClosed side t x
closed_then side t u x a b = record { closed = b.closed; end = b.end ∙ a.end; delivered = b.delivered ∙ a.delivered }

-- a change by either side that leaves each closed side as it is
abbrev LeavesClosed : (StreamState → Side → StreamState) → Type 0
LeavesClosed f = (t : StreamState) (by side : Side) → side_at t side ≡ told_closed → StaysClosed side t (f t by)

direction_leaves : (t : StreamState) (by : Side) (d : Direction) → d.delivered ≡ (sent_by t by).delivered → (side : Side) → side_at t side ≡ told_closed → StaysClosed side t (with_direction t by d)
direction_leaves t Near d h Near e = record { closed = e; end = refl; delivered = refl }
direction_leaves t Near d h Far e = record { closed = e; end = refl; delivered = h }
direction_leaves t Far d h Near e = record { closed = e; end = refl; delivered = h }
direction_leaves t Far d h Far e = record { closed = e; end = refl; delivered = refl }

said_leaves : (m : Message) → LeavesClosed (with_said m)
said_leaves m t by Near e = record { closed = e; end = refl; delivered = refl }
said_leaves m t by Far e = record { closed = e; end = refl; delivered = refl }

sent_leaves : (m : Message) → LeavesClosed (with_sent m)
sent_leaves m t by side e = direction_leaves t by (record (sent_by t by) { sent = (sent_by t by).sent ++ m ∷ [] }) refl side e

ended_leaves : LeavesClosed with_ended
ended_leaves t by side e = direction_leaves t by (record (sent_by t by) { ended = true }) refl side e

number_leaves : (k : ℕ) → LeavesClosed (with_number k)
number_leaves k t by Near e = record { closed = e; end = refl; delivered = refl }
number_leaves k t by Far e = record { closed = e; end = refl; delivered = refl }

told_leaves : LeavesClosed (with_side told_closed)
told_leaves t Near Near e = record { closed = refl; end = refl; delivered = refl }
told_leaves t Near Far e = record { closed = e; end = refl; delivered = refl }
told_leaves t Far Near e = record { closed = e; end = refl; delivered = refl }
told_leaves t Far Far e = record { closed = refl; end = refl; delivered = refl }

-- ---- all streams

-- each stream is where it was, and each of its closed sides as it was
pub record StreamsStay (ts us : List StreamState) : Type 0 where
  pub each : (place : ℕ) (side : Side) (t : StreamState) → slice_get ts place ≡ Some t → side_at t side ≡ told_closed → (u : StreamState) × (slice_get us place ≡ Some u) × StaysClosed side t u

pub same_stay : (ts : List StreamState) → StreamsStay ts ts
same_stay ts = record { each = λ place side t is e. (t, is, same_closed side t e) }

pub stay_then : (ts us xs : List StreamState) → StreamsStay ts us → StreamsStay us xs → StreamsStay ts xs
stay_then ts us xs a b = record {
  each = λ place side t is e.
      let u = a.each place side t is e in
      let x = b.each place side u.0 u.1 u.2.closed in
      (x.0, x.1, closed_then side t u.0 x.0 u.2 x.2);
}

-- one stream is changed by a side that has the end
pub change_stays : (ts : List StreamState) (e : StreamEnd) (f : StreamState → Side → StreamState)
    → ((place : ℕ) (t : StreamState) (by side : Side) → slice_get ts place ≡ Some t → end_at t by ≡ Some e → side_at t side ≡ told_closed → StaysClosed side t (f t by)) → StreamsStay ts (change_at_end ts e f)
change_stays ts e f h = record {
  each = λ place side t is closed. (
    at_end e f t,
    place_changed ts e f place t is,
    at_end_has (StaysClosed side t) e f t (λ none. same_closed side t closed) (λ by at. h place t by side is at closed),
  );
}

leaving_stays : (ts : List StreamState) (e : StreamEnd) (f : StreamState → Side → StreamState) → LeavesClosed f → StreamsStay ts (change_at_end ts e f)
leaving_stays ts e f leaves = change_stays ts e f (λ place t by side is at closed. leaves t by side closed)

pub told_stay : (ts : List StreamState) (e : StreamEnd) → StreamsStay ts (change_at_end ts e (with_side told_closed))
told_stay ts e = leaving_stays ts e (with_side told_closed) told_leaves

-- the sides of a life that ends are told
pub restart_stays : (s : Setting) (node life : ℕ) (ts : List StreamState) → StreamsStay ts (map (told_at s node life) ts)
restart_stays s node life ts = record {
  each = λ place side t is closed. (
    told_at s node life t,
    slice_map (told_at s node life) ts place t is,
    told_by (λ u. StaysClosed side t u) (λ u by k. closed_then side t u (with_side told_closed u by) k (told_leaves u by side k.closed)) s node life t (same_closed side t closed),
  );
}

more_stay : (ts more : List StreamState) → StreamsStay ts (ts ++ more)
more_stay ts more = record { each = λ place side t is e. (t, place_kept ts more place t is, same_closed side t e) }

-- ---- what is made

made_stays : (node : ℕ) (ts : List StreamState) (q : Queued) → StreamsStay ts (having_made node ts q)
made_stays node ts (datagram link to m) = same_stay ts
made_stays node ts (dial stream to) = more_stay ts (fresh_stream (end_of node stream) to ∷ [])
made_stays node ts (send stream m) = leaving_stays ts (end_of node stream) (with_said m) (said_leaves m)

all_made_stay : (node : ℕ) (qs : List Queued) (ts : List StreamState) → StreamsStay ts (streams_made node ts qs)
unfolding streams_made
all_made_stay node [] ts = same_stay ts
all_made_stay node (q ∷ qs) ts =
    stay_then ts (having_made node ts q) (streams_made node (having_made node ts q) qs) (made_stays node ts q) (all_made_stay node qs (having_made node ts q))

pub stepped_stay : (w x : WorldState) (v : Visit) (core : NodeState) (agent : AgentState) → StreamsStay w.streams x.streams → StreamsStay w.streams (stepped x v core agent).streams
unfolding stepped
stepped_stay w x v core agent a =
    stay_then w.streams x.streams (streams_made v.node x.streams (gained v.seat.core core)) a (all_made_stay v.node (gained v.seat.core core) x.streams)

-- ---- what is sent

posted_stay : (w : WorldState) (m : Message) (route : Option Route) → StreamsStay w.streams (posted w m route).streams
posted_stay w m None = same_stay w.streams
posted_stay w m (Some route) = same_stay w.streams

sent_stay : (s : Setting) (node : ℕ) (w : WorldState) (q : Queued) → StreamsStay w.streams (having_sent s node w q).streams
sent_stay s node w (datagram link to m) = posted_stay w m (route_of s (member_of w node) link to)
sent_stay s node w (dial stream to) = leaving_stays w.streams (end_of node stream) (with_number (w.dials + 1)) (number_leaves (w.dials + 1))
sent_stay s node w (send stream m) = leaving_stays w.streams (end_of node stream) (with_sent m) (sent_leaves m)

all_sent_stay : (s : Setting) (node : ℕ) (qs : List Queued) (w : WorldState) → StreamsStay w.streams (fold (having_sent s node) w qs).streams
all_sent_stay s node [] w = same_stay w.streams
all_sent_stay s node (q ∷ qs) w =
    stay_then w.streams (having_sent s node w q).streams (fold (having_sent s node) (having_sent s node w q) qs).streams (sent_stay s node w q)
    (all_sent_stay s node qs (having_sent s node w q))

all_closed_stay : (node : ℕ) (streams : List ℕ) (w : WorldState) → StreamsStay w.streams (fold (having_closed node) w streams).streams
all_closed_stay node [] w = same_stay w.streams
all_closed_stay node (stream ∷ streams) w =
    stay_then w.streams (having_closed node w stream).streams (fold (having_closed node) (having_closed node w stream) streams).streams
    (leaving_stays w.streams (end_of node stream) with_ended ended_leaves) (all_closed_stay node streams (having_closed node w stream))

handed_stay : (s : Setting) (w : WorldState) (node : ℕ) (qs : List Queued) (streams : List ℕ) → StreamsStay w.streams (handed_over s w node qs streams).streams
unfolding handed_over
handed_stay s w node qs streams =
    stay_then w.streams (fold (having_sent s node) w qs).streams (fold (having_closed node) (fold (having_sent s node) w qs) streams).streams (all_sent_stay s node qs w)
    (all_closed_stay node streams (fold (having_sent s node) w qs))

drained_by_stay : (s : Setting) (w : WorldState) (node max : ℕ) (o : Option Seat) → StreamsStay w.streams (drained_at s w node max o).streams
drained_by_stay s w node max None = same_stay w.streams
drained_by_stay s w node max (Some seat) = from (begin seat.core seat.core.reading) where
  from : (m : NodeState) → StreamsStay w.streams (drained_from s w node seat m max).streams
  from m = handed_stay s (with_seat w node (seat_with (after_drain m max) seat.agent)) node (take max m.queue) (closes m max)

pub drained_stay : (s : Setting) (w : WorldState) (node max : ℕ) → StreamsStay w.streams (drained s w node max).streams
unfolding drained
drained_stay s w node max = drained_by_stay s w node max (seat_at w node)
