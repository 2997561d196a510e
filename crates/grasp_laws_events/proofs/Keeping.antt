-- Changes of streams that leave each side as it is.
use Rattle.std.proofs.Common.{◌≡◌, refl, sym, ◌∙◌, subst, arith, ℕ, zero, suc, ◌+◌, ◌≤◌, ◌<◌, ◌⊎◌, inl, inr, true, List, [], ◌∷◌, ◌++◌, length, fold, take, Option, Some, None, slice_get, get_or}
use Rattle.std.proofs.lemmas.List.{length-map}
use Rattle.std.proofs.lemmas.Option.{none-some, same_Some, slice_get_cases, slice_get_within}
use Rattle.grasp_agent.specs.States.{AgentState}
use Rattle.grasp_laws_delivery.proofs.Sides.{at_end_has, place_changed, place_kept}
use Rattle.grasp_model_network.specs.Routes.{Route, route_of}
use Rattle.grasp_model_network.specs.Sending.{drained, drained_at, drained_from, gained, handed_over, having_closed, having_made, having_sent, posted, seat_with, stepped, streams_made}
use Rattle.grasp_model_network.specs.Setting.{Setting}
use Rattle.grasp_model_network.specs.Streams.{StreamEnd, StreamState, Direction, at_end, change_at_end, fresh_stream, lives, not_yet, sent_by, with_delivered, with_direction, with_ended, with_number, with_said, with_sent}
use Rattle.grasp_model_network.specs.Visits.{Visit}
use Rattle.grasp_model_network.specs.World.{Seat, WorldState, end_of, member_of, seat_at, with_seat}
use Rattle.grasp_model_node.specs.Begin.{begin}
use Rattle.grasp_model_node.specs.Draining.{after_drain, closes}
use Rattle.grasp_model_node.specs.Node.{NodeState}
use Rattle.grasp_model_node.specs.Queue.{Queued, datagram, dial, send}
use Rattle.grasp_session.specs.Messages.{Side, Near, Far}
use Rattle.grasp_types.specs.declared.message.Message.{Message}
use Rattle.grasp_laws_events.specs.Sides.{StandsSame}

-- ---- one stream

pub same : (t : StreamState) → StandsSame t t
same t = record { near_side = refl; far_side = refl; far = refl }

pub same_then : (t u x : StreamState) → StandsSame t u → StandsSame u x → StandsSame t x
same_then t u x a b = record { near_side = b.near_side ∙ a.near_side; far_side = b.far_side ∙ a.far_side; far = b.far ∙ a.far }

-- a new stream
abbrev pub IsNew : StreamState → Type 0
IsNew u = (u.near_side ≡ lives) × (u.far_side ≡ not_yet) × (u.far ≡ None)

still_new : (t u : StreamState) → StandsSame t u → IsNew t → IsNew u
still_new t u e (a, b, d) = (e.near_side ∙ a, e.far_side ∙ b, e.far ∙ d)

-- a change by either side that leaves both sides as they are
abbrev Leaves : (StreamState → Side → StreamState) → Type 0
Leaves f = (t : StreamState) (by : Side) → StandsSame t (f t by)

direction_leaves : (t : StreamState) (by : Side) (d : Direction) → StandsSame t (with_direction t by d)
direction_leaves t Near d = record { near_side = refl; far_side = refl; far = refl }
direction_leaves t Far d = record { near_side = refl; far_side = refl; far = refl }

said_leaves : (m : Message) → Leaves (with_said m)
said_leaves m t by = record { near_side = refl; far_side = refl; far = refl }

sent_leaves : (m : Message) → Leaves (with_sent m)
sent_leaves m t by = direction_leaves t by (record (sent_by t by) { sent = (sent_by t by).sent ++ m ∷ [] })

ended_leaves : Leaves with_ended
ended_leaves t by = direction_leaves t by (record (sent_by t by) { ended = true })

number_leaves : (k : ℕ) → Leaves (with_number k)
number_leaves k t by = record { near_side = refl; far_side = refl; far = refl }

pub delivered_leaves : (count : ℕ) → Leaves (with_delivered count)
delivered_leaves count t Near = record { near_side = refl; far_side = refl; far = refl }
delivered_leaves count t Far = record { near_side = refl; far_side = refl; far = refl }

-- ---- all streams

-- what stands behind the streams that were there is new
pub record BringsNew (ts us : List StreamState) : Type 0 where
  pub new : (place : ℕ) (u : StreamState) → length ts ≤ place → slice_get us place ≡ Some u → IsNew u

-- and each stream is where it was, with both sides as they were
pub record KeepsSides (ts us : List StreamState) : Type 0 where
  pub each : (place : ℕ) (t : StreamState) → slice_get ts place ≡ Some t → (u : StreamState) × (slice_get us place ≡ Some u) × StandsSame t u
  pub brings : BringsNew ts us

past_end : {A : Type 0} (xs : List A) (place : ℕ) (x : A) → length xs ≤ place → slice_get xs place ≡ Some x → ⊥
past_end xs place x past e = let w : place < length xs = slice_get_within xs place x e in omega (arith, past, w)

nothing_new : (ts : List StreamState) → BringsNew ts ts
nothing_new ts = record { new = λ place u past e. absurd (past_end ts place u past e) }

pub keeps_same : (ts : List StreamState) → KeepsSides ts ts
keeps_same ts = record { each = λ place t e. (t, e, same t); brings = nothing_new ts }

pub new_then : (ts us xs : List StreamState) → BringsNew ts us → KeepsSides us xs → BringsNew ts xs
new_then ts us xs a b = record { new = new } where
  new : (place : ℕ) (x : StreamState) → length ts ≤ place → slice_get xs place ≡ Some x → IsNew x
  new place x past e = by (slice_get_cases us place).1 where
    by : ((u : StreamState) × (place < length us) × (slice_get us place ≡ Some u) × (get_or us place u ≡ u)) ⊎ ((length us ≤ place) × (slice_get us place ≡ None)) → IsNew x
    by (inl f) = let k = b.each place f.0 f.2 in subst IsNew (same_Some k.0 x (sym k.1 ∙ e)) (still_new f.0 k.0 k.2 (a.new place f.0 past f.2))
    by (inr f) = b.brings.new place x f.0 e

pub keeps_then : (ts us xs : List StreamState) → KeepsSides ts us → KeepsSides us xs → KeepsSides ts xs
keeps_then ts us xs a b = record {
  each = λ place t e.
      let u = a.each place t e in
      let x = b.each place u.0 u.1 in
      (x.0, x.1, same_then t u.0 x.0 u.2 x.2);
  brings = new_then ts us xs a.brings b;
}

-- a change of streams brings none
pub change_brings : (ts : List StreamState) (e : StreamEnd) (f : StreamState → Side → StreamState) → BringsNew ts (change_at_end ts e f)
change_brings ts e f = record {
  new = λ place u past is.
      let l : length (change_at_end ts e f) ≡ length ts = length-map ts (at_end e f) in
      absurd (past_end (change_at_end ts e f) place u (omega (arith, l, past)) is);
}

pub change_keeps : (ts : List StreamState) (e : StreamEnd) (f : StreamState → Side → StreamState) → Leaves f → KeepsSides ts (change_at_end ts e f)
change_keeps ts e f leaves = record {
  each = λ place t is. (at_end e f t, place_changed ts e f place t is, at_end_has (StandsSame t) e f t (λ none. same t) (λ by at. leaves t by));
  brings = change_brings ts e f;
}

last_is : (ts : List StreamState) (t : StreamState) (place : ℕ) (u : StreamState) → length ts ≤ place → slice_get (ts ++ t ∷ []) place ≡ Some u → t ≡ u
last_is [] t zero u past e = same_Some t u e
last_is [] t (suc place) u past e = absurd (none-some u e)
last_is (x ∷ ts) t zero u past e = absurd (omega (arith, past))
last_is (x ∷ ts) t (suc place) u past e = last_is ts t place u (omega (arith, past)) e

push_keeps : (ts : List StreamState) (t : StreamState) → IsNew t → KeepsSides ts (ts ++ t ∷ [])
push_keeps ts t is = record {
  each = λ place u e. (u, place_kept ts (t ∷ []) place u e, same u);
  brings = record { new = λ place u past e. subst IsNew (last_is ts t place u past e) is };
}

-- ---- what is made

made_keeps : (node : ℕ) (ts : List StreamState) (q : Queued) → KeepsSides ts (having_made node ts q)
made_keeps node ts (datagram link to m) = keeps_same ts
made_keeps node ts (dial stream to) = push_keeps ts (fresh_stream (end_of node stream) to) (refl, refl, refl)
made_keeps node ts (send stream m) = change_keeps ts (end_of node stream) (with_said m) (said_leaves m)

all_made_keep : (node : ℕ) (qs : List Queued) (ts : List StreamState) → KeepsSides ts (streams_made node ts qs)
unfolding streams_made
all_made_keep node [] ts = keeps_same ts
all_made_keep node (q ∷ qs) ts =
    keeps_then ts (having_made node ts q) (streams_made node (having_made node ts q) qs) (made_keeps node ts q) (all_made_keep node qs (having_made node ts q))

pub stepped_keeps : (x : WorldState) (v : Visit) (core : NodeState) (agent : AgentState) → KeepsSides x.streams (stepped x v core agent).streams
unfolding stepped
stepped_keeps x v core agent = all_made_keep v.node (gained v.seat.core core) x.streams

-- ---- what is sent

posted_keeps : (w : WorldState) (m : Message) (route : Option Route) → KeepsSides w.streams (posted w m route).streams
posted_keeps w m None = keeps_same w.streams
posted_keeps w m (Some route) = keeps_same w.streams

sent_keeps : (s : Setting) (node : ℕ) (w : WorldState) (q : Queued) → KeepsSides w.streams (having_sent s node w q).streams
sent_keeps s node w (datagram link to m) = posted_keeps w m (route_of s (member_of w node) link to)
sent_keeps s node w (dial stream to) = change_keeps w.streams (end_of node stream) (with_number (w.dials + 1)) (number_leaves (w.dials + 1))
sent_keeps s node w (send stream m) = change_keeps w.streams (end_of node stream) (with_sent m) (sent_leaves m)

all_sent_keep : (s : Setting) (node : ℕ) (qs : List Queued) (w : WorldState) → KeepsSides w.streams (fold (having_sent s node) w qs).streams
all_sent_keep s node [] w = keeps_same w.streams
all_sent_keep s node (q ∷ qs) w =
    keeps_then w.streams (having_sent s node w q).streams (fold (having_sent s node) (having_sent s node w q) qs).streams (sent_keeps s node w q)
    (all_sent_keep s node qs (having_sent s node w q))

all_closed_keep : (node : ℕ) (streams : List ℕ) (w : WorldState) → KeepsSides w.streams (fold (having_closed node) w streams).streams
all_closed_keep node [] w = keeps_same w.streams
all_closed_keep node (stream ∷ streams) w =
    keeps_then w.streams (having_closed node w stream).streams (fold (having_closed node) (having_closed node w stream) streams).streams
    (change_keeps w.streams (end_of node stream) with_ended ended_leaves) (all_closed_keep node streams (having_closed node w stream))

handed_keeps : (s : Setting) (w : WorldState) (node : ℕ) (qs : List Queued) (streams : List ℕ) → KeepsSides w.streams (handed_over s w node qs streams).streams
unfolding handed_over
handed_keeps s w node qs streams =
    keeps_then w.streams (fold (having_sent s node) w qs).streams (fold (having_closed node) (fold (having_sent s node) w qs) streams).streams (all_sent_keep s node qs w)
    (all_closed_keep node streams (fold (having_sent s node) w qs))

drained_by_keeps : (s : Setting) (w : WorldState) (node max : ℕ) (o : Option Seat) → KeepsSides w.streams (drained_at s w node max o).streams
drained_by_keeps s w node max None = keeps_same w.streams
drained_by_keeps s w node max (Some seat) = from (begin seat.core seat.core.reading) where
  from : (m : NodeState) → KeepsSides w.streams (drained_from s w node seat m max).streams
  from m = handed_keeps s (with_seat w node (seat_with (after_drain m max) seat.agent)) node (take max m.queue) (closes m max)

pub drained_keeps : (s : Setting) (w : WorldState) (node max : ℕ) → KeepsSides w.streams (drained s w node max).streams
unfolding drained
drained_keeps s w node max = drained_by_keeps s w node max (seat_at w node)
