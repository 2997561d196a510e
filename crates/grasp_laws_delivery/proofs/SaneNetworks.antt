-- In every network that turns lead to, a side that isn't there said nothing, and no more is delivered than was sent.
use Rattle.std.proofs.Common.{◌≡◌, refl, sym, subst, ℕ, ◌+◌, false, List, [], ◌∷◌, fold, map, take, Option, None, Some}
use Rattle.std.proofs.lemmas.Option.{none-some}
use Rattle.grasp_model_node.specs.Begin.{begin}
use Rattle.grasp_model_node.specs.Draining.{closes, after_drain}
use Rattle.grasp_model_node.specs.Node.{NodeState}
use Rattle.grasp_model_node.specs.Queue.{Queued, datagram, dial, send}
use Rattle.grasp_types.specs.declared.reply.Reply.{Reply}
use Rattle.grasp_types.specs.declared.reply.Reply.TheVariants as reply
use Rattle.grasp_laws_network.proofs.Telling.{one_agent}
use Rattle.grasp_laws_network.specs.Telling.{OneAgent}
use Rattle.grasp_model_network.specs.StreamChanges.{arrival_by, arrived, told, Reached, reached_side, side_named, delivered}
use Rattle.grasp_model_network.specs.Events.{after_visit}
use Rattle.grasp_model_network.specs.Restarting.{told_at}
use Rattle.grasp_model_network.specs.Routes.{route_of}
use Rattle.grasp_model_network.specs.Runs.{IsReached, first_world}
use Rattle.grasp_model_network.specs.Sending.{gained, having_made, streams_made, seat_with, having_sent, having_closed, handed_over, drained, drained_at, drained_from}
use Rattle.grasp_model_network.specs.Setting.{Setting}
use Rattle.grasp_model_network.specs.Streams.{StreamState, told_closed, is_waiting, fresh_stream, with_said, with_sent, with_ended, with_number, with_delivered, with_side, with_far, stream_numbered}
use Rattle.grasp_model_network.specs.Visits.{Visit, Choice}
use Rattle.grasp_model_network.specs.World.{Seat, WorldState, present_life, member_of, seat_at, with_seat, end_of}
use Rattle.grasp_model_network.specs.declared.event.Event.{Event}
use Rattle.grasp_model_network.specs.declared.event.Event.TheVariants as event
use Rattle.grasp_laws_delivery.proofs.AfterSteps.{posted_each, streams_before, streams_stepped}
use Rattle.grasp_laws_delivery.proofs.Holding.{IsStep, PartsKeep, parts_keep}
use Rattle.grasp_laws_delivery.proofs.Sane.{IsSane, said_sane, sent_sane, ended_sane, numbered_sane, delivered_sane, shut_sane, told_sane, opened_sane, dialled_sane}
use Rattle.grasp_laws_delivery.proofs.Sides.{each_mapped, each_changed, each_push}
use Rattle.grasp_laws_delivery.proofs.Turned.{told_by}
use Rattle.grasp_laws_delivery.specs.Saying.{OfEachStream}

abbrev pub AreSane : List StreamState → Type 0
AreSane ts = OfEachStream IsSane ts

-- ---- a step

made_sane : (node : ℕ) (qs : List Queued) (ts : List StreamState) → AreSane ts → AreSane (fold (having_made node) ts qs)
made_sane node [] ts each = each
made_sane node (datagram link to m ∷ qs) ts each = made_sane node qs ts each
made_sane node (dial stream to ∷ qs) ts each =
    made_sane node qs (having_made node ts (dial stream to)) (each_push IsSane ts (fresh_stream (end_of node stream) to) (dialled_sane (end_of node stream) to) each)
made_sane node (send stream m ∷ qs) ts each =
    made_sane node qs (having_made node ts (send stream m)) (each_changed IsSane IsSane ts (end_of node stream) (with_said m) (said_sane (end_of node stream) m) each)

gone : (r : Reply) → is_waiting (arrival_by r) ≡ false
gone reply.Turned = refl
gone _ = refl

arrived_sane : (w : WorldState) (v : Visit) (number : ℕ) (r : Reply) (o : Option StreamState) → AreSane w.streams → AreSane (arrived w v number r o).streams
arrived_sane w v number r None each = each
arrived_sane w v number r (Some t) each =
    each_changed IsSane IsSane w.streams t.near (with_far (end_of v.node number) (arrival_by r)) (λ u k. opened_sane t.near (end_of v.node number) (arrival_by r) u (gone r) k) each

delivered_all_sane : (w : WorldState) (count : ℕ) (o : Option Reached) → AreSane w.streams → AreSane (delivered w count o).streams
delivered_all_sane w count None each = each
delivered_all_sane w count (Some x) each = each_changed IsSane IsSane w.streams x.at (with_delivered count) (delivered_sane x.at count) each

told_all_sane : (w : WorldState) (o : Option Reached) → AreSane w.streams → AreSane (told w o).streams
told_all_sane w None each = each
told_all_sane w (Some x) each = each_changed IsSane IsSane w.streams x.at (with_side told_closed) (told_sane x.at) each

before_sane : (s : Setting) (w : WorldState) (e : Event) (v : Visit) (c : Choice) → AreSane w.streams → AreSane (streams_before s w e v c)
before_sane s w (event.Arrive stream hold) v c each = arrived_sane w v (s.arrives_as v.node stream) c.reply (stream_numbered w.streams stream) each
before_sane s w (event.Bytes stream far count hold) v c each = delivered_all_sane w count (reached_side w stream (side_named far)) each
before_sane s w (event.Cut stream far hold) v c each = told_all_sane w (reached_side w stream (side_named far)) each
before_sane s w _ v c each = each

step_sane : (s : Setting) (w : WorldState) (e : Event) (v : Visit) (c : Choice) → IsStep e → AreSane w.streams → AreSane (after_visit s w e v c).streams
unfolding streams_made
step_sane s w e v c is each = subst AreSane (sym (streams_stepped s w e v c is)) (made_sane v.node (gained v.seat.core c.after) (streams_before s w e v c) (before_sane s w e v c each))

-- ---- a drain

handed_sane : (s : Setting) (node : ℕ) (qs : List Queued) (w : WorldState) → AreSane w.streams → AreSane (fold (having_sent s node) w qs).streams
handed_sane s node [] w each = each
handed_sane s node (datagram link to m ∷ qs) w each = handed_sane s node qs (having_sent s node w (datagram link to m)) (posted_each IsSane w m (route_of s (member_of w node) link to) each)
handed_sane s node (dial stream to ∷ qs) w each =
    handed_sane s node qs (having_sent s node w (dial stream to))
    (each_changed IsSane IsSane w.streams (end_of node stream) (with_number (w.dials + 1)) (numbered_sane (end_of node stream) (w.dials + 1)) each)
handed_sane s node (send stream m ∷ qs) w each =
    handed_sane s node qs (having_sent s node w (send stream m)) (each_changed IsSane IsSane w.streams (end_of node stream) (with_sent m) (sent_sane (end_of node stream) m) each)

closed_sane : (node : ℕ) (streams : List ℕ) (w : WorldState) → AreSane w.streams → AreSane (fold (having_closed node) w streams).streams
closed_sane node [] w each = each
closed_sane node (stream ∷ streams) w each =
    closed_sane node streams (having_closed node w stream) (each_changed IsSane IsSane w.streams (end_of node stream) with_ended (ended_sane (end_of node stream)) each)

drained_sane : (s : Setting) (w : WorldState) (node max : ℕ) (o : Option Seat) → AreSane w.streams → AreSane (drained_at s w node max o).streams
unfolding handed_over
drained_sane s w node max None each = each
drained_sane s w node max (Some seat) each = from (begin seat.core seat.core.reading) where
  from : (m : NodeState) → AreSane (drained_from s w node seat m max).streams
  from m =
      closed_sane node (closes m max) (fold (having_sent s node) (with_seat w node (seat_with (after_drain m max) seat.agent)) (take max m.queue))
      (handed_sane s node (take max m.queue) (with_seat w node (seat_with (after_drain m max) seat.agent)) each)

-- ---- every turn

one_sane : (w x : WorldState) → OneAgent w x → AreSane w.streams → AreSane x.streams
one_sane w x o each = subst (λ (y : WorldState). AreSane y.streams) (sym o.after) each

restart_sane : (s : Setting) (node life : ℕ) (ts : List StreamState) → AreSane ts → AreSane (map (told_at s node life) ts)
restart_sane s node life ts each = each_mapped IsSane IsSane (told_at s node life) ts (told_by IsSane shut_sane s node life) each

sane_parts : (s : Setting) → PartsKeep s (λ w. AreSane w.streams)
unfolding drained
sane_parts s = record {
  steps = λ w e c v r each o is step reached. step_sane s w e v c step each;
  told = λ w x e r t each. one_sane w x (one_agent s w e x t) each;
  drains = λ w node max r each least. drained_sane s w node max (seat_at w node) each;
  settles = λ w x node p r t each. one_sane w x t.one each;
  restarts = λ w x node image r t each. subst AreSane (sym t.streams) (restart_sane s node (present_life w node) w.streams each);
}

pub sane : (s : Setting) (w : WorldState) → IsReached s w → AreSane w.streams
unfolding first_world
sane s w r = parts_keep s (λ x. AreSane x.streams) (sane_parts s) (λ place t found. absurd (none-some t found)) w r
