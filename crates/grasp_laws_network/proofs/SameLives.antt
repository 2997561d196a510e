-- No event begins a life: whose each of them is stays as it was.
use Rattle.std.proofs.Common.{◌≡◌, refl, ap, ◌∙◌, ℕ, Bool, true, false, List, [], ◌∷◌, fold, Option, Some, None}
use Rattle.grasp_model_node.specs.Queue.{Queued, datagram}
use Rattle.grasp_types.specs.declared.message.Message.{Message}
use Rattle.grasp_types.specs.declared.reply.Reply.{Reply}
use Rattle.grasp_laws_network.proofs.Telling.{none_one}
use Rattle.grasp_laws_network.specs.Telling.{OneAgent}
use Rattle.grasp_model_network.specs.EventSteps.{after_agent_call, after_agent, after_arrival, after_clock, after_cut, after_delivery, after_piece}
use Rattle.grasp_model_network.specs.Events.{visit_of, after_visit, after_none, after_by, after_event, drains, drained_behind}
use Rattle.grasp_model_network.specs.Notes.{noted}
use Rattle.grasp_model_network.specs.Routes.{Route, route_of}
use Rattle.grasp_model_network.specs.Runs.{Happening, world_after}
use Rattle.grasp_model_network.specs.Sending.{posted, having_sent, having_closed, handed_over, stepped, drained, drained_at, event_drain}
use Rattle.grasp_model_network.specs.Setting.{Setting}
use Rattle.grasp_model_network.specs.StreamChanges.{Reached, arrived, delivered, reached_side, side_named, told}
use Rattle.grasp_model_network.specs.Streams.{StreamState, stream_numbered}
use Rattle.grasp_model_network.specs.Visits.{Visit, Choice}
use Rattle.grasp_model_network.specs.World.{Seat, WorldState, member_of, seat_at}
use Rattle.grasp_model_network.specs.declared.event.Event.{Event}
use Rattle.grasp_model_network.specs.declared.event.Event.TheVariants as event

-- ---- what is sent

pub posted_lives : (w : WorldState) (m : Message) (route : Option Route) → (posted w m route).lives ≡ w.lives
posted_lives w m None = refl
posted_lives w m (Some route) = refl

pub sent_lives : (s : Setting) (node : ℕ) (w : WorldState) (q : Queued) → (having_sent s node w q).lives ≡ w.lives
sent_lives s node w (datagram link to m) = posted_lives w m (route_of s (member_of w node) link to)
sent_lives s node w _ = refl

all_sent_lives : (s : Setting) (node : ℕ) (qs : List Queued) (w : WorldState) → (fold (having_sent s node) w qs).lives ≡ w.lives
all_sent_lives s node [] w = refl
all_sent_lives s node (q ∷ qs) w = all_sent_lives s node qs (having_sent s node w q) ∙ sent_lives s node w q

all_closed_lives : (node : ℕ) (streams : List ℕ) (w : WorldState) → (fold (having_closed node) w streams).lives ≡ w.lives
all_closed_lives node [] w = refl
all_closed_lives node (stream ∷ streams) w = all_closed_lives node streams (having_closed node w stream)

pub handed_lives : (s : Setting) (w : WorldState) (node : ℕ) (queued : List Queued) (streams : List ℕ) → (handed_over s w node queued streams).lives ≡ w.lives
unfolding handed_over
handed_lives s w node queued streams = all_closed_lives node streams (fold (having_sent s node) w queued) ∙ all_sent_lives s node queued w

drained_by_lives : (s : Setting) (w : WorldState) (node max : ℕ) (o : Option Seat) → (drained_at s w node max o).lives ≡ w.lives
drained_by_lives s w node max None = refl
drained_by_lives s w node max (Some seat) = handed_lives s _ node _ _

pub drained_lives : (s : Setting) (w : WorldState) (node max : ℕ) → (drained s w node max).lives ≡ w.lives
unfolding drained
drained_lives s w node max = drained_by_lives s w node max (seat_at w node)

pub behind_lives : (b : Bool) (s : Setting) (w : WorldState) (node : ℕ) → (drained_behind b s w node).lives ≡ w.lives
behind_lives true s w node = drained_lives s w node event_drain
behind_lives false s w node = refl

-- ---- a step

pub arrived_lives : (w : WorldState) (v : Visit) (number : ℕ) (r : Reply) (o : Option StreamState) → (arrived w v number r o).lives ≡ w.lives
arrived_lives w v number r None = refl
arrived_lives w v number r (Some t) = refl

pub delivered_lives : (w : WorldState) (count : ℕ) (o : Option Reached) → (delivered w count o).lives ≡ w.lives
delivered_lives w count None = refl
delivered_lives w count (Some x) = refl

pub told_lives : (w : WorldState) (o : Option Reached) → (told w o).lives ≡ w.lives
told_lives w None = refl
told_lives w (Some x) = refl

pub visit_lives : (s : Setting) (w : WorldState) (e : Event) (v : Visit) (c : Choice) → (after_visit s w e v c).lives ≡ w.lives
unfolding after_clock after_agent after_agent_call after_delivery after_arrival after_piece after_cut noted stepped
visit_lives s w (event.Clock node millis) v c = refl
visit_lives s w (event.Want node length longest peer) v c = refl
visit_lives s w (event.Return node prefix peer) v c = refl
visit_lives s w (event.Agent node hold) v c = refl
visit_lives s w (event.Api node asa call hold) v c = refl
visit_lives s w (event.Datagram index hold) v c = refl
visit_lives s w (event.Arrive stream hold) v c = arrived_lives w v (s.arrives_as v.node stream) c.reply (stream_numbered w.streams stream)
visit_lives s w (event.Bytes stream far count hold) v c = delivered_lives w count (reached_side w stream (side_named far))
visit_lives s w (event.Cut stream far hold) v c = told_lives w (reached_side w stream (side_named far))
visit_lives s w (event.Drain node max) v c = drained_lives s w v.node max

-- ---- an event

pub one_lives : (w x : WorldState) → OneAgent w x → x.lives ≡ w.lives
one_lives w x o = ap (λ (y : WorldState). y.lives) o.after

pub none_lives : (s : Setting) (w : WorldState) (e : Event) → (after_none s w e).lives ≡ w.lives
none_lives s w e = none_one s w e (λ x. x.lives ≡ w.lives) refl (one_lives w)

by_lives : (s : Setting) (w : WorldState) (e : Event) (c : Choice) (o : Option Visit) → (after_by s w e c o).lives ≡ w.lives
by_lives s w e c None = none_lives s w e
by_lives s w e c (Some v) = behind_lives (drains e) s (after_visit s w e v c) v.node ∙ visit_lives s w e v c

pub event_lives : (s : Setting) (w : WorldState) (e : Event) (c : Choice) → (after_event s w e c).lives ≡ w.lives
unfolding after_event
event_lives s w e c = by_lives s w e c (visit_of s w e)

pub run_lives : (s : Setting) (hs : List Happening) (w : WorldState) → (world_after s w hs).lives ≡ w.lives
unfolding world_after
run_lives s [] w = refl
run_lives s (h ∷ hs) w = run_lives s hs (after_event s w h.event h.choice) ∙ event_lives s w h.event h.choice
