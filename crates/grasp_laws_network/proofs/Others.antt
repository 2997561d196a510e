-- An event changes no node but the one that makes its step, and there are as many nodes as before.
use Rattle.std.proofs.Common.{◌≡◌, ◌≢◌, refl, sym, ap, ◌∙◌, subst, arith, ℕ, zero, suc, ◌+◌, ◌-◌, ◌≤◌, ◌==◌, Bool, true, false, List, ◌∷◌, length, slice_get, slice_set, take, Option, Some, None}
use Rattle.std.proofs.lemmas.List.{length-set}
use Rattle.grasp_agent.specs.Replies.{after_reply}
use Rattle.grasp_agent.specs.States.{AgentState}
use Rattle.grasp_model_node.specs.Begin.{begin}
use Rattle.grasp_model_node.specs.Draining.{closes, after_drain}
use Rattle.grasp_model_node.specs.Node.{NodeState}
use Rattle.grasp_types.specs.declared.reply.Reply.{Reply}
use Rattle.grasp_laws_network.proofs.Here.{visits_are_here}
use Rattle.grasp_laws_network.proofs.Links.{less_and_more}
use Rattle.grasp_laws_network.proofs.Sent.{sending_keeps_nodes}
use Rattle.grasp_model_network.specs.EventSteps.{after_agent_call, after_agent, after_arrival, after_clock, after_cut, after_delivery, after_piece}
use Rattle.grasp_model_network.specs.StreamChanges.{arrived, told, Reached, reached_side, side_named, delivered}
use Rattle.grasp_model_network.specs.Events.{visit_of, after_visit, after_by, after_event, drains, drained_behind}
use Rattle.grasp_laws_network.specs.Laws.{OthersStay}
use Rattle.grasp_model_network.specs.Notes.{noted}
use Rattle.grasp_model_network.specs.Sending.{seat_with, stepped, drained, drained_at, drained_from, event_drain}
use Rattle.grasp_model_network.specs.Setting.{Setting, numbered}
use Rattle.grasp_model_network.specs.Streams.{StreamState, stream_numbered}
use Rattle.grasp_model_network.specs.Visits.{Visit, Choice}
use Rattle.grasp_model_network.specs.World.{Seat, WorldState, seat_at, with_seat}
use Rattle.grasp_model_network.specs.declared.event.Event.{Event}
use Rattle.grasp_model_network.specs.declared.event.Event.TheVariants as event

-- ---- as many nodes as before, and the same ones at every number but this

pub record SameBut (node : ℕ) (w x : WorldState) : Type 0 where
  pub count : length x.seats ≡ length w.seats
  pub others : (n : ℕ) → n ≢ node → seat_at x n ≡ seat_at w n

-- where the nodes are the same
pub same_seats : (node : ℕ) (w x : WorldState) → x.seats ≡ w.seats → SameBut node w x
same_seats node w x e = record { count = ap length e; others = λ n apart. ap (λ seats. numbered seats n) e }

pub same_then : (node : ℕ) (w x y : WorldState) → SameBut node w x → SameBut node x y → SameBut node w y
same_then node w x y a b = record { count = b.count ∙ a.count; others = λ n apart. b.others n apart ∙ a.others n apart }

pub set_elsewhere : {A : Type 0} (xs : List A) (i j : ℕ) (x : A) → j ≢ i → slice_get (slice_set xs i x) j ≡ slice_get xs j
set_elsewhere (y ∷ ys) zero zero x apart = absurd (apart refl)
set_elsewhere (y ∷ ys) (suc i) (suc j) x apart = set_elsewhere ys i j x (λ e. apart (ap suc e))
set_elsewhere _ _ _ x apart = refl

pub put_elsewhere : (seats : List Seat) (node n : ℕ) (seat : Seat) → 1 ≤ node → n ≢ node → numbered (slice_set seats (node - 1) seat) n ≡ numbered seats n
put_elsewhere seats node n seat least apart = by_first (n == 0) refl where
  by_first : (b : Bool) → (n == 0) ≡ b → numbered (slice_set seats (node - 1) seat) n ≡ numbered seats n
  by_first true is = rw is refl
  by_first false is =
      rw is
      (set_elsewhere seats (node - 1) (n - 1) seat (λ e. apart (let a : (n - 1) + 1 ≡ n = less_and_more n is in let b : n - 1 ≡ node - 1 = e in let c : 1 ≤ node = least in omega arith)))

-- where one node was put
pub put_same : (node : ℕ) (w x : WorldState) (seat : Seat) → 1 ≤ node → x.seats ≡ slice_set w.seats (node - 1) seat → SameBut node w x
put_same node w x seat least e = record {
  count = ap length e ∙ length-set w.seats (node - 1) seat;
  others = λ n apart. ap (λ seats. numbered seats n) e ∙ put_elsewhere w.seats node n seat least apart;
}

-- ---- a drain

pub drained_by : (s : Setting) (w : WorldState) (node max : ℕ) (o : Option Seat) → 1 ≤ node → SameBut node w (drained_at s w node max o)
drained_by s w node max None least = same_seats node w w refl
drained_by s w node max (Some seat) least = from (begin seat.core seat.core.reading) where
  from : (m : NodeState) → SameBut node w (drained_from s w node seat m max)
  from m =
      put_same node w (drained_from s w node seat m max) (seat_with (after_drain m max) seat.agent) least
      (sending_keeps_nodes s (with_seat w node (seat_with (after_drain m max) seat.agent)) node (take max m.queue) (closes m max))

pub drained_same : (s : Setting) (w : WorldState) (node max : ℕ) → 1 ≤ node → SameBut node w (drained s w node max)
unfolding drained
drained_same s w node max least = drained_by s w node max (seat_at w node) least

-- ---- a step

pub arrived_keeps : (w : WorldState) (v : Visit) (number : ℕ) (r : Reply) (o : Option StreamState) → (arrived w v number r o).seats ≡ w.seats
arrived_keeps w v number r None = refl
arrived_keeps w v number r (Some t) = refl

pub delivered_keeps : (w : WorldState) (count : ℕ) (o : Option Reached) → (delivered w count o).seats ≡ w.seats
delivered_keeps w count None = refl
delivered_keeps w count (Some x) = refl

pub told_keeps : (w : WorldState) (o : Option Reached) → (told w o).seats ≡ w.seats
told_keeps w None = refl
told_keeps w (Some x) = refl

pub stepped_same : (w x : WorldState) (v : Visit) (core : NodeState) (agent : AgentState) → 1 ≤ v.node → x.seats ≡ w.seats → SameBut v.node w (stepped x v core agent)
unfolding stepped
stepped_same w x v core agent least e = put_same v.node w (stepped x v core agent) (seat_with core agent) least (ap (λ seats. slice_set seats (v.node - 1) (seat_with core agent)) e)

pub noted_same : (w : WorldState) (v : Visit) (c : Choice) (agent : AgentState) → 1 ≤ v.node → SameBut v.node w (stepped w v c.after agent)
noted_same w v c agent least = stepped_same w w v c.after agent least refl

-- a network with the same nodes
pub also : (node : ℕ) (w x y : WorldState) → y.seats ≡ x.seats → SameBut node w x → SameBut node w y
also node w x y e a = same_then node w x y a (same_seats node x y e)

pub visit_same : (s : Setting) (w : WorldState) (e : Event) (v : Visit) (c : Choice) → 1 ≤ v.node → SameBut v.node w (after_visit s w e v c)
unfolding after_clock after_agent after_agent_call after_delivery after_arrival after_piece after_cut noted
visit_same s w (event.Clock node millis) v c least = noted_same w v c v.seat.agent least
visit_same s w (event.Want node length longest peer) v c least = same_seats v.node w w refl
visit_same s w (event.Return node prefix peer) v c least = same_seats v.node w w refl
visit_same s w (event.Agent node hold) v c least =
    also v.node w (stepped w v c.after (after_reply v.seat.agent c.reply)) (after_agent w v c) refl (noted_same w v c (after_reply v.seat.agent c.reply) least)
visit_same s w (event.Api node asa call hold) v c least =
    also v.node w (stepped w v c.after v.seat.agent) (after_agent_call w v asa call c) refl (noted_same w v c v.seat.agent least)
visit_same s w (event.Datagram index hold) v c least =
    also v.node w (stepped w v c.after v.seat.agent) (after_delivery w v index c) refl (noted_same w v c v.seat.agent least)
visit_same s w (event.Arrive stream hold) v c least =
    stepped_same w (arrived w v (s.arrives_as v.node stream) c.reply (stream_numbered w.streams stream)) v c.after v.seat.agent least
    (arrived_keeps w v (s.arrives_as v.node stream) c.reply (stream_numbered w.streams stream))
visit_same s w (event.Bytes stream far count hold) v c least =
    stepped_same w (delivered w count (reached_side w stream (side_named far))) v c.after v.seat.agent least
    (delivered_keeps w count (reached_side w stream (side_named far)))
visit_same s w (event.Cut stream far hold) v c least =
    stepped_same w (told w (reached_side w stream (side_named far))) v c.after v.seat.agent least
    (told_keeps w (reached_side w stream (side_named far)))
visit_same s w (event.Drain node max) v c least = drained_same s w v.node max least

pub behind_same : (b : Bool) (s : Setting) (w : WorldState) (node : ℕ) → 1 ≤ node → SameBut node w (drained_behind b s w node)
behind_same true s w node least = drained_same s w node event_drain least
behind_same false s w node least = same_seats node w w refl

pub event_same : (s : Setting) (w : WorldState) (e : Event) (c : Choice) (v : Visit) → visit_of s w e ≡ Some v → SameBut v.node w (after_event s w e c)
unfolding after_event
event_same s w e c v is = at_node (visits_are_here s w e v is).member.least where
  at_node : 1 ≤ v.node → SameBut v.node w (after_event s w e c)
  at_node least =
      subst (λ o. SameBut v.node w (after_by s w e c o)) (sym is)
      (same_then v.node w (after_visit s w e v c) (drained_behind (drains e) s (after_visit s w e v c) v.node)
      (visit_same s w e v c least) (behind_same (drains e) s (after_visit s w e v c) v.node least))

pub others_stay : OthersStay
others_stay s w e c v n is apart = (event_same s w e c v is).others n apart
