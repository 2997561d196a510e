-- What the events of a network share: another seat of the code, networks in which nothing was sent, and a step with what it makes.
use Rattle.std.proofs.Common.{◌≡◌, ◌≤◌, sym, ap, ◌∙◌, subst, ℕ, ◌-◌, nat_lt, Some, List, length, slice_get, slice_set}
use Rattle.std.specs.Vec.{with_item}
use Rattle.std.proofs.lemmas.List.{length-set}
use Rattle.grasp_model_node.specs.Node.{NodeState}
use Rattle.grasp_agent.specs.States.{AgentState}
use Rattle.grasp_model_network.specs.Events.{visit_of, after_event}
use Rattle.grasp_model_network.specs.Runs.{IsReached}
use Rattle.grasp_model_network.specs.Sending.{gained, seat_with, stepped}
use Rattle.grasp_model_network.specs.Setting.{Setting}
use Rattle.grasp_model_network.specs.Streams.{StreamState, StreamEnd, count_at_end}
use Rattle.grasp_model_network.specs.Visits.{Visit, Choice, MayCome}
use Rattle.grasp_model_network.specs.World.{Offered, Seat, WorldState, seat_at, with_seat, most_bytes}
use Rattle.grasp_model_network.specs.declared.event.Event.{Event}
use Rattle.grasp_laws_network.proofs.Going.{not_too_much, reached_more}
use Rattle.grasp_laws_network.proofs.Staying.{put_here}
use Rattle.grasp_laws_delivery.specs.Ready.{Every, StreamsAreReady}
use Rattle.grasp_simulator.specs.Marking.{begins_as, WasDialled}
use Rattle.grasp_simulator.specs.Seats.{SeatStands, SeatsStand}
use Rattle.grasp_simulator.specs.StreamsStand.{StreamsStand}
use Rattle.grasp_simulator.specs.WorldStands.{WorldKeeps}
use Rattle.grasp_simulator.specs.WorldSteps.{MayRun}
use Rattle.grasp_simulator.specs.declared.seat.Seat.{Seat as SeatCode}
use Rattle.grasp_simulator.specs.declared.streams.Streams.{Streams}
use Rattle.grasp_simulator.specs.declared.world.World.{World}
use Rattle.grasp_simulator.proofs.Nears.{still_made, marks_known}
use Rattle.grasp_simulator.proofs.Presence.{seats_put}
use Rattle.grasp_simulator.proofs.StreamMakes.{GoodEnds, made_stands}

-- events lead to a network after an event that sends nothing
pub quiet_reached : (s : Setting) (w : WorldState) (e : Event) (c : Choice) (code : World) → MayRun code s w e → MayCome (visit_of s w e) c → (after_event s w e c).byte_count ≡ w.byte_count → IsReached s (after_event s w e c)
quiet_reached s w e c code may comes same =
    reached_more s w e c may.goes.reached (record { fit = may.fit; comes = comes; enough = ap (λ (n : ℕ). nat_lt most_bytes n) same ∙ not_too_much s w may.goes.reached })

-- ---- another seat

module _ (old : World) (s : Setting) (w : WorldState) (keeps : WorldKeeps old s w) (life i : ℕ) (own changed : SeatCode) (got : slice_get old.seats.items i ≡ Some own) (still : changed.life ≡ own.life)
    (is : life ≡ own.life) (new : Seat) (stands : SeatStands changed new) where
  seats_then : SeatsStand (slice_set old.seats.items i changed) (slice_set w.seats (life - 1) new) w.lives
  seats_then =
      subst (λ (n : ℕ). SeatsStand (slice_set old.seats.items i changed) (slice_set w.seats (n - 1) new) w.lives) (sym is)
      (seats_put old.seats.items w keeps.seats i own changed got still new stands)

  -- the code keeps the network in which one life stands so, and what is offered is perhaps another
  pub seat_keeps : (offers : List Offered) → WorldKeeps (record old { seats = with_item old.seats i changed }) s (record (with_seat w life new) { offers = offers })
  seat_keeps offers = record {
    good = keeps.good;
    setting = keeps.setting;
    count = length-set old.seats.items i changed ∙ keeps.count;
    seats = seats_then;
    lives = keeps.lives;
    streams = keeps.streams;
    marks = keeps.marks;
    parcels = keeps.parcels;
    receivers = keeps.receivers;
    places = keeps.places;
    sent = keeps.sent;
    goes = keeps.goes;
  }

  -- the code's table stands for the streams after a step of a node, where events lead to a network with these
  made_keeps : (law : StreamsAreReady) (x : WorldState) (v : Visit) (core : NodeState) (agent : AgentState) → IsReached s x → x.streams ≡ (stepped w v core agent).streams
      → StreamsStand old.streams (begins_as w.lives old.marks old.plan.nodes) (stepped w v core agent).streams w.dials
  unfolding stepped
  made_keeps law x v core agent reached same =
      made_stands old.streams.list.items old.streams.near.entries (begins_as w.lives old.marks old.plan.nodes) v.node w.dials s (length x.seats) x.dials (gained v.seat.core core) w.streams
      (λ e. subst (λ (ts : List StreamState). count_at_end ts e ≤ 1) same (law.apart s x reached e))
      (subst (Every (GoodEnds s (length x.seats) x.dials)) same (law.ends s x reached)) (marks_known w.lives old.marks old.plan.nodes w.streams keeps.marks) keeps.streams

  -- the code keeps the network after a step of a node, with what the step makes
  pub stepped_keeps : (law : StreamsAreReady) (x : WorldState) (v : Visit) (core : NodeState) (agent : AgentState) → v.node ≡ life → new ≡ seat_with core agent → IsReached s x
      → x.streams ≡ (stepped w v core agent).streams → WorldKeeps (record old { seats = with_item old.seats i changed }) s (stepped w v core agent)
  unfolding stepped
  stepped_keeps law x v core agent at so reached same = record {
    good = keeps.good;
    setting = keeps.setting;
    count = length-set old.seats.items i changed ∙ keeps.count;
    seats = subst (λ (z : Seat). SeatsStand (slice_set old.seats.items i changed) (slice_set w.seats (v.node - 1) z) w.lives) so
        (subst (λ (n : ℕ). SeatsStand (slice_set old.seats.items i changed) (slice_set w.seats (n - 1) new) w.lives) (sym at) seats_then);
    lives = keeps.lives;
    streams = made_keeps law x v core agent reached same;
    marks = λ e even below. still_made v.node (gained v.seat.core core) w.streams e (keeps.marks e even below);
    parcels = keeps.parcels;
    receivers = keeps.receivers;
    places = keeps.places;
    sent = keeps.sent;
    goes = keeps.goes;
  }

-- ---- the node afterwards

-- the life of a step has stepped
pub stepped_here : (w : WorldState) (v : Visit) (core : NodeState) (agent : AgentState) → seat_at w v.node ≡ Some v.seat → seat_at (stepped w v core agent) v.node ≡ Some (seat_with core agent)
unfolding stepped
stepped_here w v core agent here = put_here w.seats v.node v.seat (seat_with core agent) here

-- ---- other streams

pub with_streams : (code : World) (s : Setting) (w : WorldState) (streams : Streams) (ts : List StreamState) (dials : ℕ) → WorldKeeps code s w
    → ((e : StreamEnd) → WasDialled w.streams e → WasDialled ts e) → StreamsStand streams (begins_as w.lives code.marks code.plan.nodes) ts dials
    → WorldKeeps (record code { streams = streams }) s (record w { streams = ts; dials = dials })
with_streams code s w streams ts dials keeps dialled stands = record {
  good = keeps.good;
  setting = keeps.setting;
  count = keeps.count;
  seats = keeps.seats;
  lives = keeps.lives;
  streams = stands;
  marks = λ e even below. dialled e (keeps.marks e even below);
  parcels = keeps.parcels;
  receivers = keeps.receivers;
  places = keeps.places;
  sent = keeps.sent;
  goes = keeps.goes;
}
