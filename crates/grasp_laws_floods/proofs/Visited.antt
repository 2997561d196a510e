-- What an event's step is given.
use Rattle.std.proofs.Common.{◌≡◌, refl, sym, ap, subst, ℕ, Bool, true, false, cond, Option, Some, None}
use Rattle.std.proofs.lemmas.Option.{none-some, same_Some as some_same}
use Rattle.grasp_model_node.specs.Queue.{encoding}
use Rattle.grasp_model_network.proofs.Facts.{agent_given}
use Rattle.grasp_model_network.specs.EventSteps.{agent_visit, agent_input, arrival_visit, opened_stream, opened_at, clock_seat, cut_visit, cut_at, datagram_visit, datagram_at, piece_visit, piece_at}
use Rattle.grasp_model_network.specs.Events.{visit_of}
use Rattle.grasp_model_network.specs.StreamChanges.{Reached, reached_side, side_named}
use Rattle.grasp_model_network.specs.Setting.{Setting, numbered, member_at}
use Rattle.grasp_model_network.specs.Streams.{StreamState, is_waiting, stream_numbered}
use Rattle.grasp_model_network.specs.Visits.{Visit, visit, visit_seat}
use Rattle.grasp_model_network.specs.World.{Seat, SentDatagram, WorldState, present_life, seat_at}
use Rattle.grasp_model_network.specs.declared.event.Event.{Event}
use Rattle.grasp_model_network.specs.declared.event.Event.TheVariants as event
use Rattle.grasp_session.specs.Messages.{Side}
use Rattle.grasp_types.specs.declared.traffic.Input.{Input}
use Rattle.grasp_types.specs.declared.traffic.Input.TheVariants as input

-- an input that brings no message to neighbours
abbrev pub IsQuiet : Input → Type 0
IsQuiet (input.Api asa it) = ⊥
IsQuiet (input.Datagram link from bytes) = ⊥
IsQuiet _ = Unit {0}

-- the input is the encoding of a datagram that was sent
pub record IsSent (w : WorldState) (index : ℕ) (i : Input) : Type 0 where
  pub sent : SentDatagram
  pub found : numbered w.datagrams index ≡ Some sent
  pub is : i ≡ input.Datagram sent.route.link sent.route.from (encoding sent.message)

-- what the step of each event is given
abbrev pub GivenBy : WorldState → Event → Visit → Type 0
GivenBy w (event.Agent node hold) v = v.input ≡ agent_input v.seat.agent
GivenBy w (event.Api node asa call hold) v = v.input ≡ input.Api asa call
GivenBy w (event.Datagram index hold) v = IsSent w index v.input
GivenBy w _ v = IsQuiet v.input

-- ---- the visit of a seat

seated_input : (node : ℕ) (i : Input) (v : Visit) (o : Option Seat) → visit_seat node i o ≡ Some v → v.input ≡ i
seated_input node i v None is = absurd (none-some v is)
seated_input node i v (Some seat) is = sym (ap (λ (x : Visit). x.input) (some_same (record { node = node; seat = seat; now = seat.core.reading; input = i }) v is))

visit_input : (w : WorldState) (node : ℕ) (i : Input) (v : Visit) → visit w node i ≡ Some v → v.input ≡ i
visit_input w node i v is = seated_input node i v (seat_at w node) is

quiet_is : (i j : Input) → i ≡ j → IsQuiet j → IsQuiet i
quiet_is i j e q = subst IsQuiet (sym e) q

-- ---- each kind of event

clock_quiet : (node millis : ℕ) (v : Visit) (o : Option Seat) → clock_seat node millis o ≡ Some v → IsQuiet v.input
clock_quiet node millis v None is = absurd (none-some v is)
clock_quiet node millis v (Some seat) is =
    quiet_is v.input (input.Drain 0) (sym (ap (λ (x : Visit). x.input) (some_same (record { node = node; seat = seat; now = millis; input = input.Drain 0 }) v is))) tt

datagram_given : (w : WorldState) (index : ℕ) (v : Visit) (o : Option SentDatagram) → numbered w.datagrams index ≡ o → datagram_at w o ≡ Some v → IsSent w index v.input
datagram_given w index v None e is = absurd (none-some v is)
datagram_given w index v (Some d) e is = record {
  sent = d;
  found = e;
  is = visit_input w (present_life w d.route.receiver) (input.Datagram d.route.link d.route.from (encoding d.message)) v is;
}

opened_quiet : (s : Setting) (w : WorldState) (k : ℕ) (v : Visit) (to : Option ℕ) (near : Option Seat) → opened_at s w k to near ≡ Some v → IsQuiet v.input
opened_quiet s w k v None near is = absurd (none-some v is)
opened_quiet s w k v (Some node) None is = absurd (none-some v is)
opened_quiet s w k v (Some node) (Some near) is =
    quiet_is v.input (input.Opened (s.arrives_as (present_life w node) k) (s.arrives_from k near.core.plan.address))
    (visit_input w (present_life w node) (input.Opened (s.arrives_as (present_life w node) k) (s.arrives_from k near.core.plan.address)) v is) tt

arrival_quiet : (s : Setting) (w : WorldState) (k : ℕ) (v : Visit) (o : Option StreamState) → opened_stream s w k o ≡ Some v → IsQuiet v.input
arrival_quiet s w k v None is = absurd (none-some v is)
arrival_quiet s w k v (Some t) is = by_side (is_waiting t.far_side) is where
  by_side : (b : Bool) → cond b (opened_at s w k (member_at s t.to) (seat_at w t.near.node)) None ≡ Some v → IsQuiet v.input
  by_side true e = opened_quiet s w k v (member_at s t.to) (seat_at w t.near.node) e
  by_side false e = absurd (none-some v e)

piece_quiet : (w : WorldState) (side : Side) (count : ℕ) (v : Visit) (o : Option Reached) → piece_at w side count o ≡ Some v → IsQuiet v.input
piece_quiet w side count v None is = absurd (none-some v is)
piece_quiet w side count v (Some x) is = quiet_is v.input _ (visit_input w x.at.node _ v is) tt

cut_quiet : (w : WorldState) (v : Visit) (o : Option Reached) → cut_at w o ≡ Some v → IsQuiet v.input
cut_quiet w v None is = absurd (none-some v is)
cut_quiet w v (Some x) is = quiet_is v.input (input.Closed x.at.number) (visit_input w x.at.node (input.Closed x.at.number) v is) tt

-- ---- every event

pub given_by : (s : Setting) (w : WorldState) (e : Event) (v : Visit) → visit_of s w e ≡ Some v → GivenBy w e v
unfolding agent_visit datagram_visit arrival_visit piece_visit cut_visit
given_by s w (event.Clock node millis) v is = clock_quiet (present_life w node) millis v (seat_at w (present_life w node)) is
given_by s w (event.Want node length longest peer) v is = absurd (none-some v is)
given_by s w (event.Return node prefix peer) v is = absurd (none-some v is)
given_by s w (event.Agent node hold) v is = agent_given (present_life w node) v (seat_at w (present_life w node)) is
given_by s w (event.Api node asa call hold) v is = visit_input w (present_life w node) (input.Api asa call) v is
given_by s w (event.Datagram index hold) v is = datagram_given w index v (numbered w.datagrams index) refl is
given_by s w (event.Arrive stream hold) v is = arrival_quiet s w stream v (stream_numbered w.streams stream) is
given_by s w (event.Bytes stream far count hold) v is = piece_quiet w (side_named far) count v (reached_side w stream (side_named far)) is
given_by s w (event.Cut stream far hold) v is = cut_quiet w v (reached_side w stream (side_named far)) is
given_by s w (event.Drain node max) v is = visit_drains w (present_life w node) max v is where
  visit_drains : (w : WorldState) (node max : ℕ) (v : Visit) → visit w node (input.Drain max) ≡ Some v → IsQuiet v.input
  visit_drains w node max v e = quiet_is v.input (input.Drain max) (visit_input w node (input.Drain max) v e) tt
