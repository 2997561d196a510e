-- What a step of each kind of event brings to its node.
use Rattle.std.proofs.Common.{◌≡◌, refl, sym, ap, ◌∙◌, subst, ℕ, Bool, true, false, cond, Option, None, Some}
use Rattle.std.proofs.lemmas.Option.{none-some, same_Some}
use Rattle.grasp_model_node.specs.Queue.{encoding}
use Rattle.grasp_session.specs.Messages.{Side, other}
use Rattle.grasp_types.specs.declared.traffic.Input.{Input}
use Rattle.grasp_types.specs.declared.traffic.Input.TheVariants as input
use Rattle.grasp_model_network.specs.EventSteps.{agent_visit, agent_seat, agent_input, arrival_visit, opened_stream, opened_at, clock_seat, cut_visit, cut_at, datagram_visit, datagram_at, piece_visit, piece_at}
use Rattle.grasp_model_network.specs.Events.{visit_of}
use Rattle.grasp_laws_network.specs.Keeping.{TakesNothing}
use Rattle.grasp_model_network.specs.StreamChanges.{Reached, reached_side, side_named}
use Rattle.grasp_model_network.specs.Setting.{Setting, numbered, member_at}
use Rattle.grasp_model_network.specs.Streams.{StreamState, is_waiting, next_bytes, stream_numbered}
use Rattle.grasp_model_network.specs.Visits.{Visit, visit, visit_seat}
use Rattle.grasp_model_network.specs.World.{Seat, SentDatagram, WorldState, present_life, seat_at}
use Rattle.grasp_model_network.specs.declared.event.Event.{Event}
use Rattle.grasp_model_network.specs.declared.event.Event.TheVariants as event
use Rattle.grasp_laws_delivery.proofs.Holding.{IsStep}

-- ---- where a visit is made, and with what

pub record IsVisit (v : Visit) (node : ℕ) (i : Input) : Type 0 where
  pub node_is : v.node ≡ node
  pub input_is : v.input ≡ i

pub seat_visit : (node : ℕ) (i : Input) (v : Visit) (o : Option Seat) → visit_seat node i o ≡ Some v → IsVisit v node i
seat_visit node i v None is = absurd (none-some v is)
seat_visit node i v (Some seat) is = at_seat (same_Some (record { node = node; seat = seat; now = seat.core.reading; input = i }) v is) where
  at_seat : record { node = node; seat = seat; now = seat.core.reading; input = i } ≡ v → IsVisit v node i
  at_seat same = record { node_is = ap (λ (x : Visit). x.node) (sym same); input_is = ap (λ (x : Visit). x.input) (sym same) }

pub at_visit : (w : WorldState) (node : ℕ) (i : Input) (v : Visit) → visit w node i ≡ Some v → IsVisit v node i
at_visit w node i v is = seat_visit node i v (seat_at w node) is

pub clock_visit_is : (node millis : ℕ) (v : Visit) (o : Option Seat) → clock_seat node millis o ≡ Some v → IsVisit v node (input.Drain 0)
clock_visit_is node millis v None is = absurd (none-some v is)
clock_visit_is node millis v (Some seat) is = at_seat (same_Some (record { node = node; seat = seat; now = millis; input = input.Drain 0 }) v is) where
  at_seat : record { node = node; seat = seat; now = millis; input = input.Drain 0 } ≡ v → IsVisit v node (input.Drain 0)
  at_seat same = record { node_is = ap (λ (x : Visit). x.node) (sym same); input_is = ap (λ (x : Visit). x.input) (sym same) }

pub agent_visit_is : (node : ℕ) (v : Visit) (o : Option Seat) → agent_seat node o ≡ Some v → (seat : Seat) × IsVisit v node (agent_input seat.agent)
agent_visit_is node v None is = absurd (none-some v is)
agent_visit_is node v (Some seat) is = (seat, seat_visit node (agent_input seat.agent) v (Some seat) is)

pub datagram_visit_is : (w : WorldState) (v : Visit) (o : Option SentDatagram) → datagram_at w o ≡ Some v
    → (d : SentDatagram) × IsVisit v (present_life w d.route.receiver) (input.Datagram d.route.link d.route.from (encoding d.message))
datagram_visit_is w v None is = absurd (none-some v is)
datagram_visit_is w v (Some d) is = (d, at_visit w (present_life w d.route.receiver) (input.Datagram d.route.link d.route.from (encoding d.message)) v is)

-- ---- a stream that is opened

-- the stream of this number waits for its opening, and is opened at the present life of the member where it was dialled to, under its number
-- there; who dialled it stands so
pub record IsOpening (s : Setting) (w : WorldState) (k : ℕ) (v : Visit) : Type 0 where
  pub talk : StreamState
  pub near : Seat
  pub member : ℕ
  pub found : stream_numbered w.streams k ≡ Some talk
  pub waiting : is_waiting talk.far_side ≡ true
  pub dialled : seat_at w talk.near.node ≡ Some near
  pub listens : member_at s talk.to ≡ Some member
  pub node_is : v.node ≡ present_life w member
  pub is : IsVisit v v.node (input.Opened (s.arrives_as v.node k) (s.arrives_from k near.core.plan.address))

pub opening_is : (s : Setting) (w : WorldState) (k : ℕ) (v : Visit) → arrival_visit s w k ≡ Some v → IsOpening s w k v
unfolding arrival_visit
opening_is s w k v is = by_talk (stream_numbered w.streams k) refl is where
  by_node : (t : StreamState) → stream_numbered w.streams k ≡ Some t → is_waiting t.far_side ≡ true → (to : Option ℕ) (near : Option Seat) → member_at s t.to ≡ to → seat_at w t.near.node ≡ near
      → opened_at s w k to near ≡ Some v → IsOpening s w k v
  by_node t found waits None near listens there e = absurd (none-some v e)
  by_node t found waits (Some node) None listens there e = absurd (none-some v e)
  by_node t found waits (Some node) (Some near) listens there e =
      at_node (at_visit w (present_life w node) (input.Opened (s.arrives_as (present_life w node) k) (s.arrives_from k near.core.plan.address)) v e) where
        at_node : IsVisit v (present_life w node) (input.Opened (s.arrives_as (present_life w node) k) (s.arrives_from k near.core.plan.address)) → IsOpening s w k v
        at_node x = record {
          talk = t;
          near = near;
          member = node;
          found = found;
          waiting = waits;
          dialled = there;
          listens = listens;
          node_is = x.node_is;
          is = record { node_is = refl; input_is = x.input_is ∙ ap (λ n. input.Opened (s.arrives_as n k) (s.arrives_from k near.core.plan.address)) (sym x.node_is) };
        }

  by_waiting : (t : StreamState) → stream_numbered w.streams k ≡ Some t → (b : Bool) → is_waiting t.far_side ≡ b → cond b (opened_at s w k (member_at s t.to) (seat_at w t.near.node)) None ≡ Some v → IsOpening s w k v
  by_waiting t found true waits e = by_node t found waits (member_at s t.to) (seat_at w t.near.node) refl refl e
  by_waiting t found false waits e = absurd (none-some v e)

  by_talk : (o : Option StreamState) → stream_numbered w.streams k ≡ o → opened_stream s w k o ≡ Some v → IsOpening s w k v
  by_talk None found e = absurd (none-some v e)
  by_talk (Some t) found e = by_waiting t found (is_waiting t.far_side) refl e

-- ---- a piece, and a closing

pub record IsReaching (w : WorldState) (k : ℕ) (side : Side) (v : Visit) (i : Reached → Input) : Type 0 where
  pub reached : Reached
  pub found : reached_side w k side ≡ Some reached
  pub is : IsVisit v reached.at.node (i reached)

pub piece_is : (w : WorldState) (k : ℕ) (side : Side) (count : ℕ) (v : Visit) → piece_visit w k side count ≡ Some v
    → IsReaching w k side v (λ x. input.Bytes x.at.number (next_bytes x.talk (other side) count))
unfolding piece_visit
piece_is w k side count v is = by_side (reached_side w k side) refl is where
  by_side : (o : Option Reached) → reached_side w k side ≡ o → piece_at w side count o ≡ Some v → IsReaching w k side v (λ x. input.Bytes x.at.number (next_bytes x.talk (other side) count))
  by_side None found e = absurd (none-some v e)
  by_side (Some x) found e = record { reached = x; found = found; is = at_visit w x.at.node (input.Bytes x.at.number (next_bytes x.talk (other side) count)) v e }

pub cut_is : (w : WorldState) (k : ℕ) (side : Side) (v : Visit) → cut_visit w k side ≡ Some v → IsReaching w k side v (λ x. input.Closed x.at.number)
unfolding cut_visit
cut_is w k side v is = by_side (reached_side w k side) refl is where
  by_side : (o : Option Reached) → reached_side w k side ≡ o → cut_at w o ≡ Some v → IsReaching w k side v (λ x. input.Closed x.at.number)
  by_side None found e = absurd (none-some v e)
  by_side (Some x) found e = record { reached = x; found = found; is = at_visit w x.at.node (input.Closed x.at.number) v e }

-- ---- every kind of event

-- a call, a datagram or the passing of time: nothing comes on a stream
abbrev pub IsQuiet : Input → Type 0
IsQuiet (input.Api asa call) = Unit {0}
IsQuiet (input.Datagram link from bytes) = Unit {0}
IsQuiet (input.Drain max) = max ≡ 0
IsQuiet _ = ⊥

pub quiet_takes : (i : Input) → IsQuiet i → TakesNothing i
quiet_takes (input.Opened stream from) q = absurd q
quiet_takes (input.Bytes stream bytes) q = absurd q
quiet_takes (input.Closed stream) q = absurd q
quiet_takes _ q = q

quiet_as : (v : Visit) (node : ℕ) (i : Input) → IsVisit v node i → IsQuiet i → IsQuiet v.input
quiet_as v node i is q = subst IsQuiet (sym is.input_is) q

pub agent_quiet : (s : Setting) (w : WorldState) (node : ℕ) (hold : Bool) (v : Visit) → visit_of s w (event.Agent node hold) ≡ Some v → IsQuiet v.input
unfolding agent_visit
agent_quiet s w node hold v is = by_seat (agent_visit_is (present_life w node) v (seat_at w (present_life w node)) is) where
  by_seat : (seat : Seat) × IsVisit v (present_life w node) (agent_input seat.agent) → IsQuiet v.input
  by_seat x = quiet_as v (present_life w node) (agent_input x.0.agent) x.1 tt

pub call_quiet : (s : Setting) (w : WorldState) (e : Event) (v : Visit) (node : ℕ) (i : Input) → visit w node i ≡ Some v → IsQuiet i → IsQuiet v.input
call_quiet s w e v node i is q = quiet_as v node i (at_visit w node i v is) q

pub datagram_quiet : (s : Setting) (w : WorldState) (index : ℕ) (hold : Bool) (v : Visit) → visit_of s w (event.Datagram index hold) ≡ Some v → IsQuiet v.input
unfolding datagram_visit
datagram_quiet s w index hold v is = by_datagram (datagram_visit_is w v (numbered w.datagrams index) is) where
  by_datagram : (d : SentDatagram) × IsVisit v (present_life w d.route.receiver) (input.Datagram d.route.link d.route.from (encoding d.message)) → IsQuiet v.input
  by_datagram x = quiet_as v (present_life w x.0.route.receiver) (input.Datagram x.0.route.link x.0.route.from (encoding x.0.message)) x.1 tt

pub clock_quiet : (s : Setting) (w : WorldState) (node millis : ℕ) (v : Visit) → visit_of s w (event.Clock node millis) ≡ Some v → IsQuiet v.input
clock_quiet s w node millis v is =
    quiet_as v (present_life w node) (input.Drain 0) (clock_visit_is (present_life w node) millis v (seat_at w (present_life w node)) is) refl

-- no step but a drain takes anything from the queue
pub takes_nothing : (s : Setting) (w : WorldState) (e : Event) (v : Visit) → visit_of s w e ≡ Some v → IsStep e → TakesNothing v.input
takes_nothing s w (event.Clock node millis) v is step = quiet_takes v.input (clock_quiet s w node millis v is)
takes_nothing s w (event.Want node length longest peer) v is step = absurd step
takes_nothing s w (event.Return node prefix peer) v is step = absurd step
takes_nothing s w (event.Agent node hold) v is step = quiet_takes v.input (agent_quiet s w node hold v is)
takes_nothing s w (event.Api node asa call hold) v is step = quiet_takes v.input (call_quiet s w (event.Api node asa call hold) v (present_life w node) (input.Api asa call) is tt)
takes_nothing s w (event.Datagram index hold) v is step = quiet_takes v.input (datagram_quiet s w index hold v is)
takes_nothing s w (event.Arrive stream hold) v is step = subst TakesNothing (sym (opening_is s w stream v is).is.input_is) tt
takes_nothing s w (event.Bytes stream far count hold) v is step = subst TakesNothing (sym (piece_is w stream (side_named far) count v is).is.input_is) tt
takes_nothing s w (event.Cut stream far hold) v is step = subst TakesNothing (sym (cut_is w stream (side_named far) v is).is.input_is) tt
takes_nothing s w (event.Drain node max) v is step = absurd step
