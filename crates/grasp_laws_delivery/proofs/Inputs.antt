-- What comes to a node in a step that isn't a drain.
use Rattle.std.proofs.Common.{◌≡◌, refl, sym, ap, subst, ℕ, Bool, true, false, cond, Option, Some, None}
use Rattle.std.proofs.lemmas.Option.{none-some, same_Some}
use Rattle.grasp_model_node.specs.Queue.{encoding}
use Rattle.grasp_session.specs.Messages.{other}
use Rattle.grasp_types.specs.declared.address.Address.{Address}
use Rattle.grasp_types.specs.declared.traffic.Input.{Input}
use Rattle.grasp_types.specs.declared.traffic.Input.TheVariants as input
use Rattle.grasp_model_network.specs.EventSteps.{agent_visit, agent_seat, agent_input, arrival_visit, opened_stream, opened_at, clock_seat, cut_visit, cut_at, datagram_visit, datagram_at, piece_visit, piece_at}
use Rattle.grasp_model_network.specs.Events.{visit_of}
use Rattle.grasp_model_network.specs.StreamChanges.{Reached, reached_side, side_named}
use Rattle.grasp_model_network.specs.Setting.{Setting, numbered, member_at}
use Rattle.grasp_model_network.specs.Streams.{StreamState, is_waiting, next_bytes, stream_numbered}
use Rattle.grasp_model_network.specs.Visits.{Visit, visit_seat}
use Rattle.grasp_model_network.specs.World.{Seat, SentDatagram, WorldState, present_life, seat_at}
use Rattle.grasp_model_network.specs.declared.event.Event.TheVariants as event

-- the input takes nothing from the queue, and opens no stream
abbrev pub IsPlain : Input → Type 0
IsPlain (input.Drain max) = max ≡ 0
IsPlain (input.Opened stream from) = ⊥
IsPlain _ = Unit {0}

-- ---- a visit that is made of a node's seat

abbrev input_in : Visit → Input
input_in v = v.input

abbrev node_in : Visit → ℕ
node_in v = v.node

pub visit_input : (node : ℕ) (i : Input) (v : Visit) (o : Option Seat) → visit_seat node i o ≡ Some v → i ≡ v.input
visit_input node i v None is = absurd (none-some v is)
visit_input node i v (Some seat) is = ap input_in (same_Some (record { node = node; seat = seat; now = seat.core.reading; input = i }) v is)

pub visit_node : (node : ℕ) (i : Input) (v : Visit) (o : Option Seat) → visit_seat node i o ≡ Some v → node ≡ v.node
visit_node node i v None is = absurd (none-some v is)
visit_node node i v (Some seat) is = ap node_in (same_Some (record { node = node; seat = seat; now = seat.core.reading; input = i }) v is)

clock_plain : (node millis : ℕ) (v : Visit) (o : Option Seat) → clock_seat node millis o ≡ Some v → IsPlain v.input
clock_plain node millis v None is = absurd (none-some v is)
clock_plain node millis v (Some seat) is = subst IsPlain (ap input_in (same_Some (record { node = node; seat = seat; now = millis; input = input.Drain 0 }) v is)) refl

agent_plain : (node : ℕ) (v : Visit) (o : Option Seat) → agent_seat node o ≡ Some v → IsPlain v.input
agent_plain node v None is = absurd (none-some v is)
agent_plain node v (Some seat) is = subst IsPlain (visit_input node (agent_input seat.agent) v (Some seat) is) tt

datagram_plain : (w : WorldState) (v : Visit) (o : Option SentDatagram) → datagram_at w o ≡ Some v → IsPlain v.input
datagram_plain w v None is = absurd (none-some v is)
datagram_plain w v (Some d) is =
    let life : ℕ = present_life w d.route.receiver in
    subst IsPlain (visit_input life (input.Datagram d.route.link d.route.from (encoding d.message)) v (seat_at w life) is) tt

piece_plain : (w : WorldState) (far : Bool) (count : ℕ) (v : Visit) (o : Option Reached) → piece_at w (side_named far) count o ≡ Some v → IsPlain v.input
piece_plain w far count v None is = absurd (none-some v is)
piece_plain w far count v (Some x) is = subst IsPlain (visit_input x.at.node (input.Bytes x.at.number (next_bytes x.talk (other (side_named far)) count)) v (seat_at w x.at.node) is) tt

cut_plain : (w : WorldState) (v : Visit) (o : Option Reached) → cut_at w o ≡ Some v → IsPlain v.input
cut_plain w v None is = absurd (none-some v is)
cut_plain w v (Some x) is = subst IsPlain (visit_input x.at.node (input.Closed x.at.number) v (seat_at w x.at.node) is) tt

-- ---- the visits of each kind of event

pub clock_input : (s : Setting) (w : WorldState) (node millis : ℕ) (v : Visit) → visit_of s w (event.Clock node millis) ≡ Some v → IsPlain v.input
clock_input s w node millis v is = clock_plain (present_life w node) millis v (seat_at w (present_life w node)) is

pub agent_plain_input : (s : Setting) (w : WorldState) (node : ℕ) (hold : Bool) (v : Visit) → visit_of s w (event.Agent node hold) ≡ Some v → IsPlain v.input
unfolding agent_visit
agent_plain_input s w node hold v is = agent_plain (present_life w node) v (seat_at w (present_life w node)) is

pub datagram_input : (s : Setting) (w : WorldState) (index : ℕ) (hold : Bool) (v : Visit) → visit_of s w (event.Datagram index hold) ≡ Some v → IsPlain v.input
unfolding datagram_visit
datagram_input s w index hold v is = datagram_plain w v (numbered w.datagrams index) is

pub piece_input : (s : Setting) (w : WorldState) (stream count : ℕ) (far hold : Bool) (v : Visit) → visit_of s w (event.Bytes stream far count hold) ≡ Some v → IsPlain v.input
unfolding piece_visit
piece_input s w stream count far hold v is = piece_plain w far count v (reached_side w stream (side_named far)) is

pub cut_input : (s : Setting) (w : WorldState) (stream : ℕ) (far hold : Bool) (v : Visit) → visit_of s w (event.Cut stream far hold) ≡ Some v → IsPlain v.input
unfolding cut_visit
cut_input s w stream far hold v is = cut_plain w v (reached_side w stream (side_named far)) is

-- ---- an arrival

-- the stream that is opened was dialled, and waits
pub record Arrives (s : Setting) (w : WorldState) (k : ℕ) (v : Visit) : Type 0 where
  pub talk : StreamState
  pub found : stream_numbered w.streams k ≡ Some talk
  pub waits : is_waiting talk.far_side ≡ true
  pub from : Address
  pub input_is : v.input ≡ input.Opened (s.arrives_as v.node k) from

-- what the visit of an arrival is
record Opens (s : Setting) (k : ℕ) (v : Visit) : Type 0 where
  pub from : Address
  pub input_is : v.input ≡ input.Opened (s.arrives_as v.node k) from

opens_by : (s : Setting) (w : WorldState) (k : ℕ) (v : Visit) (to : Option ℕ) (near : Option Seat) → opened_at s w k to near ≡ Some v → Opens s k v
opens_by s w k v None near is = absurd (none-some v is)
opens_by s w k v (Some node) None is = absurd (none-some v is)
opens_by s w k v (Some node) (Some near) is =
    let life : ℕ = present_life w node in
    let i : Input = input.Opened (s.arrives_as life k) (s.arrives_from k near.core.plan.address) in
    record {
      from = s.arrives_from k near.core.plan.address;
      input_is = subst (λ n. v.input ≡ input.Opened (s.arrives_as n k) (s.arrives_from k near.core.plan.address)) (visit_node life i v (seat_at w life) is) (sym (visit_input life i v (seat_at w life) is));
    }

waits_by : (s : Setting) (w : WorldState) (k : ℕ) (v : Visit) (t : StreamState) → stream_numbered w.streams k ≡ Some t → (b : Bool) → is_waiting t.far_side ≡ b
    → cond b (opened_at s w k (member_at s t.to) (seat_at w t.near.node)) None ≡ Some v → Arrives s w k v
waits_by s w k v t found true waits is =
    let o = opens_by s w k v (member_at s t.to) (seat_at w t.near.node) is in record { talk = t; found = found; waits = waits; from = o.from; input_is = o.input_is }
waits_by s w k v t found false waits is = absurd (none-some v is)

arrives_by : (s : Setting) (w : WorldState) (k : ℕ) (v : Visit) (o : Option StreamState) → stream_numbered w.streams k ≡ o → opened_stream s w k o ≡ Some v → Arrives s w k v
arrives_by s w k v None found is = absurd (none-some v is)
arrives_by s w k v (Some t) found is = waits_by s w k v t found (is_waiting t.far_side) refl is

pub arrives : (s : Setting) (w : WorldState) (k : ℕ) (hold : Bool) (v : Visit) → visit_of s w (event.Arrive k hold) ≡ Some v → Arrives s w k v
unfolding arrival_visit
arrives s w k hold v is = arrives_by s w k v (stream_numbered w.streams k) refl is
