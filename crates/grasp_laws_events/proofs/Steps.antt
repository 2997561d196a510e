-- Which step each event makes, and the node and the agent after it.
use Rattle.std.proofs.Common.{◌≡◌, refl, sym, ap, ◌∙◌, subst, ℕ, ◌-◌, Bool, true, false, cond, List, [], length, map, take, Option, None, Some}
use Rattle.std.proofs.lemmas.Bool.{true≢false}
use Rattle.std.proofs.lemmas.Option.{none-some, same_Some}
use Rattle.grasp_agent.specs.Replies.{after_reply}
use Rattle.grasp_agent.specs.States.{AgentState}
use Rattle.grasp_laws_delivery.proofs.Came.Inputs.{IsOpening, IsReaching, opening_is, piece_is, cut_is}
use Rattle.grasp_laws_delivery.proofs.Heard.Steps.{IsReachedSide, reached_is}
use Rattle.grasp_laws_delivery.specs.Ready.{StreamsAreReady}
use Rattle.grasp_laws_network.proofs.Appended.{get_numbered, numbered_get}
use Rattle.grasp_laws_network.proofs.Here.{numbered_within, visits_are_here}
use Rattle.grasp_laws_network.proofs.Lists.{slice_map}
use Rattle.grasp_laws_network.proofs.Lives.{first_count, first_present}
use Rattle.grasp_laws_network.proofs.Others.{arrived_keeps, delivered_keeps, told_keeps}
use Rattle.grasp_laws_network.proofs.Sent.{sending_keeps_nodes}
use Rattle.grasp_laws_network.proofs.Staying.{put_here}
use Rattle.grasp_model_network.specs.EventSteps.{agent_input, agent_seat, agent_visit, after_agent, after_agent_call, after_arrival, after_clock, after_cut, after_delivery, after_piece, arrival_visit, clock_seat, cut_at, cut_visit, datagram_at, datagram_visit, opened_at, opened_stream, piece_at, piece_visit}
use Rattle.grasp_model_network.specs.Events.{after_visit, visit_of}
use Rattle.grasp_model_network.specs.Notes.{noted}
use Rattle.grasp_model_network.specs.Openings.{first_seat, opened_seat}
use Rattle.grasp_model_network.specs.Runs.{IsReached, first_world}
use Rattle.grasp_model_network.specs.Sending as network
use Rattle.grasp_model_network.specs.Sending.{drained_at, drained_from, seat_with, stepped}
use Rattle.grasp_model_network.specs.Setting.{Member, Setting, member_at, numbered}
use Rattle.grasp_model_network.specs.StreamChanges.{Reached, arrived, delivered, reached_at, reached_in, reached_side, side_named, told}
use Rattle.grasp_model_network.specs.Streams.{Arrival, StreamEnd, StreamState, end_at, is_reached, is_waiting, lives, next_bytes, not_yet, stream_numbered, told_closed, turned_away}
use Rattle.grasp_model_network.specs.Visits.{Visit, Choice, VisitStep, is_starved, visit_seat}
use Rattle.grasp_model_network.specs.World.{Seat, SentDatagram, WorldState, present_life, seat_at, with_seat}
use Rattle.grasp_model_network.specs.declared.event.Event.{Event}
use Rattle.grasp_model_network.specs.declared.event.Event.TheVariants as event
use Rattle.grasp_model_node.specs.Begin.{begin}
use Rattle.grasp_model_node.specs.Draining.{after_drain, closes}
use Rattle.grasp_model_node.specs.Node.{NodeState}
use Rattle.grasp_model_node.specs.Queue.{encoding}
use Rattle.grasp_model_node.specs.Step.{Acts, Drains}
use Rattle.grasp_pool.specs.Functions.{pool_of}
use Rattle.grasp_session.specs.Messages.{Side, other}
use Rattle.grasp_types.specs.declared.reply.Reply.{Reply}
use Rattle.grasp_types.specs.declared.reply.Reply.TheVariants as reply
use Rattle.grasp_types.specs.declared.traffic.Input.TheVariants as input
use Rattle.grasp_laws_events.proofs.Numbered.{Listens, has_number, listens_there, member_found, numbered_talk}
use Rattle.grasp_laws_events.proofs.Parts.{comes_is, held_is}
use Rattle.grasp_laws_events.specs.Steps.{NetworksBegin, far_or_near, SideLives, WaitsToOpen, EventsMakeSteps, StepsHaveStreams, agent_beside, StepsLeaveNodes}

-- ---- the beginning

seat_is : (s : Setting) (node : ℕ) (m : Member) → numbered s.members node ≡ Some m → seat_at (first_world s) node ≡ Some (opened_seat m.plan (pool_of m.roots))
unfolding first_world
seat_is s node m found =
    get_numbered (map first_seat s.members) node (Some (opened_seat m.plan (pool_of m.roots))) (numbered_within s.members node m found).least
    (slice_map first_seat s.members (node - 1) m (numbered_get s.members node m found))

pub networks_begin : NetworksBegin
unfolding first_world
networks_begin = record {
  lives = first_count;
  own = λ s node m found. first_present s node (numbered_within s.members node m found);
  nodes = seat_is;
  datagrams = λ s. refl;
  streams = λ s. refl;
  dials = λ s. refl;
  offers = λ s. refl;
  settled = λ s. refl;
}

-- ---- sides

pub sides_same : (far : Bool) → side_named far ≡ far_or_near far
sides_same true = refl
sides_same false = refl

waiting_is : (a : Arrival) → is_waiting a ≡ true → a ≡ not_yet
waiting_is not_yet e = refl
waiting_is lives e = absurd (true≢false (sym e))
waiting_is turned_away e = absurd (true≢false (sym e))
waiting_is told_closed e = absurd (true≢false (sym e))

-- ---- which step

datagram_steps : (w : WorldState) (index : ℕ) (d : SentDatagram) (seat : Seat) → numbered w.datagrams index ≡ Some d → seat_at w (present_life w d.route.receiver) ≡ Some seat
    → datagram_visit w index ≡ Some (record { node = present_life w d.route.receiver; seat = seat; now = seat.core.reading; input = input.Datagram d.route.link d.route.from (encoding d.message) })
unfolding datagram_visit
datagram_steps w index d seat found here =
    ap (datagram_at w) found ∙ ap (visit_seat (present_life w d.route.receiver) (input.Datagram d.route.link d.route.from (encoding d.message))) here

agent_steps : (w : WorldState) (life : ℕ) (seat : Seat) → seat_at w life ≡ Some seat
    → agent_visit w life ≡ Some (record { node = life; seat = seat; now = seat.core.reading; input = agent_input seat.agent })
unfolding agent_visit
agent_steps w life seat here = ap (agent_seat life) here

module _ (ready : StreamsAreReady) (s : Setting) (w : WorldState) (r : IsReached s w) where
  arrival_steps : (k node : ℕ) (t : StreamState) (dialling seat : Seat) → WaitsToOpen s w k node t dialling seat
      → arrival_visit s w k ≡ Some (record {
        node = present_life w node;
        seat = seat;
        now = seat.core.reading;
        input = input.Opened (s.arrives_as (present_life w node) k) (s.arrives_from k dialling.core.plan.address);
      })
  unfolding arrival_visit
  arrival_steps k node t dialling seat h =
      ap (opened_stream s w k) (numbered_talk ready s w r k t h.talk)
      ∙ (ap (λ b. cond b (opened_at s w k (member_at s t.to) (seat_at w t.near.node)) None) (ap is_waiting h.waits)
      ∙ (ap (λ o. opened_at s w k o (seat_at w t.near.node)) (member_found s r.good node h.member t.to h.found h.listens)
      ∙ (ap (opened_at s w k (Some node)) h.dialled
      ∙ ap (visit_seat (present_life w node) (input.Opened (s.arrives_as (present_life w node) k) (s.arrives_from k dialling.core.plan.address))) h.here)))

  -- a side that lives is reached
  reaches : (k : ℕ) (side : Side) (t : StreamState) (e : StreamEnd) (seat : Seat) → SideLives w k side t e seat → reached_side w k side ≡ Some (record { talk = t; at = e })
  unfolding reached_side
  reaches k side t e seat h =
      ap (reached_in side) (numbered_talk ready s w r k t h.talk) ∙ (ap (λ (a : Arrival). reached_at t (is_reached a) (end_at t side)) h.living ∙ ap (reached_at t true) h.end)

  piece_steps : (k count : ℕ) (side : Side) (t : StreamState) (e : StreamEnd) (seat : Seat) → SideLives w k side t e seat
      → piece_visit w k side count ≡ Some (record { node = e.node; seat = seat; now = seat.core.reading; input = input.Bytes e.number (next_bytes t (other side) count) })
  unfolding piece_visit
  piece_steps k count side t e seat h =
      ap (piece_at w side count) (reaches k side t e seat h) ∙ ap (visit_seat e.node (input.Bytes e.number (next_bytes t (other side) count))) h.here

  cut_steps : (k : ℕ) (side : Side) (t : StreamState) (e : StreamEnd) (seat : Seat) → SideLives w k side t e seat
      → cut_visit w k side ≡ Some (record { node = e.node; seat = seat; now = seat.core.reading; input = input.Closed e.number })
  unfolding cut_visit
  cut_steps k side t e seat h = ap (cut_at w) (reaches k side t e seat h) ∙ ap (visit_seat e.node (input.Closed e.number)) h.here

pub events_make_steps : StreamsAreReady → EventsMakeSteps
events_make_steps ready = record {
  clocks = λ s w node millis seat here. ap (clock_seat (present_life w node) millis) here;
  agents = λ s w node hold seat here. agent_steps w (present_life w node) seat here;
  calls = λ s w node asa call hold seat here. ap (visit_seat (present_life w node) (input.Api asa call)) here;
  drains = λ s w node max seat here. ap (visit_seat (present_life w node) (input.Drain max)) here;
  datagrams = λ s w index hold d seat found here. datagram_steps w index d seat found here;
  arrivals = λ s w k node hold t dialling seat r h. arrival_steps ready s w r k node t dialling seat h;
  pieces = λ s w k count far hold t e seat r h. ap (λ side. piece_visit w k side count) (sides_same far) ∙ piece_steps ready s w r k count (far_or_near far) t e seat h;
  cuts = λ s w k far hold t e seat r h. ap (cut_visit w k) (sides_same far) ∙ cut_steps ready s w r k (far_or_near far) t e seat h;
}

-- ---- and no other

side_lives : (w : WorldState) (k : ℕ) (side : Side) (x : Reached) (seat : Seat) → reached_side w k side ≡ Some x → seat_at w x.at.node ≡ Some seat → SideLives w k side x.talk x.at seat
side_lives w k side x seat is here = by (reached_is w k side x is) where
  by : IsReachedSide w k side x → SideLives w k side x.talk x.at seat
  by f = record { talk = has_number w k x.talk f.found; living = f.alive; end = f.ends; here = here }

-- a visit stands at its node
stands_at : (s : Setting) (w : WorldState) (e : Event) (v : Visit) (node : ℕ) → visit_of s w e ≡ Some v → v.node ≡ node → seat_at w node ≡ Some v.seat
stands_at s w e v node is at = subst (λ k. seat_at w k ≡ Some v.seat) at (visits_are_here s w e v is).stands

arrival_waits : (s : Setting) (w : WorldState) (k : ℕ) (hold : Bool) (v : Visit) → visit_of s w (event.Arrive k hold) ≡ Some v
    → (node : ℕ) × (v.node ≡ present_life w node) × ((t : StreamState) × ((dialling : Seat) × WaitsToOpen s w k node t dialling v.seat))
arrival_waits s w k hold v is = by (opening_is s w k v is) where
  any_member : Seat → Member
  any_member seat = record { plan = seat.core.plan; roots = [] }

  by : IsOpening s w k v → (node : ℕ) × (v.node ≡ present_life w node) × ((t : StreamState) × ((dialling : Seat) × WaitsToOpen s w k node t dialling v.seat))
  by o = (o.member, o.node_is, (o.talk, (o.near, whole (listens_there s o.member (any_member v.seat) o.talk.to o.listens)))) where
    whole : Listens s o.member o.talk.to → WaitsToOpen s w k o.member o.talk o.near v.seat
    whole l = record {
      talk = has_number w k o.talk o.found;
      waits = waiting_is o.talk.far_side o.waiting;
      member = l.member;
      found = l.found;
      listens = l.listens;
      dialled = o.dialled;
      here = stands_at s w (event.Arrive k hold) v (present_life w o.member) is o.node_is;
    }

piece_lives : (s : Setting) (w : WorldState) (k count : ℕ) (far hold : Bool) (v : Visit) → visit_of s w (event.Bytes k far count hold) ≡ Some v
    → (t : StreamState) × ((e : StreamEnd) × SideLives w k (far_or_near far) t e v.seat)
piece_lives s w k count far hold v is = by (piece_is w k (side_named far) count v is) where
  by : IsReaching w k (side_named far) v (λ x. input.Bytes x.at.number (next_bytes x.talk (other (side_named far)) count)) → (t : StreamState) × ((e : StreamEnd) × SideLives w k (far_or_near far) t e v.seat)
  by o = (o.reached.talk, (o.reached.at, subst (λ side. SideLives w k side o.reached.talk o.reached.at v.seat) (sides_same far) (side_lives w k (side_named far) o.reached v.seat o.found (stands_at s w (event.Bytes k far count hold) v o.reached.at.node is o.is.node_is))))

cut_lives : (s : Setting) (w : WorldState) (k : ℕ) (far hold : Bool) (v : Visit) → visit_of s w (event.Cut k far hold) ≡ Some v
    → (t : StreamState) × ((e : StreamEnd) × SideLives w k (far_or_near far) t e v.seat)
cut_lives s w k far hold v is = by (cut_is w k (side_named far) v is) where
  by : IsReaching w k (side_named far) v (λ x. input.Closed x.at.number) → (t : StreamState) × ((e : StreamEnd) × SideLives w k (far_or_near far) t e v.seat)
  by o = (o.reached.talk, (o.reached.at, subst (λ side. SideLives w k side o.reached.talk o.reached.at v.seat) (sides_same far) (side_lives w k (side_named far) o.reached v.seat o.found (stands_at s w (event.Cut k far hold) v o.reached.at.node is o.is.node_is))))

pub steps_have_streams : StepsHaveStreams
steps_have_streams = record {
  arrivals = λ s w k hold v is. arrival_waits s w k hold v is;
  pieces = piece_lives;
  cuts = cut_lives;
}

-- ---- what the step leaves

-- the visit of a drain is at the node's own reading, and drains so many
drain_visit_is : (life max : ℕ) (v : Visit) (o : Option Seat) → visit_seat life (input.Drain max) o ≡ Some v → (v.now ≡ v.seat.core.reading) × (v.input ≡ input.Drain max)
drain_visit_is life max v None is = absurd (none-some v is)
drain_visit_is life max v (Some seat) is = at (same_Some u v is) where
  u : Visit
  u = record { node = life; seat = seat; now = seat.core.reading; input = input.Drain max }

  at : u ≡ v → (v.now ≡ v.seat.core.reading) × (v.input ≡ input.Drain max)
  at e = (ap (λ (x : Visit). x.now) (sym e) ∙ ap (λ (x : Visit). x.seat.core.reading) e, ap (λ (x : Visit). x.input) (sym e))

drains_to : (n after : NodeState) (max : ℕ) (q : Reply) → Drains n max q after → is_starved q ≡ false → after ≡ after_drain n max
drains_to n after max (reply.Outputs outputs) d fed = d.1
drains_to n after max reply.OutOfMemory d fed = absurd (true≢false fed)
drains_to n after max _ d fed = absurd d

module _ (s : Setting) (w : WorldState) (v : Visit) (c : Choice) (here : seat_at w v.node ≡ Some v.seat) where
  -- a network with the same nodes, after the step
  stepped_leaves : (x : WorldState) (a : AgentState) → x.seats ≡ w.seats → seat_at (stepped x v c.after a) v.node ≡ Some (seat_with c.after a)
  unfolding stepped
  stepped_leaves x a same = put_here x.seats v.node v.seat (seat_with c.after a) (ap (λ (seats : List Seat). numbered seats v.node) same ∙ here)

  drained_leaves : (max : ℕ) → v.now ≡ v.seat.core.reading → Drains (begin v.seat.core v.now) max c.reply c.after → is_starved c.reply ≡ false
      → seat_at (network.drained s w v.node max) v.node ≡ Some (seat_with c.after v.seat.agent)
  unfolding network.drained
  drained_leaves max now d fed =
      ap (λ (o : Option Seat). seat_at (drained_at s w v.node max o) v.node) here
      ∙ (from (begin v.seat.core v.seat.core.reading) ∙ ap (λ (n : NodeState). Some (seat_with n v.seat.agent)) (ap (λ k. after_drain (begin v.seat.core k) max) (sym now) ∙ sym (drains_to (begin v.seat.core v.now) c.after max c.reply d fed)))
    where
      from : (n : NodeState) → seat_at (drained_from s w v.node v.seat n max) v.node ≡ Some (seat_with (after_drain n max) v.seat.agent)
      from n =
          ap (λ (seats : List Seat). numbered seats v.node) (sending_keeps_nodes s (with_seat w v.node (seat_with (after_drain n max) v.seat.agent)) v.node (take max n.queue) (closes n max))
          ∙ put_here w.seats v.node v.seat (seat_with (after_drain n max) v.seat.agent) here

  visit_leaves : (e : Event) → visit_of s w e ≡ Some v → VisitStep v c → seat_at (after_visit s w e v c) v.node ≡ Some (seat_with c.after (agent_beside e v.seat.agent c))
  unfolding after_clock after_agent after_agent_call after_delivery after_arrival after_piece after_cut noted
  visit_leaves (event.Clock node millis) is step = stepped_leaves w v.seat.agent refl
  visit_leaves (event.Want node length longest peer) is step = absurd (none-some v is)
  visit_leaves (event.Return node prefix peer) is step = absurd (none-some v is)
  visit_leaves (event.Agent node hold) is step = stepped_leaves w (after_reply v.seat.agent c.reply) refl
  visit_leaves (event.Api node asa call hold) is step = stepped_leaves w v.seat.agent refl
  visit_leaves (event.Datagram index hold) is step = stepped_leaves w v.seat.agent refl
  visit_leaves (event.Arrive k hold) is step =
      stepped_leaves (arrived w v (s.arrives_as v.node k) c.reply (stream_numbered w.streams k)) v.seat.agent (arrived_keeps w v (s.arrives_as v.node k) c.reply (stream_numbered w.streams k))
  visit_leaves (event.Bytes k far count hold) is step =
      stepped_leaves (delivered w count (reached_side w k (side_named far))) v.seat.agent (delivered_keeps w count (reached_side w k (side_named far)))
  visit_leaves (event.Cut k far hold) is step = stepped_leaves (told w (reached_side w k (side_named far))) v.seat.agent (told_keeps w (reached_side w k (side_named far)))
  visit_leaves (event.Drain node max) is step = by (drain_visit_is (present_life w node) max v (seat_at w (present_life w node)) is) where
    by : (v.now ≡ v.seat.core.reading) × (v.input ≡ input.Drain max) → seat_at (network.drained s w v.node max) v.node ≡ Some (seat_with c.after v.seat.agent)
    by (now, given) = drained_leaves max now (subst (λ i. Acts (begin v.seat.core v.now) i c.coming c.reply c.after) given step.steps.acts) step.fed

pub steps_leave_nodes : StepsLeaveNodes
steps_leave_nodes s w e c v o is h = ap (λ (x : WorldState). seat_at x v.node) (held_is s w e c v is h) ∙ visit_leaves s w v c (visits_are_here s w e v is).stands e is (comes_is s w e c v is o)
