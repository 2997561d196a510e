-- The life that makes an event's step, and what its clock reads.
use Rattle.std.proofs.Common.{◌≡◌, refl, sym, ap, ◌∙◌, arith, max, ℕ, Bool, true, false, cond, length, take, Option, None, Some}
use Rattle.std.proofs.lemmas.Option.{none-some, same_Some}
use Rattle.grasp_agent.specs.States.{AgentState}
use Rattle.grasp_laws_delivery.proofs.AfterSteps.{seats_stepped}
use Rattle.grasp_laws_delivery.proofs.Holding.{IsStep}
use Rattle.grasp_laws_delivery.specs.Ready.{StepsArePresent}
use Rattle.grasp_laws_network.proofs.Here.{visits_are_here}
use Rattle.grasp_laws_network.proofs.Lives.{is_present_life, same_present}
use Rattle.grasp_laws_network.proofs.LivesKept.{life_member, lives_are_kept}
use Rattle.grasp_laws_network.proofs.Sent.{sending_keeps_nodes}
use Rattle.grasp_laws_network.proofs.Staying.{put_here}
use Rattle.grasp_laws_network.specs.Keeping.{IsHere}
use Rattle.grasp_laws_node.proofs.Beginning.{beginnings_end}
use Rattle.grasp_laws_reports.proofs.Onward.{begun_goes}
use Rattle.grasp_model_node.specs.Begin.{begin}
use Rattle.grasp_model_node.specs.Draining.{after_drain, closes}
use Rattle.grasp_model_node.specs.Node.{NodeState}
use Rattle.grasp_types.specs.declared.traffic.Input.{Input}
use Rattle.grasp_types.specs.declared.traffic.Input.TheVariants as input
use Rattle.grasp_model_network.specs.EventSteps.{agent_input, agent_seat, agent_visit, arrival_visit, cut_at, cut_visit, datagram_at, datagram_visit, opened_at, opened_stream, piece_at, piece_visit}
use Rattle.grasp_model_network.specs.Events.{IsFit, after_visit, visit_of}
use Rattle.grasp_model_network.specs.Plans.{IsNode}
use Rattle.grasp_model_network.specs.Runs.{IsReached}
use Rattle.grasp_model_network.specs.Sending.{drained, drained_at, seat_with}
use Rattle.grasp_model_network.specs.Setting.{Setting, member_at, numbered}
use Rattle.grasp_model_network.specs.StreamChanges.{Reached, reached_side, side_named}
use Rattle.grasp_model_network.specs.Streams.{StreamState, is_waiting, stream_numbered}
use Rattle.grasp_session.specs.Messages.{Side}
use Rattle.grasp_model_network.specs.Visits.{Choice, Visit, VisitStep, visit_seat}
use Rattle.grasp_model_network.specs.World.{Seat, SentDatagram, WorldState, member_of, present_life, seat_at, with_seat}
use Rattle.grasp_model_network.specs.declared.event.Event.{Event}
use Rattle.grasp_model_network.specs.declared.event.Event.TheVariants as event
use Rattle.grasp_model_audit.specs.Naming.{reading_in, reading_of}

-- ---- the life

-- a step is made by the present life of a member, as it stands
pub record IsPresent (s : Setting) (w : WorldState) (v : Visit) : Type 0 where
  pub life : present_life w (member_of w v.node) ≡ v.node
  pub here : IsHere w v
  pub is_node : IsNode (length s.members) (member_of w v.node)

pub present : StepsArePresent → (s : Setting) (w : WorldState) (e : Event) (v : Visit) → IsReached s w → IsFit s w e → visit_of s w e ≡ Some v → IsPresent s w v
present k s w e v r fit is =
    let here = visits_are_here s w e v is in
    let stand = lives_are_kept s w r in
    record {
      life = sym (is_present_life w v.node (k s w e v r fit is));
      here = here;
      is_node = stand.members v.node (member_of w v.node) (life_member s w v.node stand here.member);
    }

-- ---- what its clock reads

pub reading_at : (s : Setting) (w : WorldState) (v : Visit) → IsPresent s w v → reading_of w (member_of w v.node) ≡ v.seat.core.reading
reading_at s w v p = ap (λ k. reading_in (seat_at w k)) p.life ∙ ap reading_in p.here.stands

-- in a network with the same lives
pub reading_then : (s : Setting) (w x : WorldState) (v : Visit) (seat : Seat) → IsPresent s w v → x.lives ≡ w.lives → seat_at x v.node ≡ Some seat → reading_of x (member_of w v.node) ≡ seat.core.reading
reading_then s w x v seat p lives at = ap (λ k. reading_in (seat_at x k)) (same_present w x (member_of w v.node) lives ∙ p.life) ∙ ap reading_in at

-- ---- the node after a step

pub step_reads : (v : Visit) (c : Choice) → VisitStep v c → c.after.reading ≡ max v.seat.core.reading v.now
step_reads v c step = (begun_goes v.seat.core c.after v.now v.input c.coming c.reply step.steps).reading ∙ (beginnings_end v.seat.core v.now).0.reading

-- what the step has put at its node
pub record IsPut (x : WorldState) (v : Visit) (c : Choice) : Type 0 where
  pub agent : AgentState
  pub at : seat_at x v.node ≡ Some (seat_with c.after agent)

pub put_after : (s : Setting) (w : WorldState) (e : Event) (v : Visit) (c : Choice) → IsStep e → IsHere w v → IsPut (after_visit s w e v c) v c
put_after s w e v c is here =
    let put = seats_stepped s w e v c is in
    record {
      agent = put.agent;
      at = ap (λ seats. numbered seats v.node) put.seats ∙ put_here w.seats v.node v.seat (seat_with c.after put.agent) here.stands;
    }

-- ---- the node after a drain

pub same_twice : (r : ℕ) → max r r ≡ r
same_twice r = grind arith

begun_reads : (n : NodeState) → (begin n n.reading).reading ≡ n.reading
begun_reads n = (beginnings_end n n.reading).0.reading ∙ same_twice n.reading

drain_reads : (n : NodeState) (max : ℕ) → (after_drain n max).reading ≡ n.reading
unfolding after_drain
drain_reads n max = refl

pub drained_reads : (n : NodeState) (max : ℕ) → (after_drain (begin n n.reading) max).reading ≡ n.reading
drained_reads n max = drain_reads (begin n n.reading) max ∙ begun_reads n

put_by_drain : (s : Setting) (w : WorldState) (node max : ℕ) (seat : Seat) → seat_at w node ≡ Some seat
    → seat_at (drained_at s w node max (Some seat)) node ≡ Some (seat_with (after_drain (begin seat.core seat.core.reading) max) seat.agent)
put_by_drain s w node max seat here =
    let left = begin seat.core seat.core.reading in
    let put : Seat = seat_with (after_drain left max) seat.agent in
    ap (λ seats. numbered seats node) (sending_keeps_nodes s (with_seat w node put) node (take max left.queue) (closes left max))
    ∙ put_here w.seats node seat put here

pub drained_seat : (s : Setting) (w : WorldState) (node max : ℕ) (seat : Seat) → seat_at w node ≡ Some seat
    → seat_at (drained s w node max) node ≡ Some (seat_with (after_drain (begin seat.core seat.core.reading) max) seat.agent)
unfolding drained
drained_seat s w node max seat here =
    ap (λ (o : Option Seat). seat_at (drained_at s w node max o) node) here ∙ put_by_drain s w node max seat here

-- ---- at the node's own reading

seat_now : (node : ℕ) (i : Input) (v : Visit) (o : Option Seat) → visit_seat node i o ≡ Some v → v.now ≡ v.seat.core.reading
seat_now node i v None is = absurd (none-some v is)
seat_now node i v (Some seat) is =
    let same = same_Some (record { node = node; seat = seat; now = seat.core.reading; input = i }) v is in
    ap (λ (x : Visit). x.now) (sym same) ∙ ap (λ (x : Visit). x.seat.core.reading) same

agent_now : (node : ℕ) (v : Visit) (o : Option Seat) → agent_seat node o ≡ Some v → v.now ≡ v.seat.core.reading
agent_now node v None is = absurd (none-some v is)
agent_now node v (Some seat) is = seat_now node (agent_input seat.agent) v (Some seat) is

datagram_now : (w : WorldState) (v : Visit) (o : Option SentDatagram) → datagram_at w o ≡ Some v → v.now ≡ v.seat.core.reading
datagram_now w v None is = absurd (none-some v is)
datagram_now w v (Some d) is = seat_now (present_life w d.route.receiver) _ v (seat_at w (present_life w d.route.receiver)) is

opened_now : (s : Setting) (w : WorldState) (k : ℕ) (v : Visit) (to : Option ℕ) (near : Option Seat) → opened_at s w k to near ≡ Some v → v.now ≡ v.seat.core.reading
opened_now s w k v None near is = absurd (none-some v is)
opened_now s w k v (Some node) None is = absurd (none-some v is)
opened_now s w k v (Some node) (Some near) is = seat_now (present_life w node) _ v (seat_at w (present_life w node)) is

waiting_now : (s : Setting) (w : WorldState) (k : ℕ) (v : Visit) (t : StreamState) (b : Bool) → cond b (opened_at s w k (member_at s t.to) (seat_at w t.near.node)) None ≡ Some v → v.now ≡ v.seat.core.reading
waiting_now s w k v t true is = opened_now s w k v (member_at s t.to) (seat_at w t.near.node) is
waiting_now s w k v t false is = absurd (none-some v is)

arrival_now : (s : Setting) (w : WorldState) (k : ℕ) (v : Visit) (o : Option StreamState) → opened_stream s w k o ≡ Some v → v.now ≡ v.seat.core.reading
arrival_now s w k v None is = absurd (none-some v is)
arrival_now s w k v (Some t) is = waiting_now s w k v t (is_waiting t.far_side) is

piece_now : (w : WorldState) (side : Side) (count : ℕ) (v : Visit) (o : Option Reached) → piece_at w side count o ≡ Some v → v.now ≡ v.seat.core.reading
piece_now w side count v None is = absurd (none-some v is)
piece_now w side count v (Some x) is = seat_now x.at.node _ v (seat_at w x.at.node) is

cut_now : (w : WorldState) (v : Visit) (o : Option Reached) → cut_at w o ≡ Some v → v.now ≡ v.seat.core.reading
cut_now w v None is = absurd (none-some v is)
cut_now w v (Some x) is = seat_now x.at.node _ v (seat_at w x.at.node) is

-- the event isn't a clock
abbrev pub IsNoClock : Event → Type 0
IsNoClock (event.Clock node millis) = ⊥
IsNoClock _ = Unit {0}

-- each other step is made at the reading of its node
pub now_is : (s : Setting) (w : WorldState) (e : Event) (v : Visit) → IsNoClock e → visit_of s w e ≡ Some v → v.now ≡ v.seat.core.reading
unfolding agent_visit arrival_visit cut_visit datagram_visit piece_visit
now_is s w (event.Clock node millis) v still is = absurd still
now_is s w (event.Want node shortest longest peer) v still is = absurd (none-some v is)
now_is s w (event.Return node prefix peer) v still is = absurd (none-some v is)
now_is s w (event.Agent node hold) v still is = agent_now (present_life w node) v (seat_at w (present_life w node)) is
now_is s w (event.Api node asa call hold) v still is = seat_now (present_life w node) (input.Api asa call) v (seat_at w (present_life w node)) is
now_is s w (event.Datagram index hold) v still is = datagram_now w v (numbered w.datagrams index) is
now_is s w (event.Arrive stream hold) v still is = arrival_now s w stream v (stream_numbered w.streams stream) is
now_is s w (event.Bytes stream far count hold) v still is = piece_now w (side_named far) count v (reached_side w stream (side_named far)) is
now_is s w (event.Cut stream far hold) v still is = cut_now w v (reached_side w stream (side_named far)) is
now_is s w (event.Drain node most) v still is = seat_now (present_life w node) (input.Drain most) v (seat_at w (present_life w node)) is
