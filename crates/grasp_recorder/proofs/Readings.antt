-- What the clocks of nodes read behind each event.
use Rattle.std.proofs.Common.{◌≡◌, ◌≢◌, refl, sym, ap, ◌∙◌, subst, arith, max, ℕ, ◌==◌, Bool, true, false, cond, take, List, Option, None, Some}
use Rattle.std.proofs.lemmas.Bool.{eqb-true, eqb-false}
use Rattle.std.proofs.lemmas.Option.{none-some, same_Some}
use Rattle.grasp_laws_delivery.proofs.AfterSteps.{SeatsPut, seats_stepped}
use Rattle.grasp_laws_delivery.proofs.Holding.{IsStep}
use Rattle.grasp_laws_network.proofs.Here.{visits_are_here}
use Rattle.grasp_laws_network.proofs.Lives.{same_present}
use Rattle.grasp_laws_network.proofs.Others.{others_stay, put_elsewhere}
use Rattle.grasp_laws_network.proofs.SameLives.{event_lives, one_lives}
use Rattle.grasp_laws_network.proofs.Sent.{sending_keeps_nodes}
use Rattle.grasp_laws_network.proofs.Staying.{put_here}
use Rattle.grasp_laws_network.proofs.Telling.{none_one, one_least}
use Rattle.grasp_laws_network.specs.Telling.{OneAgent}
use Rattle.grasp_laws_node.proofs.Beginning.{beginnings_end}
use Rattle.grasp_laws_reports.proofs.Onward.{begun_goes}
use Rattle.grasp_model_node.specs.Begin.{begin}
use Rattle.grasp_model_node.specs.Draining.{after_drain, closes}
use Rattle.grasp_model_node.specs.Node.{NodeState}
use Rattle.grasp_types.specs.declared.traffic.Input.{Input}
use Rattle.grasp_types.specs.declared.traffic.Input.TheVariants as input
use Rattle.grasp_session.specs.Messages.{Side}
use Rattle.grasp_model_network.specs.EventSteps.{agent_input, agent_seat, agent_visit, arrival_visit, cut_at, cut_visit, datagram_at, datagram_visit, opened_at, opened_stream, piece_at, piece_visit}
use Rattle.grasp_model_network.specs.Events.{after_by, after_event, after_none, after_visit, drained_behind, drains, visit_of}
use Rattle.grasp_model_network.specs.Sending.{drained, drained_at, event_drain, seat_with}
use Rattle.grasp_model_network.specs.Setting.{Setting, member_at, numbered}
use Rattle.grasp_model_network.specs.StreamChanges.{Reached, reached_side, side_named}
use Rattle.grasp_model_network.specs.Streams.{StreamState, is_waiting, stream_numbered}
use Rattle.grasp_model_network.specs.Visits.{Choice, MayCome, Visit, VisitStep, visit_seat}
use Rattle.grasp_model_network.specs.World.{Seat, SentDatagram, WorldState, present_life, seat_at, with_seat}
use Rattle.grasp_model_network.specs.declared.event.Event.{Event}
use Rattle.grasp_model_network.specs.declared.event.Event.TheVariants as event
use Rattle.grasp_model_audit.specs.Naming.{reading_in, reading_of}

-- ---- steps at the node's own reading

seat_now : (node : ℕ) (i : Input) (v : Visit) (o : Option Seat) → visit_seat node i o ≡ Some v → v.now ≡ v.seat.core.reading
seat_now node i v None is = absurd (none-some v is)
seat_now node i v (Some seat) is =
    let same = same_Some (record { node = node; seat = seat; now = seat.core.reading; input = i }) v is in
    ap (λ (x : Visit). x.now) (sym same) ∙ ap (λ (x : Visit). x.seat.core.reading) same

agent_now : (node : ℕ) (v : Visit) (o : Option Seat) → agent_seat node o ≡ Some v → v.now ≡ v.seat.core.reading
agent_now node v None is = absurd (none-some v is)
agent_now node v (Some seat) is = seat_now node (agent_input seat.agent) v (Some seat) is

datagram_now : (w : WorldState) (v : Visit) (o : Option SentDatagram) → datagram_at w o ≡ Some v → v.now ≡ v.seat.core.reading
datagram_now w v None is = absurd (none-some v is)
datagram_now w v (Some d) is = seat_now (present_life w d.route.receiver) _ v (seat_at w (present_life w d.route.receiver)) is

opened_now : (s : Setting) (w : WorldState) (k : ℕ) (v : Visit) (to : Option ℕ) (near : Option Seat) → opened_at s w k to near ≡ Some v → v.now ≡ v.seat.core.reading
opened_now s w k v None near is = absurd (none-some v is)
opened_now s w k v (Some node) None is = absurd (none-some v is)
opened_now s w k v (Some node) (Some near) is = seat_now (present_life w node) _ v (seat_at w (present_life w node)) is

waiting_now : (s : Setting) (w : WorldState) (k : ℕ) (v : Visit) (t : StreamState) (b : Bool) → cond b (opened_at s w k (member_at s t.to) (seat_at w t.near.node)) None ≡ Some v → v.now ≡ v.seat.core.reading
waiting_now s w k v t true is = opened_now s w k v (member_at s t.to) (seat_at w t.near.node) is
waiting_now s w k v t false is = absurd (none-some v is)

arrival_now : (s : Setting) (w : WorldState) (k : ℕ) (v : Visit) (o : Option StreamState) → opened_stream s w k o ≡ Some v → v.now ≡ v.seat.core.reading
arrival_now s w k v None is = absurd (none-some v is)
arrival_now s w k v (Some t) is = waiting_now s w k v t (is_waiting t.far_side) is

piece_now : (w : WorldState) (side : Side) (count : ℕ) (v : Visit) (o : Option Reached) → piece_at w side count o ≡ Some v → v.now ≡ v.seat.core.reading
piece_now w side count v None is = absurd (none-some v is)
piece_now w side count v (Some x) is = seat_now x.at.node _ v (seat_at w x.at.node) is

cut_now : (w : WorldState) (v : Visit) (o : Option Reached) → cut_at w o ≡ Some v → v.now ≡ v.seat.core.reading
cut_now w v None is = absurd (none-some v is)
cut_now w v (Some x) is = seat_now x.at.node _ v (seat_at w x.at.node) is

-- the event isn't a clock
abbrev pub IsNoClock : Event → Type 0
IsNoClock (event.Clock node millis) = ⊥
IsNoClock _ = Unit {0}

-- each step but a clock's is made at the reading of its node
pub now_is : (s : Setting) (w : WorldState) (e : Event) (v : Visit) → IsNoClock e → visit_of s w e ≡ Some v → v.now ≡ v.seat.core.reading
unfolding agent_visit arrival_visit cut_visit datagram_visit piece_visit
now_is s w (event.Clock node millis) v still is = absurd still
now_is s w (event.Want node shortest longest peer) v still is = absurd (none-some v is)
now_is s w (event.Return node prefix peer) v still is = absurd (none-some v is)
now_is s w (event.Agent node hold) v still is = agent_now (present_life w node) v (seat_at w (present_life w node)) is
now_is s w (event.Api node asa call hold) v still is = seat_now (present_life w node) (input.Api asa call) v (seat_at w (present_life w node)) is
now_is s w (event.Datagram index hold) v still is = datagram_now w v (numbered w.datagrams index) is
now_is s w (event.Arrive stream hold) v still is = arrival_now s w stream v (stream_numbered w.streams stream) is
now_is s w (event.Bytes stream far count hold) v still is = piece_now w (side_named far) count v (reached_side w stream (side_named far)) is
now_is s w (event.Cut stream far hold) v still is = cut_now w v (reached_side w stream (side_named far)) is
now_is s w (event.Drain node most) v still is = seat_now (present_life w node) (input.Drain most) v (seat_at w (present_life w node)) is

-- ---- the node behind a step

same_twice : (r : ℕ) → max r r ≡ r
same_twice r = grind arith

pub step_reads : (v : Visit) (c : Choice) → VisitStep v c → c.after.reading ≡ max v.seat.core.reading v.now
step_reads v c step = (begun_goes v.seat.core c.after v.now v.input c.coming c.reply step.steps).reading ∙ (beginnings_end v.seat.core v.now).0.reading

-- a step at the node's own reading leaves it
pub own_reads : (v : Visit) (c : Choice) → VisitStep v c → v.now ≡ v.seat.core.reading → c.after.reading ≡ v.seat.core.reading
own_reads v c step own = step_reads v c step ∙ ap (λ n. max v.seat.core.reading n) own ∙ same_twice v.seat.core.reading

-- a life of a network has this reading
pub record Reads (x : WorldState) (life now : ℕ) : Type 0 where
  pub seat : Seat
  pub at : seat_at x life ≡ Some seat
  pub reads : seat.core.reading ≡ now

-- the node of the step is left so
pub record IsPut (x : WorldState) (v : Visit) (c : Choice) : Type 0 where
  pub seat : Seat
  pub at : seat_at x v.node ≡ Some seat
  pub core : seat.core ≡ c.after

pub put_after : (s : Setting) (w : WorldState) (e : Event) (v : Visit) (c : Choice) → IsStep e → visit_of s w e ≡ Some v → IsPut (after_visit s w e v c) v c
put_after s w e v c is visits = by (seats_stepped s w e v c is) where
  by : SeatsPut w (after_visit s w e v c) v c → IsPut (after_visit s w e v c) v c
  by put = record {
    seat = seat_with c.after put.agent;
    at = ap (λ (seats : List Seat). numbered seats v.node) put.seats ∙ put_here w.seats v.node v.seat (seat_with c.after put.agent) (visits_are_here s w e v visits).stands;
    core = refl;
  }

-- ---- the node behind a drain

begun_reads : (n : NodeState) → (begin n n.reading).reading ≡ n.reading
begun_reads n = (beginnings_end n n.reading).0.reading ∙ same_twice n.reading

drain_reads : (n : NodeState) (most : ℕ) → (after_drain n most).reading ≡ n.reading
unfolding after_drain
drain_reads n most = refl

put_by_drain : (s : Setting) (w : WorldState) (life most : ℕ) (seat : Seat) → seat_at w life ≡ Some seat
    → seat_at (drained_at s w life most (Some seat)) life ≡ Some (seat_with (after_drain (begin seat.core seat.core.reading) most) seat.agent)
put_by_drain s w life most seat here =
    let left = begin seat.core seat.core.reading in
    let put : Seat = seat_with (after_drain left most) seat.agent in
    ap (λ (seats : List Seat). numbered seats life) (sending_keeps_nodes s (with_seat w life put) life (take most left.queue) (closes left most))
    ∙ put_here w.seats life seat put here

drained_seat : (s : Setting) (w : WorldState) (life most : ℕ) (seat : Seat) → seat_at w life ≡ Some seat
    → seat_at (drained s w life most) life ≡ Some (seat_with (after_drain (begin seat.core seat.core.reading) most) seat.agent)
unfolding drained
drained_seat s w life most seat here =
    ap (λ (o : Option Seat). seat_at (drained_at s w life most o) life) here ∙ put_by_drain s w life most seat here

-- a drain leaves the reading
drain_leaves : (s : Setting) (w : WorldState) (life most now : ℕ) → Reads w life now → Reads (drained s w life most) life now
drain_leaves s w life most now r = record {
  seat = seat_with (after_drain (begin r.seat.core r.seat.core.reading) most) r.seat.agent;
  at = drained_seat s w life most r.seat r.at;
  reads = drain_reads (begin r.seat.core r.seat.core.reading) most ∙ begun_reads r.seat.core ∙ r.reads;
}

behind_leaves : (b : Bool) (s : Setting) (w : WorldState) (life now : ℕ) → Reads w life now → Reads (drained_behind b s w life) life now
behind_leaves true s w life now r = drain_leaves s w life event_drain now r
behind_leaves false s w life now r = r

-- ---- the life that makes an event's step

pub behind_of : (s : Setting) (w : WorldState) (e : Event) (v : Visit) (c : Choice) → visit_of s w e ≡ Some v → after_event s w e c ≡ drained_behind (drains e) s (after_visit s w e v c) v.node
unfolding after_event
behind_of s w e v c is = ap (λ (o : Option Visit). after_by s w e c o) is

step_left : (s : Setting) (w : WorldState) (e : Event) (v : Visit) (c : Choice) → IsStep e → visit_of s w e ≡ Some v → Reads (after_event s w e c) v.node c.after.reading
step_left s w e v c step is = by (put_after s w e v c step is) where
  by : IsPut (after_visit s w e v c) v c → Reads (after_event s w e c) v.node c.after.reading
  by put =
      subst (λ (x : WorldState). Reads x v.node c.after.reading) (sym (behind_of s w e v c is))
      (behind_leaves (drains e) s (after_visit s w e v c) v.node c.after.reading (record { seat = put.seat; at = put.at; reads = ap (λ (n : NodeState). n.reading) put.core }))

drain_left : (s : Setting) (w : WorldState) (node most : ℕ) (v : Visit) (c : Choice) → visit_of s w (event.Drain node most) ≡ Some v → Reads (after_event s w (event.Drain node most) c) v.node v.seat.core.reading
drain_left s w node most v c is =
    subst (λ (x : WorldState). Reads x v.node v.seat.core.reading) (sym (behind_of s w (event.Drain node most) v c is))
    (drain_leaves s w v.node most v.seat.core.reading (record { seat = v.seat; at = (visits_are_here s w (event.Drain node most) v is).stands; reads = refl }))

pub visit_step : (s : Setting) (w : WorldState) (e : Event) (v : Visit) (c : Choice) → visit_of s w e ≡ Some v → MayCome (visit_of s w e) c → VisitStep v c
visit_step s w e v c is comes = subst (λ (o : Option Visit). MayCome o c) is comes

-- a step that isn't a clock's leaves the reading of its node
own_left : (s : Setting) (w : WorldState) (e : Event) (v : Visit) (c : Choice) → IsStep e → IsNoClock e → visit_of s w e ≡ Some v → MayCome (visit_of s w e) c → Reads (after_event s w e c) v.node v.seat.core.reading
own_left s w e v c step still is comes =
    subst (λ n. Reads (after_event s w e c) v.node n) (own_reads v c (visit_step s w e v c is comes) (now_is s w e v still is)) (step_left s w e v c step is)

still_left : (s : Setting) (w : WorldState) (e : Event) (v : Visit) (c : Choice) → IsNoClock e → visit_of s w e ≡ Some v → MayCome (visit_of s w e) c → Reads (after_event s w e c) v.node v.seat.core.reading
still_left s w (event.Clock node millis) v c still is comes = absurd still
still_left s w (event.Want node shortest longest peer) v c still is comes = absurd (none-some v is)
still_left s w (event.Return node prefix peer) v c still is comes = absurd (none-some v is)
still_left s w (event.Drain node most) v c still is comes = drain_left s w node most v c is
still_left s w (event.Agent node hold) v c still is comes = own_left s w (event.Agent node hold) v c tt tt is comes
still_left s w (event.Api node asa call hold) v c still is comes = own_left s w (event.Api node asa call hold) v c tt tt is comes
still_left s w (event.Datagram index hold) v c still is comes = own_left s w (event.Datagram index hold) v c tt tt is comes
still_left s w (event.Arrive stream hold) v c still is comes = own_left s w (event.Arrive stream hold) v c tt tt is comes
still_left s w (event.Bytes stream far count hold) v c still is comes = own_left s w (event.Bytes stream far count hold) v c tt tt is comes
still_left s w (event.Cut stream far hold) v c still is comes = own_left s w (event.Cut stream far hold) v c tt tt is comes

-- ---- a member's reading

-- in a network with the same lives
reading_now : (w x : WorldState) (node now : ℕ) → x.lives ≡ w.lives → Reads x (present_life w node) now → reading_of x node ≡ now
reading_now w x node now lives r = ap (λ k. reading_in (seat_at x k)) (same_present w x node lives) ∙ ap reading_in r.at ∙ r.reads

-- a life that didn't change
reading_same : (w x : WorldState) (node : ℕ) → x.lives ≡ w.lives → seat_at x (present_life w node) ≡ seat_at w (present_life w node) → reading_of x node ≡ reading_of w node
reading_same w x node lives same = ap (λ k. reading_in (seat_at x k)) (same_present w x node lives) ∙ ap reading_in same

-- where one agent changed, the readings are as before
agent_same : (w x : WorldState) (node : ℕ) → OneAgent w x → reading_of x node ≡ reading_of w node
agent_same w x node o = by (present_life w node == o.node) refl where
  put : seat_at x o.node ≡ Some (seat_with o.seat.core o.agent)
  put = ap (λ (y : WorldState). seat_at y o.node) o.after ∙ put_here w.seats o.node o.seat (seat_with o.seat.core o.agent) o.here

  by : (b : Bool) → (present_life w node == o.node) ≡ b → reading_of x node ≡ reading_of w node
  by true is =
      let own : present_life w node ≡ o.node = eqb-true (present_life w node) o.node is in
      reading_now w x node o.seat.core.reading (one_lives w x o) (record { seat = seat_with o.seat.core o.agent; at = ap (λ k. seat_at x k) own ∙ put; reads = refl })
      ∙ sym (ap (λ k. reading_in (seat_at w k)) own ∙ ap reading_in o.here)
  by false is =
      reading_same w x node (one_lives w x o)
      (ap (λ (y : WorldState). seat_at y (present_life w node)) o.after
      ∙ put_elsewhere w.seats o.node (present_life w node) (seat_with o.seat.core o.agent) (one_least w x o) (eqb-false (present_life w node) o.node is))

none_after : (s : Setting) (w : WorldState) (e : Event) (c : Choice) → visit_of s w e ≡ None → after_event s w e c ≡ after_none s w e
unfolding after_event
none_after s w e c is = ap (λ (o : Option Visit). after_by s w e c o) is

-- no event but a clock changes a reading
pub readings_stay : (s : Setting) (w : WorldState) (e : Event) (c : Choice) → IsNoClock e → MayCome (visit_of s w e) c → (node : ℕ) → reading_of (after_event s w e c) node ≡ reading_of w node
readings_stay s w e c still comes node = by (visit_of s w e) refl where
  by_life : (v : Visit) → visit_of s w e ≡ Some v → (b : Bool) → (present_life w node == v.node) ≡ b → reading_of (after_event s w e c) node ≡ reading_of w node
  by_life v is true same =
      let own : present_life w node ≡ v.node = eqb-true (present_life w node) v.node same in
      reading_now w (after_event s w e c) node v.seat.core.reading (event_lives s w e c) (subst (λ k. Reads (after_event s w e c) k v.seat.core.reading) (sym own) (still_left s w e v c still is comes))
      ∙ sym (ap (λ k. reading_in (seat_at w k)) own ∙ ap reading_in (visits_are_here s w e v is).stands)
  by_life v is false same =
      reading_same w (after_event s w e c) node (event_lives s w e c) (others_stay s w e c v (present_life w node) is (eqb-false (present_life w node) v.node same))

  by : (o : Option Visit) → visit_of s w e ≡ o → reading_of (after_event s w e c) node ≡ reading_of w node
  by None is =
      subst (λ (x : WorldState). reading_of x node ≡ reading_of w node) (sym (none_after s w e c is))
      (none_one s w e (λ x. reading_of x node ≡ reading_of w node) refl (λ x o. agent_same w x node o))
  by (Some v) is = by_life v is (present_life w node == v.node) refl

-- ---- a clock

-- the node of a clock reads what its step leaves
pub clock_reads : (s : Setting) (w : WorldState) (node millis : ℕ) (v : Visit) (c : Choice) → visit_of s w (event.Clock node millis) ≡ Some v → v.node ≡ present_life w node
    → reading_of (after_event s w (event.Clock node millis) c) node ≡ c.after.reading
clock_reads s w node millis v c is own =
    reading_now w (after_event s w (event.Clock node millis) c) node c.after.reading (event_lives s w (event.Clock node millis) c)
    (subst (λ k. Reads (after_event s w (event.Clock node millis) c) k c.after.reading) own (step_left s w (event.Clock node millis) v c tt is))

-- and each other life what it did
pub clock_stays : (s : Setting) (w : WorldState) (node millis other : ℕ) (v : Visit) (c : Choice) → visit_of s w (event.Clock node millis) ≡ Some v → present_life w other ≢ v.node
    → reading_of (after_event s w (event.Clock node millis) c) other ≡ reading_of w other
clock_stays s w node millis other v c is apart =
    reading_same w (after_event s w (event.Clock node millis) c) other (event_lives s w (event.Clock node millis) c) (others_stay s w (event.Clock node millis) c v (present_life w other) is apart)
