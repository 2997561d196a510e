-- Each step is made by a present life, and a side that lives is at one.
use Rattle.std.proofs.Common.{◌≡◌, ◌≢◌, refl, sym, ◌∙◌, subst, arith, ℕ, ◌+◌, ◌<◌, nat_lt, Bool, true, false, cond, List, [], ◌∷◌, ◌++◌, fold, length, slice_get, take, Option, None, Some}
use Rattle.std.specs.List.{position, position_or_len}
use Rattle.std.proofs.lemmas.Bool.{ltb-true}
use Rattle.std.proofs.lemmas.Option.{none-some, same_Some}
use Rattle.grasp_model_node.specs.Begin.{begin}
use Rattle.grasp_model_node.specs.Draining.{closes, after_drain}
use Rattle.grasp_model_node.specs.Node.{NodeState}
use Rattle.grasp_model_node.specs.Queue.{Queued, datagram, dial, send, encoding}
use Rattle.grasp_laws_node.specs.Consistent.{TiesAreKept}
use Rattle.grasp_pool.specs.declared.image.PoolImage.{PoolImage}
use Rattle.grasp_session.specs.Messages.{Side, Near, Far, other}
use Rattle.grasp_types.specs.declared.address.Locator.{Locator}
use Rattle.grasp_types.specs.declared.message.Message.{Message}
use Rattle.grasp_types.specs.declared.reply.Reply.{Reply}
use Rattle.grasp_types.specs.declared.traffic.Input.{Input}
use Rattle.grasp_types.specs.declared.traffic.Input.TheVariants as input
use Rattle.grasp_laws_network.proofs.Lives.{present_is, same_is_present, stays_present}
use Rattle.grasp_laws_network.proofs.LivesKept.{lives_are_kept}
use Rattle.grasp_laws_network.proofs.Restarted.{Restarting, IsToldAt, same_end, was_so, not_own, lives_open}
use Rattle.grasp_laws_network.proofs.SameLives.{visit_lives, drained_lives}
use Rattle.grasp_laws_network.proofs.Staying.{reached_knows}
use Rattle.grasp_laws_network.proofs.Telling.{one_agent}
use Rattle.grasp_laws_network.specs.Lives.{LivesStand}
use Rattle.grasp_laws_network.specs.Telling.{OneAgent}
use Rattle.grasp_model_network.proofs.Facts.{numbered_all}
use Rattle.grasp_model_network.specs.Events.{IsFit, Occurs, visit_of, after_visit}
use Rattle.grasp_model_network.specs.EventSteps.{agent_visit, datagram_visit, datagram_at}
use Rattle.grasp_model_network.specs.Plans.{IsNode}
use Rattle.grasp_model_network.specs.Routes.{route_of}
use Rattle.grasp_model_network.specs.Runs.{IsReached, first_world}
use Rattle.grasp_model_network.specs.Sending.{gained, having_made, streams_made, seat_with, having_sent, having_closed, handed_over, drained, drained_at, drained_from}
use Rattle.grasp_model_network.specs.Setting.{Setting, numbered, is_at, counted_from_1, member_at}
use Rattle.grasp_model_network.specs.StreamChanges.{arrival_by, arrived, told, Reached, reached_side, side_named, delivered}
use Rattle.grasp_model_network.specs.Streams.{StreamEnd, StreamState, Arrival, Direction, lives, told_closed, fresh_stream, end_at, side_at, sent_by, next_bytes, with_direction, with_side, with_said, with_sent, with_ended, with_delivered, with_number, with_far, at_end, stream_numbered}
use Rattle.grasp_model_network.specs.Visits.{Visit, Choice}
use Rattle.grasp_model_network.specs.World.{Seat, SentDatagram, WorldState, present_life, member_of, is_present, seat_at, with_seat, end_of}
use Rattle.grasp_model_network.specs.declared.event.Event.{Event}
use Rattle.grasp_model_network.specs.declared.event.Event.TheVariants as event
use Rattle.grasp_laws_delivery.specs.Heads.{head_of}
use Rattle.grasp_laws_delivery.specs.Kept.{GoodHead}
use Rattle.grasp_laws_delivery.specs.Ready.{HasGoodEnds, SidesArePresent, StepsArePresent}
use Rattle.grasp_laws_delivery.specs.Saying.{OfEachStream}
use Rattle.grasp_laws_delivery.proofs.AfterSteps.{posted_each, streams_before, streams_stepped}
use Rattle.grasp_laws_delivery.proofs.Came.Inputs.{at_visit, clock_visit_is, agent_visit_is, IsOpening, opening_is, IsReaching, piece_is, cut_is}
use Rattle.grasp_laws_delivery.proofs.Counts.{every_of}
use Rattle.grasp_laws_delivery.proofs.FromReady.{every_at, good_within}
use Rattle.grasp_laws_delivery.proofs.Heard.Steps.{IsReachedSide, reached_is}
use Rattle.grasp_laws_delivery.proofs.Heard.Talks.{direction_sides}
use Rattle.grasp_laws_delivery.proofs.Holding.{IsStep, PartsKeep, parts_keep}
use Rattle.grasp_laws_delivery.proofs.OnePlace.{Placed, numbered_place}
use Rattle.grasp_laws_delivery.proofs.Received.{AllGo, all_go}
use Rattle.grasp_laws_delivery.proofs.Said.Talks.{direction_ends}
use Rattle.grasp_laws_delivery.proofs.Sides.{at_end_has, each_changed, each_push}
use Rattle.grasp_laws_delivery.proofs.Worlds.{reached_in_order}

-- ---- who makes a step

counted_node : (count i node : ℕ) → i < count → Some (i + 1) ≡ Some node → IsNode count node
counted_node count i node low is = subst (IsNode count) (same_Some (i + 1) node is) (record { least = omega arith; most = omega (arith, low) })

place_below : (k count i : ℕ) → cond (nat_lt k count) (Some k) None ≡ Some i → i < count
place_below k count i is = by_test (nat_lt k count) refl is where
  by_test : (b : Bool) → nat_lt k count ≡ b → cond b (Some k) None ≡ Some i → i < count
  by_test true low e = subst (λ j. j < count) (same_Some k i e) (ltb-true k count low)
  by_test false low e = absurd (none-some i e)

-- who listens at a locator is a member
listener_member : (s : Setting) (to : Locator) (node : ℕ) → member_at s to ≡ Some node → IsNode (length s.members) node
listener_member s to node is = by_place (position (is_at to) s.members) refl is where
  by_place : (o : Option ℕ) → position (is_at to) s.members ≡ o → counted_from_1 o ≡ Some node → IsNode (length s.members) node
  by_place None found e = absurd (none-some node e)
  by_place (Some i) found e = counted_node (length s.members) i node (place_below (position_or_len (is_at to) s.members) (length s.members) i found) e

module _ (s : Setting) (w : WorldState) (stand : LivesStand s w) (go : AllGo s w) (sides : SidesArePresent w) where
  member_present : (node : ℕ) → IsNode (length s.members) node → is_present w (present_life w node) ≡ true
  member_present node member = present_is w node (stand.own node member)

  -- a visit of a member's present life
  of_member : (v : Visit) (node : ℕ) → v.node ≡ present_life w node → IsNode (length s.members) node → is_present w v.node ≡ true
  of_member v node is member = subst (λ life. is_present w life ≡ true) (sym is) (member_present node member)

  of_datagram : (index : ℕ) (v : Visit) (o : Option SentDatagram) → numbered w.datagrams index ≡ o → datagram_at w o ≡ Some v → is_present w v.node ≡ true
  of_datagram index v None found is = absurd (none-some v is)
  of_datagram index v (Some d) found is =
      of_member v d.route.receiver (at_visit w (present_life w d.route.receiver) (input.Datagram d.route.link d.route.from (encoding d.message)) v is).node_is
      (numbered_all (λ x. IsNode (length s.members) x.route.receiver) w.datagrams index d go found)

  -- a side that is reached lives
  of_side : (k : ℕ) (side : Side) (v : Visit) (i : Reached → Input) → IsReaching w k side v i → is_present w v.node ≡ true
  of_side k side v i x = at_side (reached_is w k side x.reached x.found) where
    at_side : IsReachedSide w k side x.reached → is_present w v.node ≡ true
    at_side r = placed (numbered_place k w.streams x.reached.talk r.found) where
      placed : Placed w.streams x.reached.talk → is_present w v.node ≡ true
      placed p = subst (λ life. is_present w life ≡ true) (sym x.is.node_is) (sides p.place x.reached.talk p.stands side x.reached.at r.alive r.ends)

  pub step_present : (e : Event) (v : Visit) → IsFit s w e → visit_of s w e ≡ Some v → is_present w v.node ≡ true
  unfolding agent_visit datagram_visit
  step_present (event.Clock node millis) v fit is = of_member v node (clock_visit_is (present_life w node) millis v (seat_at w (present_life w node)) is).node_is fit
  step_present (event.Want node length longest peer) v fit is = absurd (none-some v is)
  step_present (event.Return node prefix peer) v fit is = absurd (none-some v is)
  step_present (event.Agent node hold) v fit is = of_member v node (agent_visit_is (present_life w node) v (seat_at w (present_life w node)) is).1.node_is fit
  step_present (event.Api node asa call hold) v fit is = of_member v node (at_visit w (present_life w node) (input.Api asa call) v is).node_is fit.0
  step_present (event.Datagram index hold) v fit is = of_datagram index v (numbered w.datagrams index) refl is
  step_present (event.Arrive stream hold) v fit is = opened (opening_is s w stream v is) where
    opened : IsOpening s w stream v → is_present w v.node ≡ true
    opened o = of_member v o.member o.node_is (listener_member s o.talk.to o.member o.listens)
  step_present (event.Bytes stream far count hold) v fit is =
      of_side stream (side_named far) v (λ x. input.Bytes x.at.number (next_bytes x.talk (other (side_named far)) count)) (piece_is w stream (side_named far) count v is)
  step_present (event.Cut stream far hold) v fit is = of_side stream (side_named far) v (λ x. input.Closed x.at.number) (cut_is w stream (side_named far) v is)
  step_present (event.Drain node max) v fit is = of_member v node (at_visit w (present_life w node) (input.Drain max) v is).node_is fit

-- ---- the sides of a stream

-- each side of the stream that lives is at a present life of this network
abbrev IsAtPresent : WorldState → StreamState → Type 0
IsAtPresent w t = (side : Side) (e : StreamEnd) → side_at t side ≡ lives → end_at t side ≡ Some e → is_present w e.node ≡ true

abbrev AreAtPresent : WorldState → List StreamState → Type 0
AreAtPresent w ts = OfEachStream (IsAtPresent w) ts

-- a change that leaves the ends of a stream, and how its sides stand
record KeepsSides (f : StreamState → Side → StreamState) : Type 0 where
  ends : (t : StreamState) (by side : Side) → end_at (f t by) side ≡ end_at t side
  sides : (t : StreamState) (by side : Side) → side_at (f t by) side ≡ side_at t side

said_sides : (m : Message) → KeepsSides (with_said m)
said_sides m = record { ends = ends; sides = sides } where
  ends : (t : StreamState) (by side : Side) → end_at (with_said m t by) side ≡ end_at t side
  ends t by Near = refl
  ends t by Far = refl

  sides : (t : StreamState) (by side : Side) → side_at (with_said m t by) side ≡ side_at t side
  sides t by Near = refl
  sides t by Far = refl

number_sides : (k : ℕ) → KeepsSides (with_number k)
number_sides k = record { ends = ends; sides = sides } where
  ends : (t : StreamState) (by side : Side) → end_at (with_number k t by) side ≡ end_at t side
  ends t by Near = refl
  ends t by Far = refl

  sides : (t : StreamState) (by side : Side) → side_at (with_number k t by) side ≡ side_at t side
  sides t by Near = refl
  sides t by Far = refl

-- a direction is changed
direction_keeps : (on : Side → Side) (d : StreamState → Side → Direction) → KeepsSides (λ t by. with_direction t (on by) (d t by))
direction_keeps on d = record { ends = λ t by side. direction_ends t side (on by) (d t by); sides = λ t by side. direction_sides t side (on by) (d t by) }

sent_sides : (m : Message) → KeepsSides (with_sent m)
sent_sides m = direction_keeps (λ by. by) (λ t by. record (sent_by t by) { sent = (sent_by t by).sent ++ m ∷ [] })

ended_sides : KeepsSides with_ended
ended_sides = direction_keeps (λ by. by) (λ t by. record (sent_by t by) { ended = true })

delivered_sides : (count : ℕ) → KeepsSides (with_delivered count)
delivered_sides count =
    direction_keeps other (λ t by. record (sent_by t (other by)) { delivered = (sent_by t (other by)).delivered + length (next_bytes t (other by) count) })

module _ (w : WorldState) where
  kept_at : (f : StreamState → Side → StreamState) → KeepsSides f → (e : StreamEnd) (t : StreamState) → IsAtPresent w t → IsAtPresent w (at_end e f t)
  kept_at f keeps e t k =
      at_end_has (IsAtPresent w) e f t (λ none. k) (λ by at side x alive there. k side x (sym (keeps.sides t by side) ∙ alive) (sym (keeps.ends t by side) ∙ there))

  closed_at : (t : StreamState) (by : Side) → IsAtPresent w t → IsAtPresent w (with_side told_closed t by)
  closed_at t Near k Near e alive at = absurd (cc)
  closed_at t Near k Far e alive at = k Far e alive at
  closed_at t Far k Near e alive at = k Near e alive at
  closed_at t Far k Far e alive at = absurd (cc)

  far_at : (far : StreamEnd) (a : Arrival) (t : StreamState) (by : Side) → is_present w far.node ≡ true → IsAtPresent w t → IsAtPresent w (with_far far a t by)
  far_at far a t by here k Near e alive at = k Near e alive at
  far_at far a t by here k Far e alive at = subst (λ (x : StreamEnd). is_present w x.node ≡ true) (same_Some far e at) here

  fresh_at : (near : StreamEnd) (to : Locator) → is_present w near.node ≡ true → IsAtPresent w (fresh_stream near to)
  fresh_at near to here Near e alive at = subst (λ (x : StreamEnd). is_present w x.node ≡ true) (same_Some near e at) here
  fresh_at near to here Far e alive at = absurd (none-some e at)

  -- ---- a step

  made_at : (node : ℕ) → is_present w node ≡ true → (qs : List Queued) (ts : List StreamState) → AreAtPresent w ts → AreAtPresent w (fold (having_made node) ts qs)
  made_at node here [] ts each = each
  made_at node here (datagram link to m ∷ qs) ts each = made_at node here qs ts each
  made_at node here (dial stream to ∷ qs) ts each =
      made_at node here qs (having_made node ts (dial stream to)) (each_push (IsAtPresent w) ts (fresh_stream (end_of node stream) to) (fresh_at (end_of node stream) to here) each)
  made_at node here (send stream m ∷ qs) ts each =
      made_at node here qs (having_made node ts (send stream m))
      (each_changed (IsAtPresent w) (IsAtPresent w) ts (end_of node stream) (with_said m) (kept_at (with_said m) (said_sides m) (end_of node stream)) each)

  arrived_at : (v : Visit) (number : ℕ) (r : Reply) (o : Option StreamState) → is_present w v.node ≡ true → AreAtPresent w w.streams → AreAtPresent w (arrived w v number r o).streams
  arrived_at v number r None here each = each
  arrived_at v number r (Some t) here each =
      each_changed (IsAtPresent w) (IsAtPresent w) w.streams t.near (with_far (end_of v.node number) (arrival_by r))
      (λ u k. at_end_has (IsAtPresent w) t.near (with_far (end_of v.node number) (arrival_by r)) u (λ none. k) (λ by at. far_at (end_of v.node number) (arrival_by r) u by here k)) each

  delivered_at : (count : ℕ) (o : Option Reached) → AreAtPresent w w.streams → AreAtPresent w (delivered w count o).streams
  delivered_at count None each = each
  delivered_at count (Some x) each =
      each_changed (IsAtPresent w) (IsAtPresent w) w.streams x.at (with_delivered count) (kept_at (with_delivered count) (delivered_sides count) x.at) each

  told_at_end : (o : Option Reached) → AreAtPresent w w.streams → AreAtPresent w (told w o).streams
  told_at_end None each = each
  told_at_end (Some x) each =
      each_changed (IsAtPresent w) (IsAtPresent w) w.streams x.at (with_side told_closed)
      (λ t k. at_end_has (IsAtPresent w) x.at (with_side told_closed) t (λ none. k) (λ by at. closed_at t by k)) each

  before_at : (s : Setting) (e : Event) (v : Visit) (c : Choice) → is_present w v.node ≡ true → AreAtPresent w w.streams → AreAtPresent w (streams_before s w e v c)
  before_at s (event.Arrive stream hold) v c here each = arrived_at v (s.arrives_as v.node stream) c.reply (stream_numbered w.streams stream) here each
  before_at s (event.Bytes stream far count hold) v c here each = delivered_at count (reached_side w stream (side_named far)) each
  before_at s (event.Cut stream far hold) v c here each = told_at_end (reached_side w stream (side_named far)) each
  before_at s _ v c here each = each

  step_at : (s : Setting) (e : Event) (v : Visit) (c : Choice) → IsStep e → is_present w v.node ≡ true → AreAtPresent w w.streams → AreAtPresent w (after_visit s w e v c).streams
  unfolding streams_made
  step_at s e v c is here each =
      subst (AreAtPresent w) (sym (streams_stepped s w e v c is)) (made_at v.node here (gained v.seat.core c.after) (streams_before s w e v c) (before_at s e v c here each))

  -- ---- a drain

  handed_at : (s : Setting) (node : ℕ) (qs : List Queued) (x : WorldState) → AreAtPresent w x.streams → AreAtPresent w (fold (having_sent s node) x qs).streams
  handed_at s node [] x each = each
  handed_at s node (datagram link to m ∷ qs) x each =
      handed_at s node qs (having_sent s node x (datagram link to m)) (posted_each (IsAtPresent w) x m (route_of s (member_of x node) link to) each)
  handed_at s node (dial stream to ∷ qs) x each =
      handed_at s node qs (having_sent s node x (dial stream to))
      (each_changed (IsAtPresent w) (IsAtPresent w) x.streams (end_of node stream) (with_number (x.dials + 1))
      (kept_at (with_number (x.dials + 1)) (number_sides (x.dials + 1)) (end_of node stream)) each)
  handed_at s node (send stream m ∷ qs) x each =
      handed_at s node qs (having_sent s node x (send stream m))
      (each_changed (IsAtPresent w) (IsAtPresent w) x.streams (end_of node stream) (with_sent m) (kept_at (with_sent m) (sent_sides m) (end_of node stream)) each)

  ended_at : (node : ℕ) (streams : List ℕ) (x : WorldState) → AreAtPresent w x.streams → AreAtPresent w (fold (having_closed node) x streams).streams
  ended_at node [] x each = each
  ended_at node (stream ∷ streams) x each =
      ended_at node streams (having_closed node x stream)
      (each_changed (IsAtPresent w) (IsAtPresent w) x.streams (end_of node stream) with_ended (kept_at with_ended ended_sides (end_of node stream)) each)

  drained_by_at : (s : Setting) (node max : ℕ) (o : Option Seat) → AreAtPresent w w.streams → AreAtPresent w (drained_at s w node max o).streams
  unfolding handed_over
  drained_by_at s node max None each = each
  drained_by_at s node max (Some seat) each = from (begin seat.core seat.core.reading) where
    from : (m : NodeState) → AreAtPresent w (drained_from s w node seat m max).streams
    from m =
        ended_at node (closes m max) (fold (having_sent s node) (with_seat w node (seat_with (after_drain m max) seat.agent)) (take max m.queue))
        (handed_at s node (take max m.queue) (with_seat w node (seat_with (after_drain m max) seat.agent)) each)

-- ---- networks with the same lives

same_at : (w x : WorldState) → x.lives ≡ w.lives → (ts : List StreamState) → AreAtPresent w ts → AreAtPresent x ts
same_at w x same ts each place t found side e alive at = same_is_present w x e.node same ∙ each place t found side e alive at

one_at : (w x : WorldState) → OneAgent w x → SidesArePresent w → SidesArePresent x
one_at w x o each = subst SidesArePresent (sym o.after) each

-- ---- a restart: the sides of the life that ends are told, and all other lives are present where they were

module _ (ties : TiesAreKept) (s : Setting) where
  -- the ends of streams are at lives
  at_life : (w : WorldState) → IsReached s w → (place : ℕ) (t : StreamState) → slice_get w.streams place ≡ Some t → (side : Side) (e : StreamEnd) → end_at t side ≡ Some e → IsNode (length w.lives) e.node
  at_life w r place t found side e at =
      subst (λ count. IsNode count e.node) (reached_knows s w r)
      (good_within s (length w.seats) w.dials t
      (every_at (λ x. HasGoodEnds s (length w.seats) w.dials x.near x.number x.far) w.streams
      (every_of (GoodHead s (length w.seats) w.dials) head_of w.streams (reached_in_order ties s w r).streams.kept.ends) place t found) side e at)

  restarted_at : (w x : WorldState) (node : ℕ) (image : PoolImage) → IsReached s w → Restarting s w node image x → SidesArePresent w → SidesArePresent x
  restarted_at w x node image r t each place u found side e alive at = was (t.were_told place u found) where
    life : ℕ
    life = present_life w node

    was : (y : StreamState) × (slice_get w.streams place ≡ Some y) × IsToldAt s node life y u → is_present x e.node ≡ true
    was m =
        let there : end_at m.0 side ≡ Some e = sym (same_end s node life m.0 u m.2 side) ∙ at in
        let open_still : side_at u side ≢ told_closed = lives_open (side_at u side) alive in
        let lived : side_at m.0 side ≡ lives = sym (was_so s node life m.0 u m.2 side open_still).1 ∙ alive in
        stays_present w x node t.lives e.node (at_life w r place m.0 m.1 side e there) (not_own s node life m.0 u m.2 side e there open_still)
        ∙ each place m.0 m.1 side e lived there

  -- ---- every turn

  stepped_at : (w : WorldState) (e : Event) (c : Choice) (v : Visit) → IsReached s w → SidesArePresent w → Occurs s w e c → visit_of s w e ≡ Some v → IsStep e → SidesArePresent (after_visit s w e v c)
  stepped_at w e c v r each o is step =
      same_at w (after_visit s w e v c) (visit_lives s w e v c) (after_visit s w e v c).streams
      (step_at w s e v c step (step_present s w (lives_are_kept s w r) (all_go s w r) each e v o.fit is) each)

  drained_present : (w : WorldState) (node max : ℕ) → SidesArePresent w → SidesArePresent (drained s w node max)
  unfolding drained
  drained_present w node max each = same_at w (drained s w node max) (drained_lives s w node max) (drained s w node max).streams (drained_by_at w s node max (seat_at w node) each)

  present_parts : PartsKeep s SidesArePresent
  present_parts = record {
    steps = λ w e c v r each o is step reached. stepped_at w e c v r each o is step;
    told = λ w x e r t each. one_at w x (one_agent s w e x t) each;
    drains = λ w node max r each least. drained_present w node max each;
    settles = λ w x node p r t each. one_at w x t.one each;
    restarts = λ w x node image r t each. restarted_at w x node image r t each;
  }

  pub sides_present : (w : WorldState) → IsReached s w → SidesArePresent w
  unfolding first_world
  sides_present w r = parts_keep s SidesArePresent present_parts (λ place t found. absurd (none-some t found)) w r

pub steps_are_present : TiesAreKept → StepsArePresent
steps_are_present ties s w e v r fit is = step_present s w (lives_are_kept s w r) (all_go s w r) (sides_present ties s w r) e v fit is
