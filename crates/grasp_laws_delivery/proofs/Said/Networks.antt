-- In every network that turns lead to, what a side said is what it sent, and then what is queued at its node.
use Rattle.std.proofs.Common.{◌≡◌, ◌≢◌, ◌≤◌, true, refl, sym, ap, ◌∙◌, subst, arith, ℕ, ◌+◌, List, [], ◌++◌, fold, map, length, take, drop, take-append-drop, slice_get, Option, None, Some}
use Rattle.std.proofs.lemmas.Option.{none-some, same_Some}
use Rattle.grasp_agent.specs.States.{AgentState}
use Rattle.grasp_laws_node.proofs.Beginning.{beginnings_end}
use Rattle.grasp_model_node.specs.Begin.{begin}
use Rattle.grasp_model_node.specs.Draining.{closes, after_drain}
use Rattle.grasp_model_node.specs.Node.{NodeState}
use Rattle.grasp_model_node.specs.Queue.{Queued}
use Rattle.grasp_pool.specs.declared.image.PoolImage.{PoolImage}
use Rattle.grasp_session.specs.Messages.{Side, Near, Far}
use Rattle.grasp_laws_network.proofs.EachNode.{IsMade, is_made}
use Rattle.grasp_laws_network.proofs.Here.{visits_are_here}
use Rattle.grasp_laws_network.proofs.Telling.{one_agent}
use Rattle.grasp_laws_network.proofs.Restarted.{Restarting, restart_seats, begun_seat}
use Rattle.grasp_laws_network.proofs.Queues.{queues_grow}
use Rattle.grasp_laws_network.specs.Telling.{OneAgent}
use Rattle.grasp_model_network.specs.StreamChanges.{arrival_by, arrived, reached_side, side_named}
use Rattle.grasp_model_network.specs.Events.{Occurs, visit_of, after_visit}
use Rattle.grasp_model_network.specs.Restarting.{told_at}
use Rattle.grasp_model_network.specs.Runs.{IsReached, first_world}
use Rattle.grasp_model_network.specs.Sending.{gained, having_made, streams_made, seat_with, having_sent, handed_over, drained, drained_at, drained_from}
use Rattle.grasp_model_network.specs.Setting.{Setting}
use Rattle.grasp_model_network.specs.Streams.{StreamEnd, StreamState, Arrival, is_waiting, end_at, sent_by, with_far, at_end, change_at_end, stream_numbered}
use Rattle.grasp_model_network.specs.Visits.{Visit, Choice, VisitStep, MayCome}
use Rattle.grasp_model_network.specs.World.{Seat, WorldState, present_life, seat_at, with_seat, end_of}
use Rattle.grasp_model_network.specs.declared.event.Event.{Event}
use Rattle.grasp_model_network.specs.declared.event.Event.TheVariants as event
use Rattle.grasp_laws_delivery.specs.Ready.{StreamsAreReady}
use Rattle.grasp_laws_delivery.proofs.AfterSteps.{streams_before, streams_stepped, seats_stepped, each_seat, each_drained, agent_keeps}
use Rattle.grasp_laws_delivery.proofs.Fresh.{DialsAreFresh, fresh_behind}
use Rattle.grasp_laws_delivery.proofs.Holding.{IsStep, PartsKeep, parts_keep}
use Rattle.grasp_laws_delivery.proofs.Came.Inputs.{takes_nothing, IsOpening, opening_is}
use Rattle.grasp_laws_delivery.proofs.FromReady as needs
use Rattle.grasp_laws_delivery.proofs.OnePlace.{has_it, one_talk, Placed, numbered_place}
use Rattle.grasp_laws_delivery.proofs.Said.Steps.{all_made, all_elsewhere, all_sent, all_sent_elsewhere, all_closed, delivered_all, told_all, restarted_all}
use Rattle.grasp_laws_delivery.proofs.Said.Talks.{Speaks}
use Rattle.grasp_laws_delivery.proofs.Sane.{IsSane}
use Rattle.grasp_laws_delivery.proofs.SaneNetworks.{AreSane, sane}
use Rattle.grasp_laws_delivery.proofs.Sides.{at_end_has}
use Rattle.grasp_laws_delivery.specs.Saying.{OfEachStream, queued_for, said_by, SaysNothingUnopened, IsDeliveredWithin, SaidIsSentOrQueued}

-- each side at this node, of each stream, said what it sent and then what the node has queued for the stream
abbrev pub Speak : List StreamState → ℕ → Seat → Type 0
Speak ts node seat = OfEachStream (Speaks node seat.core.queue) ts

abbrev pub AllSpeak : WorldState → Type 0
AllSpeak w = (node : ℕ) (seat : Seat) → seat_at w node ≡ Some seat → Speak w.streams node seat

-- ---- a stream that is opened

-- what is so of each stream after one of them was changed, by the stream and its place
pub changed_at : (Q : StreamState → Type 0) (ts : List StreamState) (e : StreamEnd) (f : StreamState → Side → StreamState) → ((place : ℕ) (t : StreamState) → slice_get ts place ≡ Some t → Q (at_end e f t))
    → OfEachStream Q (change_at_end ts e f)
changed_at Q ts e f turn place u found = by_made (is_made (at_end e f) ts place u found) where
  by_made : IsMade (at_end e f) ts place u → Q u
  by_made m = subst Q m.made (turn place m.of m.stands)

opened_speaks : (node : ℕ) (queue : List Queued) (far : StreamEnd) (a : Arrival) (t : StreamState) (side : Side) → t.far ≡ None → t.near ≢ far → IsSane t
    → ((stream : ℕ) → far ≡ end_of node stream → queued_for stream queue ≡ []) → Speaks node queue t → Speaks node queue (with_far far a t side)
opened_speaks node queue far a t side none apart sane unqueued k = record { distinct = λ e f g. apart (g ∙ sym (same_Some far e f)); said = by_side } where
  by_side : (x : Side) (stream : ℕ) → end_at (with_far far a t side) x ≡ Some (end_of node stream) → said_by (with_far far a t side) x ≡ (sent_by (with_far far a t side) x).sent ++ queued_for stream queue
  by_side Near stream at = k.said Near stream at
  by_side Far stream at =
      sane.said none ∙ sym (ap (λ ms. ms ++ queued_for stream queue) (sane.sent none) ∙ unqueued stream (same_Some far (end_of node stream) at))

-- what an opening leaves: no stream had the new end before
opened_all : (node : ℕ) (queue : List Queued) (ts : List StreamState) (t : StreamState) (far : StreamEnd) (a : Arrival) → Placed ts t → is_waiting t.far_side ≡ true → AreSane ts
    → ((e : StreamEnd) (i j : ℕ) (x y : StreamState) → slice_get ts i ≡ Some x → slice_get ts j ≡ Some y → (p q : Side) → end_at x p ≡ Some e → end_at y q ≡ Some e → x ≡ y)
    → OfEachStream (λ u. (side : Side) → end_at u side ≢ Some far) ts → ((stream : ℕ) → far ≡ end_of node stream → queued_for stream queue ≡ []) → OfEachStream (Speaks node queue) ts
    → OfEachStream (Speaks node queue) (change_at_end ts t.near (with_far far a))
opened_all node queue ts t far a here waits sane one new unqueued each = changed_at (Speaks node queue) ts t.near (with_far far a) by_place where
  by_place : (place : ℕ) (u : StreamState) → slice_get ts place ≡ Some u → Speaks node queue (at_end t.near (with_far far a) u)
  by_place place u found = at_end_has (Speaks node queue) t.near (with_far far a) u (λ none. each place u found) some where
    some : (side : Side) → end_at u side ≡ Some t.near → Speaks node queue (with_far far a u side)
    some side at =
        let same : t ≡ u = one t.near here.place place t u here.stands found Near side refl at in
        opened_speaks node queue far a u side
        (subst (λ (x : StreamState). x.far ≡ None) same ((sane here.place t here.stands).waiting waits))
        (λ e. new place u found Near (ap (λ (x : StreamEnd). Some x) e)) (sane place u found) unqueued (each place u found)

module _ (ready : StreamsAreReady) where
  -- ---- a step

  -- the step of the node
  steps_of : (s : Setting) (w : WorldState) (e : Event) (c : Choice) (v : Visit) → visit_of s w e ≡ Some v → Occurs s w e c → VisitStep v c
  steps_of s w e c v is o = subst (λ (x : Option Visit). MayCome x c) is o.comes

  -- two streams with one end are the same
  pub same_end_one : (s : Setting) (w : WorldState) → IsReached s w → (e : StreamEnd) (i j : ℕ) (x y : StreamState) → slice_get w.streams i ≡ Some x → slice_get w.streams j ≡ Some y → (p q : Side)
      → end_at x p ≡ Some e → end_at y q ≡ Some e → x ≡ y
  same_end_one s w r e i j x y a b p q f g = one_talk e w.streams i j x y (ready.apart s w r e) a (has_it x e p f) b (has_it y e q g)

  -- the streams before what the step has queued
  before_speaks : (s : Setting) (w : WorldState) (e : Event) (v : Visit) (c : Choice) (node : ℕ) (seat : Seat) → IsReached s w → visit_of s w e ≡ Some v → seat_at w node ≡ Some seat → Speak w.streams node seat
      → Speak (streams_before s w e v c) node seat
  before_speaks s w (event.Arrive k hold) v c node seat r is here each = opened (opening_is s w k v is) where
    far : StreamEnd
    far = end_of v.node (s.arrives_as v.node k)

    opened : IsOpening s w k v → Speak (arrived w v (s.arrives_as v.node k) c.reply (stream_numbered w.streams k)).streams node seat
    opened o = subst (λ (x : Option StreamState). Speak (arrived w v (s.arrives_as v.node k) c.reply x).streams node seat) (sym o.found)
        (opened_all node seat.core.queue w.streams o.talk far (arrival_by c.reply) (numbered_place k w.streams o.talk o.found) o.waiting (sane s w r) (same_end_one s w r) (needs.new_end ready s w r k v is)
        (λ stream e. needs.unqueued ready s w r node seat here stream (λ place t found side at. needs.new_end ready s w r k v is place t found side (at ∙ ap (λ (x : StreamEnd). Some x) (sym e)))) each)
  before_speaks s w (event.Bytes stream far count hold) v c node seat r is here each = delivered_all node seat.core.queue w count (reached_side w stream (side_named far)) each
  before_speaks s w (event.Cut stream far hold) v c node seat r is here each = told_all node seat.core.queue w (reached_side w stream (side_named far)) each
  before_speaks s w _ v c node seat r is here each = each

  -- what the step leaves at its own node
  own_speaks : (s : Setting) (w : WorldState) (e : Event) (c : Choice) (v : Visit) (agent : AgentState) → IsReached s w → AllSpeak w → Occurs s w e c → visit_of s w e ≡ Some v → IsStep e
      → IsReached s (after_visit s w e v c) → seat_at (after_visit s w e v c) v.node ≡ Some (seat_with c.after agent)
      → Speak (after_visit s w e v c).streams v.node (seat_with c.after agent)
  unfolding streams_made
  own_speaks s w e c v agent r all o is step reached there =
      subst (λ ts. OfEachStream (Speaks v.node c.after.queue) ts) (sym (streams_stepped s w e v c step))
      (subst (λ (queue : List Queued). OfEachStream (Speaks v.node queue) (fold (having_made v.node) (streams_before s w e v c) (gained v.seat.core c.after))) (sym grows)
      (all_made v.node (gained v.seat.core c.after) v.seat.core.queue (streams_before s w e v c) fresh
      (before_speaks s w e v c v.node v.seat r is stands (all v.node v.seat stands)))) where
        stands : seat_at w v.node ≡ Some v.seat
        stands = (visits_are_here s w e v is).stands

        grows : c.after.queue ≡ v.seat.core.queue ++ gained v.seat.core c.after
        grows = queues_grow v c (takes_nothing s w e v is step) (steps_of s w e c v is o)

        fresh : DialsAreFresh v.seat.core.queue (gained v.seat.core c.after)
        fresh =
            fresh_behind [] v.seat.core.queue (gained v.seat.core c.after)
            (subst (λ (queue : List Queued). DialsAreFresh [] queue) grows (needs.fresh ready s (after_visit s w e v c) reached v.node (seat_with c.after agent) there))

  -- after a step at one node, each side at another node still said what it sent and then what is queued there
  other_speaks : (s : Setting) (w : WorldState) (e : Event) (c : Choice) (v : Visit) (node : ℕ) (seat : Seat) → IsReached s w → AllSpeak w → visit_of s w e ≡ Some v → IsStep e → node ≢ v.node
      → seat_at w node ≡ Some seat → Speak (after_visit s w e v c).streams node seat
  unfolding streams_made
  other_speaks s w e c v node seat r all is step differs here =
      subst (λ ts. OfEachStream (Speaks node seat.core.queue) ts) (sym (streams_stepped s w e v c step))
      (all_elsewhere node v.node seat.core.queue (gained v.seat.core c.after) (streams_before s w e v c) differs
      (before_speaks s w e v c node seat r is here (all node seat here)))

  step_speaks : (s : Setting) (w : WorldState) (e : Event) (c : Choice) (v : Visit) → IsReached s w → AllSpeak w → Occurs s w e c → visit_of s w e ≡ Some v → IsStep e → IsReached s (after_visit s w e v c)
      → AllSpeak (after_visit s w e v c)
  step_speaks s w e c v r all o is step reached =
      each_seat (λ node seat. Speak (after_visit s w e v c).streams node seat) w (after_visit s w e v c) v c (visits_are_here s w e v is).member.least (seats_stepped s w e v c step)
      (λ agent is_agent there. own_speaks s w e c v agent r all o is step reached there) (λ node seat differs here. other_speaks s w e c v node seat r all is step differs here)

  -- ---- a drain

  drained_speak : (s : Setting) (w : WorldState) (node max : ℕ) (seat : Seat) (m : NodeState) → 1 ≤ node → seat_at w node ≡ Some seat → m.queue ≡ seat.core.queue → AllSpeak w → AllSpeak (drained_from s w node seat m max)
  unfolding handed_over after_drain
  drained_speak s w node max seat m least here queue all =
      each_drained (λ n other. Speak (drained_from s w node seat m max).streams n other) s w node seat m max least own others where
        put : WorldState
        put = with_seat w node (seat_with (after_drain m max) seat.agent)

        own : Speak (drained_from s w node seat m max).streams node (seat_with (after_drain m max) seat.agent)
        own =
            all_closed node node (drop max m.queue) (closes m max) (fold (having_sent s node) put (take max m.queue))
            (all_sent s node (take max m.queue) (drop max m.queue) put
            (subst (λ (q : List Queued). OfEachStream (Speaks node q) w.streams) (sym (take-append-drop max m.queue ∙ queue)) (all node seat here)))

        others : (n : ℕ) (other : Seat) → n ≢ node → seat_at w n ≡ Some other → Speak (drained_from s w node seat m max).streams n other
        others n other differs there =
            all_closed n node other.core.queue (closes m max) (fold (having_sent s node) put (take max m.queue))
            (all_sent_elsewhere s n node other.core.queue (take max m.queue) put differs (all n other there))

  drain_speaks : (s : Setting) (w : WorldState) (node max : ℕ) (o : Option Seat) → 1 ≤ node → seat_at w node ≡ o → AllSpeak w → AllSpeak (drained_at s w node max o)
  drain_speaks s w node max None least here all = all
  drain_speaks s w node max (Some seat) least here all =
      drained_speak s w node max seat (begin seat.core seat.core.reading) least here (beginnings_end seat.core seat.core.reading).0.queue all

  -- ---- another agent, and a restart

  one_speaks : (w x : WorldState) → OneAgent w x → AllSpeak w → AllSpeak x
  one_speaks w x o all = agent_keeps Speak w x o (λ each. each) all

  -- no stream has an end at a life that begins
  begun_speaks : (s : Setting) (w : WorldState) (seat : Seat) → IsReached s w → Speak w.streams (length w.seats + 1) seat
  begun_speaks s w seat r place t found = record {
    distinct = needs.distinct ready s w r place t found;
    said = λ side stream at. absurd (needs.none_beyond ready s w r (length w.seats + 1) stream (omega arith) place t found side at);
  }

  restart_speaks : (s : Setting) (w x : WorldState) (node : ℕ) (image : PoolImage) → IsReached s w → Restarting s w node image x → AllSpeak w → AllSpeak x
  restart_speaks s w x node image r t all =
      subst (λ (ts : List StreamState). (n : ℕ) (other : Seat) → seat_at x n ≡ Some other → Speak ts n other) (sym t.streams)
      (restart_seats (λ n other. Speak (map (told_at s node life) w.streams) n other) s w node image x t
      (restarted_all s node life life t.seat.core.queue w.streams (all life t.seat t.here))
      (restarted_all s node life (length w.seats + 1) begun.core.queue w.streams (begun_speaks s w begun r))
      (λ n other there. restarted_all s node life n other.core.queue w.streams (all n other there)))
    where
      life : ℕ
      life = present_life w node

      begun : Seat
      begun = begun_seat t.member image

  -- ---- every turn

  parts_speak : (s : Setting) → PartsKeep s AllSpeak
  unfolding drained
  parts_speak s = record {
    steps = λ w e c v r all o is step reached. step_speaks s w e c v r all o is step reached;
    told = λ w x e r t all. one_speaks w x (one_agent s w e x t) all;
    drains = λ w node max r all least. drain_speaks s w node max (seat_at w node) least refl all;
    settles = λ w x node p r t all. one_speaks w x t.one all;
    restarts = λ w x node image r t all. restart_speaks s w x node image r t all;
  }

  pub all_speak : (s : Setting) (w : WorldState) → IsReached s w → AllSpeak w
  unfolding first_world
  all_speak s w r = parts_keep s AllSpeak (parts_speak s) (λ node seat here place t found. absurd (none-some t found)) w r

  -- ---- the law

  pub said_is_sent_or_queued : SaidIsSentOrQueued
  said_is_sent_or_queued = record {
    said = λ s w r node seat here place t found. (all_speak s w r node seat here place t found).said;
    unopened = λ s w r place t found. unopened t (sane s w r place t found);
    within = λ s w r place t found. within t (sane s w r place t found);
  } where
    unopened : (t : StreamState) → IsSane t → SaysNothingUnopened t
    unopened t k = record { said = k.said; sent = k.sent; came = k.came }

    within : (t : StreamState) → IsSane t → IsDeliveredWithin t
    within t k Near = k.near_within
    within t k Far = k.far_within
