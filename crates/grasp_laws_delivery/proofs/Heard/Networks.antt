-- In every network that turns lead to, what came on an open stream is what was delivered of what the other side sent.
use Rattle.std.proofs.Common.{◌≡◌, ◌≢◌, refl, sym, ap, ◌∙◌, subst, arith, ℕ, ◌+◌, ◌-◌, ◌*◌, ◌<◌, ◌≤◌, ◌==◌, zero, suc, Bool, true, false, cond, List, [], ◌∷◌, fold, take, length, slice_get, map, Option, None, Some, All}
use Rattle.std.proofs.lemmas.List.Elements.{All-nil}
use Rattle.std.proofs.lemmas.Option.{none-some}
use Rattle.grasp_agent.specs.Reopening.{retired}
use Rattle.grasp_agent.specs.States.{AgentState}
use Rattle.grasp_laws_node.proofs.Beginning.{beginnings_end}
use Rattle.grasp_model_node.specs.Begin.{begin}
use Rattle.grasp_model_node.specs.Bytes.{Adds, past_after}
use Rattle.grasp_model_node.specs.Draining.{closes, drained, after_drain}
use Rattle.grasp_model_node.specs.Node.{NodeState, first_node}
use Rattle.grasp_model_node.specs.Step.{Coming, NodeStep}
use Rattle.grasp_model_node.specs.Streams.{StreamsState, no_streams, next_stream, past_of}
use Rattle.grasp_model_node.specs.declared.plan.NodePlan.{NodePlan}
use Rattle.grasp_laws_node.proofs.DialNodes.{dials_counted}
use Rattle.grasp_laws_node.proofs.Drains.{drains_dial_nothing}
use Rattle.grasp_laws_node.specs.Dials.{DialsNext, dialled_in, evens_from}
use Rattle.grasp_pool.specs.Functions.{pool_of, pool_of_image}
use Rattle.grasp_pool.specs.Holdings.{Holding}
use Rattle.grasp_pool.specs.declared.image.PoolImage.{PoolImage}
use Rattle.grasp_session.specs.Messages.{Side, other}
use Rattle.grasp_types.specs.declared.reply.Reply.{Reply}
use Rattle.grasp_types.specs.declared.reply.Reply.TheVariants as reply
use Rattle.grasp_types.specs.declared.traffic.Input.{Input}
use Rattle.grasp_types.specs.declared.traffic.Input.TheVariants as input
use Rattle.grasp_wire.proofs.Joins.{divides_alone}
use Rattle.grasp_wire.proofs.ReadingOn.{nothing_waits}
use Rattle.grasp_wire.specs.Cutter.{Past, Waits, no_past}
use Rattle.grasp_wire.specs.Stream.{waiting}
use Rattle.grasp_laws_network.proofs.Begun.{begun_streams}
use Rattle.grasp_laws_network.proofs.EachNode.{IsMade, is_made, drain_steps, reached_each, nodes_are_sound}
use Rattle.grasp_laws_network.proofs.Here.{visits_are_here}
use Rattle.grasp_laws_network.proofs.Telling.{one_agent}
use Rattle.grasp_laws_network.proofs.Restarted.{Restarting, restart_seats}
use Rattle.grasp_laws_network.specs.Telling.{OneAgent}
use Rattle.grasp_laws_node.proofs.PlansStay.{step_plan}
use Rattle.grasp_model_network.proofs.Facts.{numbered_all}
use Rattle.grasp_model_network.specs.StreamChanges.{arrived, told, Reached, reached_side, side_named, delivered}
use Rattle.grasp_model_network.specs.Events.{Occurs, visit_of, after_visit}
use Rattle.grasp_model_network.specs.GoodSetting.{IsGoodMember}
use Rattle.grasp_model_network.specs.Runs.{IsReached, first_world}
use Rattle.grasp_model_network.specs.Openings.{first_seat, opened_seat}
use Rattle.grasp_model_network.specs.Restarting.{told_at}
use Rattle.grasp_model_network.specs.Sending as network
use Rattle.grasp_model_network.specs.Sending.{gained, having_made, streams_made, seat_with, having_sent, handed_over, drained_at, drained_from}
use Rattle.grasp_model_network.specs.Setting.{Member, Setting, numbered}
use Rattle.grasp_model_network.specs.Streams.{StreamEnd, StreamState, end_at, next_bytes, stream_numbered}
use Rattle.grasp_model_network.specs.Visits.{Visit, Choice, VisitStep, MayCome, no_choice}
use Rattle.grasp_model_network.specs.World.{Seat, WorldState, present_life, seat_at, with_seat, end_of}
use Rattle.grasp_model_network.specs.declared.event.Event.{Event}
use Rattle.grasp_model_network.specs.declared.event.Event.TheVariants as event
use Rattle.grasp_laws_delivery.specs.Ready.{StreamsAreReady}
use Rattle.grasp_laws_delivery.proofs.AfterSteps.{streams_before, streams_stepped, seats_stepped, each_seat, each_drained, agent_keeps}
use Rattle.grasp_laws_delivery.proofs.Heard.Steps.{made_heard, dial_heard, all_sent_heard, all_closed_heard, IsReachedSide, reached_is, delivered_heard, piece_heard, told_heard, restarted_heard, arrived_heard, opened_heard}
use Rattle.grasp_laws_delivery.proofs.Heard.Talks.{IsHeard}
use Rattle.grasp_laws_delivery.proofs.Holding.{IsStep, PartsKeep, parts_keep}
use Rattle.grasp_laws_delivery.proofs.Came.Inputs.{IsQuiet, agent_quiet, call_quiet, datagram_quiet, clock_quiet, IsOpening, opening_is, IsReaching, piece_is, cut_is}
use Rattle.grasp_laws_delivery.proofs.FromReady as needs
use Rattle.grasp_laws_delivery.proofs.OnePlace.{numbered_place}
use Rattle.grasp_laws_node.proofs.Records.Moves.{OpenHolds, Holds}
use Rattle.grasp_laws_node.proofs.Records.Nodes.{Dials, Turns, step_holds, open_has, weaker}
use Rattle.grasp_laws_delivery.proofs.Said.Networks.{same_end_one}
use Rattle.grasp_laws_delivery.proofs.SaneNetworks.{AreSane, sane}
use Rattle.grasp_laws_delivery.proofs.Sides.{one_side}
use Rattle.grasp_laws_delivery.specs.Records.{HasCome, HasComeAt, IsOpenStream, RecordsHoldWhatCame}
use Rattle.grasp_laws_delivery.specs.Saying.{OfEachStream}

-- ---- what is so of each open stream of a node

-- what came on the stream of this number
abbrev pub HeardOn : List StreamState → ℕ → ℕ → ℕ → Past → Type 0
HeardOn ts node limit stream past = IsHeard ts (end_of node stream) limit past

abbrev pub Hears : List StreamState → ℕ → Seat → Type 0
Hears ts node seat = Holds (HeardOn ts node seat.core.plan.limit) seat.core

abbrev pub AllHear : WorldState → Type 0
AllHear w = (node : ℕ) (seat : Seat) → seat_at w node ≡ Some seat → Hears w.streams node seat

-- ---- limits

pub has_limit : (s : Setting) (w : WorldState) → IsReached s w → (node : ℕ) (seat : Seat) → seat_at w node ≡ Some seat → 0 < seat.core.plan.limit
has_limit s w r = reached_each (λ k n. 0 < n.plan.limit) s w (λ k n after now i x q some step. subst (λ p. 0 < p) (ap (λ p. p.limit) (sym (step_plan n after now i x q step))) some) first r where
  some_limit : (m : Member) → IsGoodMember r.good.limit m → 0 < m.plan.limit
  some_limit m good =
      let is = good.limit_is in
      let least = r.good.least_limit in
      omega (arith, is, least)

  first : (life k : ℕ) (m : Member) → numbered s.members k ≡ Some m → 0 < (first_node m.plan).plan.limit
  first life k m is = some_limit m (numbered_all (IsGoodMember r.good.limit) s.members k m r.good.members is)

-- before the first byte of a stream
none_came : (limit : ℕ) → 0 < limit → Waits limit no_past
none_came limit some = record { rest = []; divides = divides_alone limit [] waiting tt (nothing_waits limit some) }

-- ---- what a step asks

quiet_turns : (P Q : ℕ → Past → Type 0) (n : NodeState) (x : Coming) (r : Reply) (i : Input) → IsQuiet i → ((stream : ℕ) (past : Past) → P stream past → Q stream past) → Turns P Q n x r i
quiet_turns P Q n x r (input.Opened stream from) q turn = absurd q
quiet_turns P Q n x r (input.Bytes stream bytes) q turn = absurd q
quiet_turns P Q n x r (input.Closed stream) q turn = absurd q
quiet_turns P Q n x r _ q turn = turn

module _ (ready : StreamsAreReady) where
  -- ---- what a step dials

  -- a step that dials has queued the dial of the next stream
  next_queued : (n after : NodeState) → DialsNext n after → n.streams.dialled < after.streams.dialled → (more : List ℕ) × (dialled_in (gained n after) ≡ (2 * n.streams.dialled) ∷ more)
  next_queued n after d less = by_count (after.streams.dialled - n.streams.dialled) refl where
    by_count : (k : ℕ) → after.streams.dialled - n.streams.dialled ≡ k → (more : List ℕ) × (dialled_in (gained n after) ≡ (2 * n.streams.dialled) ∷ more)
    by_count zero e = absurd (omega (arith, less, e))
    by_count (suc k) e = (evens_from (n.streams.dialled + 1) k, d.dials ∙ ap (evens_from n.streams.dialled) e)

  none_dialled : {A : Type 0} (n after : NodeState) → after.streams.dialled ≡ n.streams.dialled → n.streams.dialled < after.streams.dialled → A
  none_dialled n after same less = absurd (omega (arith, same, less))

  -- what a step that isn't a drain has dialled was queued
  dials_of : (n after : NodeState) (now : ℕ) (i : Input) (x : Coming) (r : Reply) → NodeStep n now i x r after → n.streams.dialled < after.streams.dialled
      → (more : List ℕ) × (dialled_in (gained n after) ≡ (2 * n.streams.dialled) ∷ more)
  dials_of n after now (input.Api asa call) x r step less = next_queued n after (dials_counted n after now (input.Api asa call) x r tt step) less
  dials_of n after now (input.Datagram link from bytes) x r step less = next_queued n after (dials_counted n after now (input.Datagram link from bytes) x r tt step) less
  dials_of n after now (input.Opened stream from) x r step less = next_queued n after (dials_counted n after now (input.Opened stream from) x r tt step) less
  dials_of n after now (input.Bytes stream bytes) x r step less = next_queued n after (dials_counted n after now (input.Bytes stream bytes) x r tt step) less
  dials_of n after now (input.Closed stream) x r step less = next_queued n after (dials_counted n after now (input.Closed stream) x r tt step) less
  dials_of n after now (input.Drain max) x r step less = none_dialled n after (drains_dial_nothing n after now max x r step).0 less

  -- nothing came yet on a stream that the step dials
  step_dials : (v : Visit) (c : Choice) (ts : List StreamState) → VisitStep v c → 0 < v.seat.core.plan.limit
      → Dials (HeardOn (fold (having_made v.node) ts (gained v.seat.core c.after)) v.node v.seat.core.plan.limit) (begin v.seat.core v.now) c.after
  step_dials v c ts step some less = from (dials_of v.seat.core c.after v.now v.input c.coming c.reply step.steps (subst (λ d. d < c.after.streams.dialled) begun less)) where
    begun : (begin v.seat.core v.now).streams.dialled ≡ v.seat.core.streams.dialled
    begun = (beginnings_end v.seat.core v.now).0.dialled

    from : (more : List ℕ) × (dialled_in (gained v.seat.core c.after) ≡ (2 * v.seat.core.streams.dialled) ∷ more)
        → IsHeard (fold (having_made v.node) ts (gained v.seat.core c.after)) (end_of v.node (next_stream (begin v.seat.core v.now).streams)) v.seat.core.plan.limit no_past
    from q = subst (λ d. IsHeard (fold (having_made v.node) ts (gained v.seat.core c.after)) (end_of v.node (2 * d)) v.seat.core.plan.limit no_past) (sym begun)
        (dial_heard v.node v.seat.core.plan.limit (2 * v.seat.core.streams.dialled) q.0 (gained v.seat.core c.after) ts q.1 (none_came v.seat.core.plan.limit some))

  -- ---- a step

  -- the streams that a step leaves
  abbrev made : Visit → Choice → List StreamState → List StreamState
  made v c ts = fold (having_made v.node) ts (gained v.seat.core c.after)

  quiet_step : (w : WorldState) (v : Visit) (c : Choice) → IsQuiet v.input
      → Turns (HeardOn w.streams v.node v.seat.core.plan.limit) (HeardOn (made v c w.streams) v.node v.seat.core.plan.limit) (begin v.seat.core v.now) c.coming c.reply v.input
  quiet_step w v c quiet =
      quiet_turns (HeardOn w.streams v.node v.seat.core.plan.limit) (HeardOn (made v c w.streams) v.node v.seat.core.plan.limit) (begin v.seat.core v.now) c.coming c.reply v.input quiet
      (λ stream past h. made_heard v.node (end_of v.node stream) v.seat.core.plan.limit past (gained v.seat.core c.after) w.streams h)

  opened_step : (s : Setting) (w : WorldState) (k : ℕ) (v : Visit) (c : Choice) → IsReached s w → IsOpening s w k v → 0 < v.seat.core.plan.limit
      → Turns (HeardOn w.streams v.node v.seat.core.plan.limit)
      (HeardOn (made v c (arrived w v (s.arrives_as v.node k) c.reply (stream_numbered w.streams k)).streams) v.node v.seat.core.plan.limit) (begin v.seat.core v.now) c.coming c.reply v.input
  opened_step s w k v c r o some =
      subst
      (λ (x : Option StreamState).
      Turns (HeardOn w.streams v.node v.seat.core.plan.limit) (HeardOn (made v c (arrived w v (s.arrives_as v.node k) c.reply x).streams) v.node v.seat.core.plan.limit) (begin v.seat.core v.now) c.coming c.reply v.input)
      (sym o.found)
      (subst
      (λ (i : Input).
      Turns (HeardOn w.streams v.node v.seat.core.plan.limit) (HeardOn (made v c (arrived w v (s.arrives_as v.node k) c.reply (Some o.talk)).streams) v.node v.seat.core.plan.limit) (begin v.seat.core v.now) c.coming c.reply i)
      (sym o.is.input_is) (others, new)) where
        others : (stream : ℕ) (past : Past) → IsHeard w.streams (end_of v.node stream) v.seat.core.plan.limit past
            → IsHeard (made v c (arrived w v (s.arrives_as v.node k) c.reply (Some o.talk)).streams) (end_of v.node stream) v.seat.core.plan.limit past
        others stream past h =
            made_heard v.node (end_of v.node stream) v.seat.core.plan.limit past (gained v.seat.core c.after) (arrived w v (s.arrives_as v.node k) c.reply (Some o.talk)).streams
            (arrived_heard w v (s.arrives_as v.node k) c.reply o.talk (end_of v.node stream) v.seat.core.plan.limit past (numbered_place k w.streams o.talk o.found) o.waiting (same_end_one ready s w r) h)

        new : c.reply ≡ reply.Taken → IsHeard (made v c (arrived w v (s.arrives_as v.node k) c.reply (Some o.talk)).streams) (end_of v.node (s.arrives_as v.node k)) v.seat.core.plan.limit no_past
        new taken =
            let here = numbered_place k w.streams o.talk o.found in
            made_heard v.node (end_of v.node (s.arrives_as v.node k)) v.seat.core.plan.limit no_past (gained v.seat.core c.after) (arrived w v (s.arrives_as v.node k) c.reply (Some o.talk)).streams
            (opened_heard w v (s.arrives_as v.node k) c.reply o.talk v.seat.core.plan.limit here o.waiting (sane s w r here.place o.talk here.stands) taken (none_came v.seat.core.plan.limit some))

  piece_step : (s : Setting) (w : WorldState) (k count : ℕ) (side : Side) (v : Visit) (c : Choice) → IsReached s w
      → IsReaching w k side v (λ x. input.Bytes x.at.number (next_bytes x.talk (other side) count))
      → Turns (HeardOn w.streams v.node v.seat.core.plan.limit) (HeardOn (made v c (delivered w count (reached_side w k side)).streams) v.node v.seat.core.plan.limit) (begin v.seat.core v.now) c.coming c.reply v.input
  piece_step s w k count side v c r o =
      subst
      (λ (x : Option Reached).
      Turns (HeardOn w.streams v.node v.seat.core.plan.limit) (HeardOn (made v c (delivered w count x).streams) v.node v.seat.core.plan.limit) (begin v.seat.core v.now) c.coming c.reply v.input)
      (sym o.found)
      (subst
      (λ (i : Input).
      Turns (HeardOn w.streams v.node v.seat.core.plan.limit) (HeardOn (made v c (delivered w count (Some o.reached)).streams) v.node v.seat.core.plan.limit) (begin v.seat.core v.now) c.coming c.reply i)
      (sym o.is.input_is) (others, own)) where
        side_is : IsReachedSide w k side o.reached
        side_is = reached_is w k side o.reached o.found

        end_is : end_of v.node o.reached.at.number ≡ o.reached.at
        end_is = ap (λ n. end_of n o.reached.at.number) o.is.node_is

        others : (stream : ℕ) (past : Past) → stream ≢ o.reached.at.number → IsHeard w.streams (end_of v.node stream) v.seat.core.plan.limit past
            → IsHeard (made v c (delivered w count (Some o.reached)).streams) (end_of v.node stream) v.seat.core.plan.limit past
        others stream past differs h =
            made_heard v.node (end_of v.node stream) v.seat.core.plan.limit past (gained v.seat.core c.after) (delivered w count (Some o.reached)).streams
            (delivered_heard w o.reached count (end_of v.node stream) v.seat.core.plan.limit past (λ e. differs (ap (λ (x : StreamEnd). x.number) e)) h)

        own : (past : Past) → IsHeard w.streams (end_of v.node o.reached.at.number) v.seat.core.plan.limit past
            → Adds (begin v.seat.core v.now).plan.limit past (next_bytes o.reached.talk (other side) count) c.coming.added → c.coming.added.kind ≡ waiting
            → IsHeard (made v c (delivered w count (Some o.reached)).streams) (end_of v.node o.reached.at.number) v.seat.core.plan.limit (past_after past (next_bytes o.reached.talk (other side) count) c.coming.added)
        own past h adds waits =
            made_heard v.node (end_of v.node o.reached.at.number) v.seat.core.plan.limit (past_after past (next_bytes o.reached.talk (other side) count) c.coming.added) (gained v.seat.core c.after)
            (delivered w count (Some o.reached)).streams
            (subst (λ (e : StreamEnd). IsHeard (delivered w count (Some o.reached)).streams e v.seat.core.plan.limit (past_after past (next_bytes o.reached.talk (other side) count) c.coming.added)) (sym end_is)
            (piece_heard w k side o.reached count v.seat.core.plan.limit past c.coming.added (same_end_one ready s w r) (needs.distinct ready s w r) side_is
            (subst (λ (e : StreamEnd). IsHeard w.streams e v.seat.core.plan.limit past) end_is h)
            (subst (λ (p : NodePlan). Adds p.limit past (next_bytes o.reached.talk (other side) count) c.coming.added) (beginnings_end v.seat.core v.now).0.plan adds) waits))

  cut_step : (w : WorldState) (k : ℕ) (side : Side) (v : Visit) (c : Choice) → IsReaching w k side v (λ x. input.Closed x.at.number)
      → Turns (HeardOn w.streams v.node v.seat.core.plan.limit) (HeardOn (made v c (told w (reached_side w k side)).streams) v.node v.seat.core.plan.limit) (begin v.seat.core v.now) c.coming c.reply v.input
  cut_step w k side v c o =
      subst
      (λ (x : Option Reached).
      Turns (HeardOn w.streams v.node v.seat.core.plan.limit) (HeardOn (made v c (told w x).streams) v.node v.seat.core.plan.limit) (begin v.seat.core v.now) c.coming c.reply v.input)
      (sym o.found)
      (subst
      (λ (i : Input).
      Turns (HeardOn w.streams v.node v.seat.core.plan.limit) (HeardOn (made v c (told w (Some o.reached)).streams) v.node v.seat.core.plan.limit) (begin v.seat.core v.now) c.coming c.reply i)
      (sym o.is.input_is) others) where
        others : (stream : ℕ) (past : Past) → stream ≢ o.reached.at.number → IsHeard w.streams (end_of v.node stream) v.seat.core.plan.limit past
            → IsHeard (made v c (told w (Some o.reached)).streams) (end_of v.node stream) v.seat.core.plan.limit past
        others stream past differs h =
            made_heard v.node (end_of v.node stream) v.seat.core.plan.limit past (gained v.seat.core c.after) (told w (Some o.reached)).streams
            (told_heard w o.reached (end_of v.node stream) v.seat.core.plan.limit past h)

  step_turns : (s : Setting) (w : WorldState) (e : Event) (v : Visit) (c : Choice) → IsReached s w → 0 < v.seat.core.plan.limit → visit_of s w e ≡ Some v → IsStep e
      → Turns (HeardOn w.streams v.node v.seat.core.plan.limit) (HeardOn (made v c (streams_before s w e v c)) v.node v.seat.core.plan.limit) (begin v.seat.core v.now) c.coming c.reply v.input
  step_turns s w (event.Clock node millis) v c r some is step = quiet_step w v c (clock_quiet s w node millis v is)
  step_turns s w (event.Want node length longest peer) v c r some is step = absurd step
  step_turns s w (event.Return node prefix peer) v c r some is step = absurd step
  step_turns s w (event.Agent node hold) v c r some is step = quiet_step w v c (agent_quiet s w node hold v is)
  step_turns s w (event.Api node asa call hold) v c r some is step = quiet_step w v c (call_quiet s w (event.Api node asa call hold) v (present_life w node) (input.Api asa call) is tt)
  step_turns s w (event.Datagram index hold) v c r some is step = quiet_step w v c (datagram_quiet s w index hold v is)
  step_turns s w (event.Arrive k hold) v c r some is step = opened_step s w k v c r (opening_is s w k v is) some
  step_turns s w (event.Bytes k far count hold) v c r some is step = piece_step s w k count (side_named far) v c r (piece_is w k (side_named far) count v is)
  step_turns s w (event.Cut k far hold) v c r some is step = cut_step w k (side_named far) v c (cut_is w k (side_named far) v is)
  step_turns s w (event.Drain node max) v c r some is step = absurd step

  -- ---- at another node

  other_before : (s : Setting) (w : WorldState) (e : Event) (v : Visit) (c : Choice) (end : StreamEnd) (limit : ℕ) (past : Past) → IsReached s w → visit_of s w e ≡ Some v → end.node ≢ v.node
      → IsHeard w.streams end limit past → IsHeard (streams_before s w e v c) end limit past
  other_before s w (event.Arrive k hold) v c end limit past r is differs h = opened (opening_is s w k v is) where
    opened : IsOpening s w k v → IsHeard (arrived w v (s.arrives_as v.node k) c.reply (stream_numbered w.streams k)).streams end limit past
    opened o =
        subst (λ (x : Option StreamState). IsHeard (arrived w v (s.arrives_as v.node k) c.reply x).streams end limit past) (sym o.found)
        (arrived_heard w v (s.arrives_as v.node k) c.reply o.talk end limit past (numbered_place k w.streams o.talk o.found) o.waiting (same_end_one ready s w r) h)
  other_before s w (event.Bytes k far count hold) v c end limit past r is differs h = reached (piece_is w k (side_named far) count v is) where
    reached : IsReaching w k (side_named far) v (λ x. input.Bytes x.at.number (next_bytes x.talk (other (side_named far)) count)) → IsHeard (delivered w count (reached_side w k (side_named far))).streams end limit past
    reached o =
        subst (λ (x : Option Reached). IsHeard (delivered w count x).streams end limit past) (sym o.found)
        (delivered_heard w o.reached count end limit past (λ e. differs (ap (λ (x : StreamEnd). x.node) e ∙ sym o.is.node_is)) h)
  other_before s w (event.Cut k far hold) v c end limit past r is differs h = reached (cut_is w k (side_named far) v is) where
    reached : IsReaching w k (side_named far) v (λ x. input.Closed x.at.number) → IsHeard (told w (reached_side w k (side_named far))).streams end limit past
    reached o =
        subst (λ (x : Option Reached). IsHeard (told w x).streams end limit past) (sym o.found)
        (told_heard w o.reached end limit past h)
  other_before s w _ v c end limit past r is differs h = h

  -- ---- a step, at each node

  steps_of : (s : Setting) (w : WorldState) (e : Event) (c : Choice) (v : Visit) → visit_of s w e ≡ Some v → Occurs s w e c → VisitStep v c
  steps_of s w e c v is o = subst (λ (x : Option Visit). MayCome x c) is o.comes

  own_hears : (s : Setting) (w : WorldState) (e : Event) (c : Choice) (v : Visit) (agent : AgentState) → IsReached s w → AllHear w → Occurs s w e c → visit_of s w e ≡ Some v → IsStep e
      → Hears (after_visit s w e v c).streams v.node (seat_with c.after agent)
  unfolding streams_made
  own_hears s w e c v agent r all o is step =
      weaker (HeardOn (made v c (streams_before s w e v c)) v.node v.seat.core.plan.limit) (HeardOn (after_visit s w e v c).streams v.node c.after.plan.limit) c.after same
      (step_holds (HeardOn w.streams v.node v.seat.core.plan.limit) (HeardOn (made v c (streams_before s w e v c)) v.node v.seat.core.plan.limit) v.seat.core c.after v.now v.input c.coming c.reply
      (nodes_are_sound.sound s w r v.node v.seat here) (step_turns s w e v c r some is step) (step_dials v c (streams_before s w e v c) steps some) (all v.node v.seat here) steps.steps) where
        here : seat_at w v.node ≡ Some v.seat
        here = (visits_are_here s w e v is).stands

        some : 0 < v.seat.core.plan.limit
        some = has_limit s w r v.node v.seat here

        steps : VisitStep v c
        steps = steps_of s w e c v is o

        same : (stream : ℕ) (past : Past) → IsHeard (made v c (streams_before s w e v c)) (end_of v.node stream) v.seat.core.plan.limit past
            → IsHeard (after_visit s w e v c).streams (end_of v.node stream) c.after.plan.limit past
        same stream past h =
            subst (λ (p : NodePlan). IsHeard (after_visit s w e v c).streams (end_of v.node stream) p.limit past) (sym (step_plan v.seat.core c.after v.now v.input c.coming c.reply steps.steps))
            (subst (λ (ts : List StreamState). IsHeard ts (end_of v.node stream) v.seat.core.plan.limit past) (sym (streams_stepped s w e v c step)) h)

  other_hears : (s : Setting) (w : WorldState) (e : Event) (c : Choice) (v : Visit) (node : ℕ) (seat : Seat) → IsReached s w → AllHear w → visit_of s w e ≡ Some v → IsStep e → node ≢ v.node
      → seat_at w node ≡ Some seat → Hears (after_visit s w e v c).streams node seat
  unfolding streams_made
  other_hears s w e c v node seat r all is step differs here =
      weaker (HeardOn w.streams node seat.core.plan.limit) (HeardOn (after_visit s w e v c).streams node seat.core.plan.limit) seat.core same (all node seat here) where
        same : (stream : ℕ) (past : Past) → IsHeard w.streams (end_of node stream) seat.core.plan.limit past → IsHeard (after_visit s w e v c).streams (end_of node stream) seat.core.plan.limit past
        same stream past h =
            subst (λ (ts : List StreamState). IsHeard ts (end_of node stream) seat.core.plan.limit past) (sym (streams_stepped s w e v c step))
            (made_heard v.node (end_of node stream) seat.core.plan.limit past (gained v.seat.core c.after) (streams_before s w e v c)
            (other_before s w e v c (end_of node stream) seat.core.plan.limit past r is differs h))

  step_hears : (s : Setting) (w : WorldState) (e : Event) (c : Choice) (v : Visit) → IsReached s w → AllHear w → Occurs s w e c → visit_of s w e ≡ Some v → IsStep e → AllHear (after_visit s w e v c)
  step_hears s w e c v r all o is step =
      each_seat (λ node seat. Hears (after_visit s w e v c).streams node seat) w (after_visit s w e v c) v c (visits_are_here s w e v is).member.least (seats_stepped s w e v c step)
      (λ agent is_agent there. own_hears s w e c v agent r all o is step) (λ node seat differs here. other_hears s w e c v node seat r all is step differs here)

  -- ---- a drain

  handed_heard : (s : Setting) (w : WorldState) (node max : ℕ) (seat : Seat) (m : NodeState) (e : StreamEnd) (limit : ℕ) (past : Past) → AreSane w.streams → IsHeard w.streams e limit past
      → IsHeard (drained_from s w node seat m max).streams e limit past
  unfolding handed_over
  handed_heard s w node max seat m e limit past ok h =
      all_closed_heard node e limit past (closes m max) (fold (having_sent s node) (with_seat w node (seat_with (after_drain m max) seat.agent)) (take max m.queue))
      (all_sent_heard s node e limit past (take max m.queue) (with_seat w node (seat_with (after_drain m max) seat.agent)) ok h)

  drained_dials : (Q : ℕ → Past → Type 0) (n : NodeState) (max : ℕ) → Dials Q (begin n n.reading) (after_drain (begin n n.reading) max)
  drained_dials Q n max less =
      none_dialled (begin n n.reading) (after_drain (begin n n.reading) max)
      ((drains_dial_nothing n (after_drain (begin n n.reading) max) n.reading max no_choice.coming (reply.Outputs (drained (begin n n.reading) max)) (drain_steps n n.reading max no_choice.coming)).0 ∙ sym (beginnings_end n n.reading).0.dialled) less

  drain_hears : (s : Setting) (w : WorldState) (node max : ℕ) (o : Option Seat) → IsReached s w → 1 ≤ node → seat_at w node ≡ o → AllHear w → AllHear (drained_at s w node max o)
  drain_hears s w node max None r least here all = all
  drain_hears s w node max (Some seat) r least here all =
      each_drained (λ n other. Hears (drained_from s w node seat (begin seat.core seat.core.reading) max).streams n other) s w node seat (begin seat.core seat.core.reading) max least own others where
        step : NodeStep seat.core seat.core.reading (input.Drain max) no_choice.coming (reply.Outputs (drained (begin seat.core seat.core.reading) max)) (after_drain (begin seat.core seat.core.reading) max)
        step = drain_steps seat.core seat.core.reading max no_choice.coming

        own : Hears (drained_from s w node seat (begin seat.core seat.core.reading) max).streams node (seat_with (after_drain (begin seat.core seat.core.reading) max) seat.agent)
        own =
            step_holds (HeardOn w.streams node seat.core.plan.limit)
            (HeardOn (drained_from s w node seat (begin seat.core seat.core.reading) max).streams node (after_drain (begin seat.core seat.core.reading) max).plan.limit)
            seat.core (after_drain (begin seat.core seat.core.reading) max) seat.core.reading (input.Drain max) no_choice.coming (reply.Outputs (drained (begin seat.core seat.core.reading) max))
            (nodes_are_sound.sound s w r node seat here) turn (drained_dials (HeardOn (drained_from s w node seat (begin seat.core seat.core.reading) max).streams node (after_drain (begin seat.core seat.core.reading) max).plan.limit) seat.core max)
            (all node seat here) step
          where
            turn : (stream : ℕ) (past : Past) → IsHeard w.streams (end_of node stream) seat.core.plan.limit past
                → IsHeard (drained_from s w node seat (begin seat.core seat.core.reading) max).streams (end_of node stream) (after_drain (begin seat.core seat.core.reading) max).plan.limit past
            turn stream past h =
                subst (λ (p : NodePlan). IsHeard (drained_from s w node seat (begin seat.core seat.core.reading) max).streams (end_of node stream) p.limit past)
                (sym (step_plan seat.core (after_drain (begin seat.core seat.core.reading) max) seat.core.reading (input.Drain max) no_choice.coming (reply.Outputs (drained (begin seat.core seat.core.reading) max)) (drain_steps seat.core seat.core.reading max no_choice.coming)))
                (handed_heard s w node max seat (begin seat.core seat.core.reading) (end_of node stream) seat.core.plan.limit past (sane s w r) h)

        others : (n : ℕ) (other : Seat) → n ≢ node → seat_at w n ≡ Some other → Hears (drained_from s w node seat (begin seat.core seat.core.reading) max).streams n other
        others n other differs there =
            weaker (HeardOn w.streams n other.core.plan.limit) (HeardOn (drained_from s w node seat (begin seat.core seat.core.reading) max).streams n other.core.plan.limit) other.core
            (λ stream past h. handed_heard s w node max seat (begin seat.core seat.core.reading) (end_of n stream) other.core.plan.limit past (sane s w r) h) (all n other there)

  -- ---- the first network

  -- a life that begins has no stream
  opened_hears : (ts : List StreamState) (node : ℕ) (plan : NodePlan) (h : Holding) → Hears ts node (opened_seat plan h)
  opened_hears ts node plan h = by_seat (opened_seat plan h) (begun_streams plan h) where
    by_seat : (seat : Seat) → seat.core.streams ≡ no_streams → Hears ts node seat
    by_seat seat none = record {
      each =
          subst (λ (t : StreamsState). All (OpenHolds (HeardOn ts node seat.core.plan.limit)) t.records) (sym none) (All-nil (OpenHolds (HeardOn ts node seat.core.plan.limit)));
    }

  first_hears : (s : Setting) → AllHear (first_world s)
  unfolding first_world
  first_hears s node seat here = by_zero (node == 0) refl where
    by_member : IsMade first_seat s.members (node - 1) seat → Hears [] node seat
    by_member m = subst (λ (x : Seat). Hears [] node x) m.made (opened_hears [] node m.of.plan (pool_of m.of.roots))

    by_zero : (b : Bool) → (node == 0) ≡ b → Hears [] node seat
    by_zero true e = absurd (none-some seat (subst (λ z. cond z None (slice_get (map first_seat s.members) (node - 1)) ≡ Some seat) e here))
    by_zero false e = by_member (is_made first_seat s.members (node - 1) seat (subst (λ z. cond z None (slice_get (map first_seat s.members) (node - 1)) ≡ Some seat) e here))

  -- ---- another agent, and a restart

  one_hears : (w x : WorldState) → OneAgent w x → AllHear w → AllHear x
  one_hears w x o all = agent_keeps Hears w x o (λ each. record { each = each.each }) all

  still_hears : (s : Setting) (member life node : ℕ) (ts : List StreamState) (seat : Seat) (agent : AgentState) → Hears ts node seat → Hears (map (told_at s member life) ts) node (seat_with seat.core agent)
  still_hears s member life node ts seat agent each =
      weaker (HeardOn ts node seat.core.plan.limit) (HeardOn (map (told_at s member life) ts) node seat.core.plan.limit) seat.core
      (λ stream past h. restarted_heard s member life ts (end_of node stream) seat.core.plan.limit past h) each

  restart_hears : (s : Setting) (w x : WorldState) (node : ℕ) (image : PoolImage) → Restarting s w node image x → AllHear w → AllHear x
  restart_hears s w x node image t all =
      subst (λ (ts : List StreamState). (n : ℕ) (other : Seat) → seat_at x n ≡ Some other → Hears ts n other) (sym t.streams)
      (restart_seats (λ n other. Hears (map (told_at s node life) w.streams) n other) s w node image x t
      (still_hears s node life life w.streams t.seat (retired t.seat.agent) (all life t.seat t.here))
      (opened_hears (map (told_at s node life) w.streams) (length w.seats + 1) t.member.plan (pool_of_image image))
      (λ n other there. still_hears s node life n w.streams other other.agent (all n other there)))
    where
      life : ℕ
      life = present_life w node

  -- ---- every turn

  parts_hear : (s : Setting) → PartsKeep s AllHear
  unfolding network.drained
  parts_hear s = record {
    steps = λ w e c v r all o is step reached. step_hears s w e c v r all o is step;
    told = λ w x e r t all. one_hears w x (one_agent s w e x t) all;
    drains = λ w node max r all least. drain_hears s w node max (seat_at w node) r least refl all;
    settles = λ w x node p r t all. one_hears w x t.one all;
    restarts = λ w x node image r t all. restart_hears s w x node image t all;
  }

  pub all_hear : (s : Setting) (w : WorldState) → IsReached s w → AllHear w
  all_hear s w r = parts_keep s AllHear (parts_hear s) (first_hears s) w r

  -- ---- the law

  pub heard_there : (s : Setting) (w : WorldState) → IsReached s w → (node : ℕ) (seat : Seat) → seat_at w node ≡ Some seat → (stream : ℕ) (past : Past) → past_of seat.core.streams stream ≡ Some past
      → IsHeard w.streams (end_of node stream) seat.core.plan.limit past
  heard_there s w r node seat here stream past e = open_has (HeardOn w.streams node seat.core.plan.limit) seat.core stream past (all_hear s w r node seat here) e

  open_stream : (s : Setting) (w : WorldState) → IsReached s w → (e : StreamEnd) (limit : ℕ) (past : Past) → IsHeard w.streams e limit past → IsOpenStream w e limit past
  open_stream s w r e limit past h = record {
    stream = record { place = h.place; talk = h.talk; side = h.side; stands = h.stands; ends = h.ends };
    came = each;
    waits = h.waits;
  } where
    each : OfEachStream (HasComeAt e past) w.streams
    each place t found side at =
        let same : h.talk ≡ t = same_end_one ready s w r e h.place place h.talk t h.stands found h.side side h.ends at in
        subst (λ (x : Side). HasCome t x past) (one_side t e h.side side (needs.distinct ready s w r place t found) (ap (λ (x : StreamState). end_at x h.side) (sym same) ∙ h.ends) at)
        (subst (λ (x : StreamState). HasCome x h.side past) same h.come)

  pub records_hold_what_came : RecordsHoldWhatCame
  records_hold_what_came s w r node seat here stream past e = open_stream s w r (end_of node stream) seat.core.plan.limit past (heard_there s w r node seat here stream past e)
