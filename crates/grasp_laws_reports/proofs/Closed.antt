-- Whatever happens, a closed side of a stream stays so, and nothing more is delivered to it.
use Rattle.std.proofs.Common.{◌≡◌, ◌≢◌, refl, sym, ap, ◌∙◌, subst, ℕ, Bool, true, false, Option, Some, None, slice_get}
use Rattle.std.proofs.lemmas.Bool.{true≢false}
use Rattle.std.proofs.lemmas.Option.{none-some, same_Some}
use Rattle.grasp_agent.specs.Replies.{after_reply}
use Rattle.grasp_session.specs.Messages.{Side, Near, Far}
use Rattle.grasp_types.specs.declared.reply.Reply.{Reply}
use Rattle.grasp_laws_network.proofs.Telling.{none_one}
use Rattle.grasp_laws_network.proofs.Turning.{settle_one, restart_by}
use Rattle.grasp_laws_network.specs.Telling.{OneAgent}
use Rattle.grasp_model_network.specs.EventSteps.{after_agent_call, after_agent, after_arrival, after_clock, after_cut, after_delivery, after_piece}
use Rattle.grasp_model_network.specs.StreamChanges.{arrived, arrival_by, told, Reached, reached_at, reached_in, reached_side, side_named, delivered}
use Rattle.grasp_model_network.specs.Events.{visit_of, after_visit, after_by, after_event, drains, drained_behind}
use Rattle.grasp_model_network.specs.Notes.{noted}
use Rattle.grasp_model_network.specs.Runs.{IsReached}
use Rattle.grasp_model_network.specs.Sending.{event_drain}
use Rattle.grasp_model_network.specs.Setting.{Setting}
use Rattle.grasp_model_network.specs.Streams.{StreamEnd, Arrival, StreamState, told_closed, is_reached, is_waiting, end_at, side_at, stream_numbered, change_at_end, with_delivered, with_far}
use Rattle.grasp_model_network.specs.Turns.{after_turn}
use Rattle.grasp_model_network.specs.Visits.{Visit, Choice}
use Rattle.grasp_model_network.specs.World.{WorldState, present_life, end_of}
use Rattle.grasp_model_network.specs.declared.event.Event.{Event}
use Rattle.grasp_model_network.specs.declared.event.Event.TheVariants as event
use Rattle.grasp_model_network.specs.declared.turn.Turn.{Turn}
use Rattle.grasp_model_network.specs.declared.turn.Turn.TheVariants as turn
use Rattle.grasp_laws_delivery.proofs.FromReady.{distinct}
use Rattle.grasp_laws_delivery.proofs.Heard.Steps.{IsReachedSide, reached_is}
use Rattle.grasp_laws_delivery.proofs.OnePlace.{Placed, has_it, numbered_place, one_talk}
use Rattle.grasp_laws_delivery.proofs.Sides.{one_side}
use Rattle.grasp_laws_delivery.proofs.Inputs.{Arrives, arrives}
use Rattle.grasp_laws_delivery.specs.Ready.{StreamsAreReady}
use Rattle.grasp_laws_reports.proofs.Closing.{StreamsStay, same_stay, stay_then, change_stays, told_stay, restart_stays, stepped_stay, drained_stay}
use Rattle.grasp_laws_reports.specs.Laws.{CutsAreFinal, CutsAreFinalOverTurns}
use Rattle.grasp_laws_reports.specs.Outcomes.{StaysClosed}

-- ---- a side that an event reaches lives

reached_lives : (w : WorldState) (k : ℕ) (side : Side) (x : Reached) → reached_side w k side ≡ Some x → is_reached (side_at x.talk side) ≡ true
unfolding reached_side
reached_lives w k side x is = by_talk (stream_numbered w.streams k) is where
  by_side : (t : StreamState) (b : Bool) (o : Option StreamEnd) → is_reached (side_at t side) ≡ b → reached_at t b o ≡ Some x → is_reached (side_at x.talk side) ≡ true
  by_side t true None lives e = absurd (none-some x e)
  by_side t false None lives e = absurd (none-some x e)
  by_side t false (Some end) lives e = absurd (none-some x e)
  by_side t true (Some end) lives e = subst (λ (y : Reached). is_reached (side_at y.talk side) ≡ true) (same_Some (record { talk = t; at = end }) x e) lives

  by_talk : (o : Option StreamState) → reached_in side o ≡ Some x → is_reached (side_at x.talk side) ≡ true
  by_talk None e = absurd (none-some x e)
  by_talk (Some t) e = by_side t (is_reached (side_at t side)) (end_at t side) refl e

-- ---- what is delivered or opened, is so at another side

delivered_elsewhere : (count : ℕ) (t : StreamState) (by side : Side) → by ≢ side → side_at t side ≡ told_closed → StaysClosed side t (with_delivered count t by)
delivered_elsewhere count t Near Near apart e = absurd (apart refl)
delivered_elsewhere count t Near Far apart e = record { closed = e; end = refl; delivered = refl }
delivered_elsewhere count t Far Near apart e = record { closed = e; end = refl; delivered = refl }
delivered_elsewhere count t Far Far apart e = absurd (apart refl)

opened_elsewhere : (far : StreamEnd) (a : Arrival) (t : StreamState) (by side : Side) → side ≢ Far → side_at t side ≡ told_closed → StaysClosed side t (with_far far a t by)
opened_elsewhere far a t by Near apart e = record { closed = e; end = refl; delivered = refl }
opened_elsewhere far a t by Far apart e = absurd (apart refl)

-- another agent changes no stream
one_stays : (w x : WorldState) → OneAgent w x → StreamsStay w.streams x.streams
one_stays w x o = subst (λ (y : WorldState). StreamsStay w.streams y.streams) (sym o.after) (same_stay w.streams)

module _ (ready : StreamsAreReady) (s : Setting) (w : WorldState) (r : IsReached s w) where
  delivered_stay : (k : ℕ) (to : Side) (count : ℕ) (x : Reached) → reached_side w k to ≡ Some x → StreamsStay w.streams (change_at_end w.streams x.at (with_delivered count))
  delivered_stay k to count x is = change_stays w.streams x.at (with_delivered count) each where
    there : IsReachedSide w k to x
    there = reached_is w k to x is

    at : Placed w.streams x.talk
    at = numbered_place k w.streams x.talk there.found

    lives : is_reached (side_at x.talk to) ≡ true
    lives = reached_lives w k to x is

    each : (place : ℕ) (t : StreamState) (by side : Side) → slice_get w.streams place ≡ Some t → end_at t by ≡ Some x.at → side_at t side ≡ told_closed → StaysClosed side t (with_delivered count t by)
    each place t by side found has closed = delivered_elsewhere count t by side apart closed where
      one : t ≡ x.talk
      one = one_talk x.at w.streams place at.place t x.talk (ready.apart s w r x.at) found (has_it t x.at by has) at.stands (has_it x.talk x.at to there.ends)

      own : by ≡ to
      own = one_side t x.at by to (distinct ready s w r place t found) has (ap (λ (y : StreamState). end_at y to) one ∙ there.ends)

      apart : by ≢ side
      apart same =
          true≢false
          (sym lives
          ∙ (ap (λ (y : StreamState). is_reached (side_at y to)) (sym one) ∙ (ap (λ (z : Side). is_reached (side_at t z)) (sym own ∙ same) ∙ ap is_reached closed)))

  opened_stay : (k : ℕ) (hold : Bool) (far : StreamEnd) (a : Arrival) (v : Visit) (x : Arrives s w k v) → StreamsStay w.streams (change_at_end w.streams x.talk.near (with_far far a))
  opened_stay k hold far a v x = change_stays w.streams x.talk.near (with_far far a) each where
    at : Placed w.streams x.talk
    at = numbered_place k w.streams x.talk x.found

    each : (place : ℕ) (t : StreamState) (by side : Side) → slice_get w.streams place ≡ Some t → end_at t by ≡ Some x.talk.near → side_at t side ≡ told_closed → StaysClosed side t (with_far far a t by)
    each place t by side found has closed = opened_elsewhere far a t by side apart closed where
      one : t ≡ x.talk
      one = one_talk x.talk.near w.streams place at.place t x.talk (ready.apart s w r x.talk.near) found (has_it t x.talk.near by has) at.stands (has_it x.talk x.talk.near Near refl)

      apart : side ≢ Far
      apart same =
          true≢false
          (sym x.waits ∙ (ap (λ (y : StreamState). is_waiting (side_at y Far)) (sym one) ∙ (ap (λ (z : Side). is_waiting (side_at t z)) (sym same) ∙ ap is_waiting closed)))

  -- ---- each kind of event

  arrived_stay : (k : ℕ) (hold : Bool) (v : Visit) (number : ℕ) (q : Reply) → Arrives s w k v → StreamsStay w.streams (arrived w v number q (stream_numbered w.streams k)).streams
  arrived_stay k hold v number q x =
      subst (λ o. StreamsStay w.streams (arrived w v number q o).streams) (sym x.found) (opened_stay k hold (end_of v.node number) (arrival_by q) v x)

  piece_stay : (k : ℕ) (to : Side) (count : ℕ) (o : Option Reached) → reached_side w k to ≡ o → StreamsStay w.streams (delivered w count o).streams
  piece_stay k to count None is = same_stay w.streams
  piece_stay k to count (Some x) is = delivered_stay k to count x is

  cut_stay : (o : Option Reached) → StreamsStay w.streams (told w o).streams
  cut_stay None = same_stay w.streams
  cut_stay (Some x) = told_stay w.streams x.at

  visit_stay : (e : Event) (v : Visit) (c : Choice) → visit_of s w e ≡ Some v → StreamsStay w.streams (after_visit s w e v c).streams
  unfolding after_clock after_agent after_agent_call after_delivery after_arrival after_piece after_cut noted
  visit_stay (event.Want node wanted longest peer) v c is = same_stay w.streams
  visit_stay (event.Return node prefix peer) v c is = same_stay w.streams
  visit_stay (event.Agent node hold) v c is = stepped_stay w w v c.after (after_reply v.seat.agent c.reply) (same_stay w.streams)
  visit_stay (event.Arrive stream hold) v c is =
      stepped_stay w (arrived w v (s.arrives_as v.node stream) c.reply (stream_numbered w.streams stream)) v c.after v.seat.agent
      (arrived_stay stream hold v (s.arrives_as v.node stream) c.reply (arrives s w stream hold v is))
  visit_stay (event.Bytes stream far count hold) v c is =
      stepped_stay w (delivered w count (reached_side w stream (side_named far))) v c.after v.seat.agent (piece_stay stream (side_named far) count (reached_side w stream (side_named far)) refl)
  visit_stay (event.Cut stream far hold) v c is =
      stepped_stay w (told w (reached_side w stream (side_named far))) v c.after v.seat.agent (cut_stay (reached_side w stream (side_named far)))
  visit_stay (event.Drain node max) v c is = drained_stay s w v.node max
  visit_stay _ v c is = stepped_stay w w v c.after v.seat.agent (same_stay w.streams)

  behind_stay : (b : Bool) (x : WorldState) (node : ℕ) → StreamsStay x.streams (drained_behind b s x node).streams
  behind_stay true x node = drained_stay s x node event_drain
  behind_stay false x node = same_stay x.streams

  by_stay : (e : Event) (c : Choice) (o : Option Visit) → visit_of s w e ≡ o → StreamsStay w.streams (after_by s w e c o).streams
  by_stay e c None is = none_one s w e (λ x. StreamsStay w.streams x.streams) (same_stay w.streams) (one_stays w)
  by_stay e c (Some v) is =
      stay_then w.streams (after_visit s w e v c).streams (drained_behind (drains e) s (after_visit s w e v c) v.node).streams (visit_stay e v c is)
      (behind_stay (drains e) (after_visit s w e v c) v.node)

  event_stay : (e : Event) (c : Choice) → StreamsStay w.streams (after_event s w e c).streams
  unfolding after_event
  event_stay e c = by_stay e c (visit_of s w e) refl

pub cuts_are_final : StreamsAreReady → CutsAreFinal
cuts_are_final ready s w r e c place side t found closed = (event_stay ready s w r e c).each place side t found closed

-- ---- the other turns

turn_stays : StreamsAreReady → (s : Setting) (w : WorldState) → IsReached s w → (t : Turn) (c : Choice) → StreamsStay w.streams (after_turn s w t c).streams
turn_stays ready s w r (turn.Event e) c = event_stay ready s w r e c
turn_stays ready s w r (turn.Settle node p) c = settle_one w node p (λ x. StreamsStay w.streams x.streams) (same_stay w.streams) (one_stays w)
turn_stays ready s w r (turn.Restart node image) c =
    restart_by s w node image (λ x. StreamsStay w.streams x.streams) (same_stay w.streams) (λ seat m here found. restart_stays s node (present_life w node) w.streams)

pub cuts_are_final_over_turns : StreamsAreReady → CutsAreFinalOverTurns
cuts_are_final_over_turns ready s w r it c place side t found closed = (turn_stays ready s w r it c).each place side t found closed
