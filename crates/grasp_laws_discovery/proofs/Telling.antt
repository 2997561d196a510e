-- Streams on which each response is real: what steps and drains leave of them.
use Rattle.std.proofs.Common.{sym, subst, ℕ, ◌+◌, List, [], ◌∷◌, fold, map, take, Option, None, Some, All}
use Rattle.std.proofs.lemmas.List.Elements.{All-nil, All-cons, All-head, All-push, All-tail, All-weaker}
use Rattle.grasp_model_node.specs.Draining.{closes, after_drain}
use Rattle.grasp_model_node.specs.Node.{NodeState}
use Rattle.grasp_model_node.specs.Queue.{Queued, datagram, dial, send}
use Rattle.grasp_session.specs.Conversation.{Said, says}
use Rattle.grasp_session.specs.Messages.{Side, Near, Far}
use Rattle.grasp_types.specs.declared.address.Locator.{Locator}
use Rattle.grasp_types.specs.declared.message.Message.{Message}
use Rattle.grasp_types.specs.declared.reply.Reply.{Reply}
use Rattle.grasp_model_network.specs.StreamChanges.{arrival_by, arrived, told, Reached, reached_side, side_named, delivered}
use Rattle.grasp_model_network.specs.Events.{after_visit}
use Rattle.grasp_laws_network.specs.Keeping.{WorldGrows}
use Rattle.grasp_model_network.specs.Restarting.{told_at}
use Rattle.grasp_model_network.specs.Routes.{route_of}
use Rattle.grasp_model_network.specs.Sending.{gained, having_made, streams_made, seat_with, having_sent, having_closed, handed_over, drained_from}
use Rattle.grasp_model_network.specs.Setting.{Setting}
use Rattle.grasp_model_network.specs.Streams.{StreamEnd, StreamState, Arrival, told_closed, fresh_stream, sent_by, with_said, with_sent, with_ended, with_number, with_delivered, with_side, with_far, change_at_end, stream_numbered}
use Rattle.grasp_model_network.specs.Visits.{Visit, Choice}
use Rattle.grasp_model_network.specs.World.{Seat, WorldState, member_of, with_seat, end_of}
use Rattle.grasp_model_network.specs.declared.event.Event.{Event}
use Rattle.grasp_model_network.specs.declared.event.Event.TheVariants as event
use Rattle.grasp_laws_delivery.proofs.AfterSteps.{posted_each, streams_before, streams_stepped}
use Rattle.grasp_laws_delivery.proofs.Holding.{IsStep}
use Rattle.grasp_laws_delivery.proofs.Sides.{at_end_has, each_changed, each_mapped, each_push}
use Rattle.grasp_laws_delivery.proofs.Turned.{told_by}
use Rattle.grasp_laws_delivery.specs.Saying.{OfEachStream}
use Rattle.grasp_laws_discovery.proofs.Longer.{message_longer}
use Rattle.grasp_laws_discovery.specs.Locators.{IsMessageReal, IsQueuedReal}

abbrev pub IsSaidReal : Setting → WorldState → Said → Type 0
IsSaidReal s w x = IsMessageReal s w x.message

pub record TalkReal (s : Setting) (w : WorldState) (t : StreamState) : Type 0 where
  pub said : All (IsSaidReal s w) t.said
  pub from_near : All (IsMessageReal s w) t.from_near.sent
  pub from_far : All (IsMessageReal s w) t.from_far.sent

abbrev pub TalksReal : Setting → WorldState → List StreamState → Type 0
TalksReal s w ts = OfEachStream (TalkReal s w) ts

pub sent_real : (s : Setting) (w : WorldState) (t : StreamState) → TalkReal s w t → (side : Side) → All (IsMessageReal s w) (sent_by t side).sent
sent_real s w t k Near = k.from_near
sent_real s w t k Far = k.from_far

pub talks_longer : (s : Setting) (w x : WorldState) → WorldGrows w x → (ts : List StreamState) → TalksReal s w ts → TalksReal s x ts
talks_longer s w x g ts each place t found = longer (each place t found) where
  longer : TalkReal s w t → TalkReal s x t
  longer k = record {
    said = All-weaker (IsSaidReal s w) (IsSaidReal s x) (λ y. message_longer s w x g y.message) t.said k.said;
    from_near = All-weaker (IsMessageReal s w) (IsMessageReal s x) (message_longer s w x g) t.from_near.sent k.from_near;
    from_far = All-weaker (IsMessageReal s w) (IsMessageReal s x) (message_longer s w x g) t.from_far.sent k.from_far;
  }

module _ (s : Setting) (w : WorldState) where
  -- ---- one stream

  abbrev Stays : (StreamState → Side → StreamState) → Type 0
  Stays f = (t : StreamState) (side : Side) → TalkReal s w t → TalkReal s w (f t side)

  said_stays : (m : Message) → IsMessageReal s w m → Stays (with_said m)
  said_stays m is t side k = record { said = All-cons (IsSaidReal s w) (says side m) t.said is k.said; from_near = k.from_near; from_far = k.from_far }

  sent_stays : (m : Message) → IsMessageReal s w m → Stays (with_sent m)
  sent_stays m is t Near k = record { said = k.said; from_near = All-push (IsMessageReal s w) t.from_near.sent m k.from_near is; from_far = k.from_far }
  sent_stays m is t Far k = record { said = k.said; from_near = k.from_near; from_far = All-push (IsMessageReal s w) t.from_far.sent m k.from_far is }

  ended_stays : Stays with_ended
  ended_stays t Near k = record { said = k.said; from_near = k.from_near; from_far = k.from_far }
  ended_stays t Far k = record { said = k.said; from_near = k.from_near; from_far = k.from_far }

  delivered_stays : (count : ℕ) → Stays (with_delivered count)
  delivered_stays count t Near k = record { said = k.said; from_near = k.from_near; from_far = k.from_far }
  delivered_stays count t Far k = record { said = k.said; from_near = k.from_near; from_far = k.from_far }

  side_stays : (a : Arrival) → Stays (with_side a)
  side_stays a t Near k = record { said = k.said; from_near = k.from_near; from_far = k.from_far }
  side_stays a t Far k = record { said = k.said; from_near = k.from_near; from_far = k.from_far }

  number_stays : (n : ℕ) → Stays (with_number n)
  number_stays n t side k = record { said = k.said; from_near = k.from_near; from_far = k.from_far }

  far_stays : (far : StreamEnd) (a : Arrival) → Stays (with_far far a)
  far_stays far a t side k = record { said = k.said; from_near = k.from_near; from_far = k.from_far }

  changed : (f : StreamState → Side → StreamState) → Stays f → (ts : List StreamState) (e : StreamEnd) → TalksReal s w ts → TalksReal s w (change_at_end ts e f)
  changed f stays ts e each =
      each_changed (TalkReal s w) (TalkReal s w) ts e f (λ t k. at_end_has (TalkReal s w) e f t (λ none. k) (λ side at. stays t side k)) each

  new_real : (near : StreamEnd) (to : Locator) → TalkReal s w (fresh_stream near to)
  new_real near to = record { said = All-nil (IsSaidReal s w); from_near = All-nil (IsMessageReal s w); from_far = All-nil (IsMessageReal s w) }

  -- ---- a step

  made_real : (node : ℕ) (qs : List Queued) (ts : List StreamState) → All (IsQueuedReal s w) qs → TalksReal s w ts → TalksReal s w (fold (having_made node) ts qs)
  made_real node [] ts are each = each
  made_real node (datagram link to m ∷ qs) ts are each = made_real node qs ts (All-tail (IsQueuedReal s w) (datagram link to m) qs are) each
  made_real node (dial stream to ∷ qs) ts are each =
      made_real node qs (having_made node ts (dial stream to)) (All-tail (IsQueuedReal s w) (dial stream to) qs are)
      (each_push (TalkReal s w) ts (fresh_stream (end_of node stream) to) (new_real (end_of node stream) to) each)
  made_real node (send stream m ∷ qs) ts are each =
      made_real node qs (having_made node ts (send stream m)) (All-tail (IsQueuedReal s w) (send stream m) qs are)
      (changed (with_said m) (said_stays m (All-head (IsQueuedReal s w) (send stream m) qs are)) ts (end_of node stream) each)

  arrived_real : (v : WorldState) (at : Visit) (number : ℕ) (r : Reply) (o : Option StreamState) → TalksReal s w v.streams → TalksReal s w (arrived v at number r o).streams
  arrived_real v at number r None each = each
  arrived_real v at number r (Some t) each = changed (with_far (end_of at.node number) (arrival_by r)) (far_stays (end_of at.node number) (arrival_by r)) v.streams t.near each

  delivered_real : (v : WorldState) (count : ℕ) (o : Option Reached) → TalksReal s w v.streams → TalksReal s w (delivered v count o).streams
  delivered_real v count None each = each
  delivered_real v count (Some x) each = changed (with_delivered count) (delivered_stays count) v.streams x.at each

  told_real : (v : WorldState) (o : Option Reached) → TalksReal s w v.streams → TalksReal s w (told v o).streams
  told_real v None each = each
  told_real v (Some x) each = changed (with_side told_closed) (side_stays told_closed) v.streams x.at each

  before_real : (v : WorldState) (e : Event) (at : Visit) (c : Choice) → TalksReal s w v.streams → TalksReal s w (streams_before s v e at c)
  before_real v (event.Arrive stream hold) at c each = arrived_real v at (s.arrives_as at.node stream) c.reply (stream_numbered v.streams stream) each
  before_real v (event.Bytes stream far count hold) at c each = delivered_real v count (reached_side v stream (side_named far)) each
  before_real v (event.Cut stream far hold) at c each = told_real v (reached_side v stream (side_named far)) each
  before_real v _ at c each = each

  -- the streams after a step, of which all that it queues is real
  pub step_talks : (v : WorldState) (e : Event) (at : Visit) (c : Choice) → IsStep e → All (IsQueuedReal s w) (gained at.seat.core c.after) → TalksReal s w v.streams → TalksReal s w (after_visit s v e at c).streams
  unfolding streams_made
  step_talks v e at c is are each =
      subst (TalksReal s w) (sym (streams_stepped s v e at c is)) (made_real at.node (gained at.seat.core c.after) (streams_before s v e at c) are (before_real v e at c each))

  -- ---- a restart

  -- a side that is told that its stream is closed says and sends nothing
  pub told_talks : (node life : ℕ) (ts : List StreamState) → TalksReal s w ts → TalksReal s w (map (told_at s node life) ts)
  told_talks node life ts each =
      each_mapped (TalkReal s w) (TalkReal s w) (told_at s node life) ts (λ t k. told_by (TalkReal s w) (λ u side. side_stays told_closed u side) s node life t k) each

  -- ---- a drain

  handed_real : (node : ℕ) (qs : List Queued) (v : WorldState) → All (IsQueuedReal s w) qs → TalksReal s w v.streams → TalksReal s w (fold (having_sent s node) v qs).streams
  handed_real node [] v are each = each
  handed_real node (datagram link to m ∷ qs) v are each =
      handed_real node qs (having_sent s node v (datagram link to m)) (All-tail (IsQueuedReal s w) (datagram link to m) qs are) (posted_each (TalkReal s w) v m (route_of s (member_of v node) link to) each)
  handed_real node (dial stream to ∷ qs) v are each =
      handed_real node qs (having_sent s node v (dial stream to)) (All-tail (IsQueuedReal s w) (dial stream to) qs are)
      (changed (with_number (v.dials + 1)) (number_stays (v.dials + 1)) v.streams (end_of node stream) each)
  handed_real node (send stream m ∷ qs) v are each =
      handed_real node qs (having_sent s node v (send stream m)) (All-tail (IsQueuedReal s w) (send stream m) qs are)
      (changed (with_sent m) (sent_stays m (All-head (IsQueuedReal s w) (send stream m) qs are)) v.streams (end_of node stream) each)

  closed_real : (node : ℕ) (streams : List ℕ) (v : WorldState) → TalksReal s w v.streams → TalksReal s w (fold (having_closed node) v streams).streams
  closed_real node [] v each = each
  closed_real node (stream ∷ streams) v each = closed_real node streams (having_closed node v stream) (changed with_ended ended_stays v.streams (end_of node stream) each)

  pub drained_talks : (v : WorldState) (node : ℕ) (seat : Seat) (m : NodeState) (max : ℕ) → All (IsQueuedReal s w) (take max m.queue) → TalksReal s w v.streams → TalksReal s w (drained_from s v node seat m max).streams
  unfolding handed_over
  drained_talks v node seat m max are each =
      closed_real node (closes m max) (fold (having_sent s node) (with_seat v node (seat_with (after_drain m max) seat.agent)) (take max m.queue))
      (handed_real node (take max m.queue) (with_seat v node (seat_with (after_drain m max) seat.agent)) are each)
