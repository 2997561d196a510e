-- In every network that turns lead to, each message that is said fits.
use Rattle.std.proofs.Common.{◌≡◌, ◌≢◌, refl, sym, ap, ◌∙◌, subst, ℕ, ◌+◌, ◌⊎◌, inl, inr, true, List, [], ◌∷◌, ◌++◌, length, fold, map, reverse, take, Option, None, Some, All}
use Rattle.std.proofs.lemmas.List.Elements.{All-nil, All-head, All-tail, All-push, All-take, All-drop}
use Rattle.std.proofs.lemmas.Option.{none-some}
use Rattle.grasp_laws_node.proofs.Beginning.{beginnings_end}
use Rattle.grasp_model_node.specs.Begin.{begin}
use Rattle.grasp_model_node.specs.Draining.{closes, after_drain}
use Rattle.grasp_model_node.specs.Node.{NodeState}
use Rattle.grasp_model_node.specs.Queue.{Queued, datagram, dial, send}
use Rattle.grasp_model_node.specs.declared.plan.NodePlan.{NodePlan}
use Rattle.grasp_session.specs.Conversation.{Said, spoken}
use Rattle.grasp_session.specs.Messages.{Side, Near, Far, other}
use Rattle.grasp_types.specs.declared.address.Locator.{Locator}
use Rattle.grasp_types.specs.declared.message.Message.{Message}
use Rattle.grasp_wire.specs.Laws.{IsSendable}
use Rattle.grasp_laws_network.proofs.Here.{visits_are_here}
use Rattle.grasp_laws_network.proofs.Telling.{one_agent}
use Rattle.grasp_laws_network.specs.Telling.{OneAgent}
use Rattle.grasp_laws_node.proofs.PlansStay.{step_plan}
use Rattle.grasp_model_network.specs.StreamChanges.{arrival_by, arrived, told, Reached, reached_side, side_named, delivered}
use Rattle.grasp_model_network.specs.Events.{Occurs, visit_of, after_visit}
use Rattle.grasp_model_network.specs.GoodSetting.{IsGoodSetting}
use Rattle.grasp_model_network.specs.Restarting.{told_at}
use Rattle.grasp_model_network.specs.Routes.{route_of}
use Rattle.grasp_model_network.specs.Runs.{IsReached, first_world}
use Rattle.grasp_model_network.specs.Sending as network
use Rattle.grasp_model_network.specs.Sending.{gained, having_made, streams_made, seat_with, having_sent, having_closed, handed_over, drained_at, drained_from}
use Rattle.grasp_model_network.specs.Setting.{Setting}
use Rattle.grasp_model_network.specs.Streams.{StreamEnd, StreamState, Arrival, Direction, told_closed, fresh_stream, sent_by, next_bytes, with_direction, with_side, with_said, with_sent, with_ended, with_delivered, with_number, with_far, at_end, stream_numbered}
use Rattle.grasp_model_network.specs.Visits.{Visit, Choice, VisitStep, MayCome}
use Rattle.grasp_model_network.specs.World.{Seat, WorldState, present_life, member_of, seat_at, with_seat, end_of}
use Rattle.grasp_model_network.specs.declared.event.Event.{Event}
use Rattle.grasp_model_network.specs.declared.event.Event.TheVariants as event
use Rattle.grasp_laws_delivery.proofs.AfterSteps.{posted_each, streams_before, streams_stepped}
use Rattle.grasp_laws_delivery.proofs.Given.{limit_by}
use Rattle.grasp_laws_delivery.proofs.Holding.{IsStep, PartsKeep, parts_keep}
use Rattle.grasp_laws_delivery.proofs.InRange.Moves.{CanSend}
use Rattle.grasp_laws_delivery.proofs.InRange.Networks.{all_real, step_queues}
use Rattle.grasp_laws_delivery.proofs.Said.Talks.{said_more, said_beside, said_sends, direction_says, direction_is, direction_beside}
use Rattle.grasp_laws_delivery.proofs.Sides.{sides_tell, at_end_has, each_mapped, each_changed, each_push, closed_sends, closed_says}
use Rattle.grasp_laws_delivery.proofs.Turned.{told_by}
use Rattle.grasp_laws_delivery.specs.Fits.{CanBeSent, AllCanBeSent, SaidFits}
use Rattle.grasp_laws_delivery.specs.Saying.{said_by}

-- ---- one stream

same_can : (limit : ℕ) (t u : StreamState) → ((side : Side) → said_by u side ≡ said_by t side) → ((side : Side) → (sent_by u side).sent ≡ (sent_by t side).sent) → CanBeSent limit t → CanBeSent limit u
same_can limit t u said sent k = record {
  said = λ side. subst (λ ms. All (IsSendable limit) ms) (sym (said side)) (k.said side);
  sent = λ side. subst (λ ms. All (IsSendable limit) ms) (sym (sent side)) (k.sent side);
}

said_can : (limit : ℕ) (e : StreamEnd) (m : Message) (t : StreamState) → IsSendable limit m → CanBeSent limit t → CanBeSent limit (at_end e (with_said m) t)
said_can limit e m t is k = at_end_has (CanBeSent limit) e (with_said m) t (λ none. k) (λ by at. record {
  said = λ side. by_side by side (sides_tell side by);
  sent = λ side. subst (λ (d : Direction). All (IsSendable limit) d.sent) (sym (said_sends t side by m)) (k.sent side);
}) where
  by_side : (by side : Side) → (side ≡ by) ⊎ (side ≢ by) → All (IsSendable limit) (said_by (with_said m t by) side)
  by_side by side (inl is_it) =
      subst (λ (x : Side). All (IsSendable limit) (said_by (with_said m t x) side)) is_it
      (subst (λ ms. All (IsSendable limit) ms) (sym (said_more t side m)) (All-push (IsSendable limit) (said_by t side) m (k.said side) is))
  by_side by side (inr n) = subst (λ ms. All (IsSendable limit) ms) (sym (said_beside t side by m n)) (k.said side)

direction_can : (limit : ℕ) (t : StreamState) (by : Side) (d : Direction) → All (IsSendable limit) d.sent → CanBeSent limit t → CanBeSent limit (with_direction t by d)
direction_can limit t by d is k = record {
  said = λ side. subst (λ ms. All (IsSendable limit) ms) (sym (direction_says t side by d)) (k.said side);
  sent = λ side. by_side side (sides_tell side by);
} where
  by_side : (side : Side) → (side ≡ by) ⊎ (side ≢ by) → All (IsSendable limit) (sent_by (with_direction t by d) side).sent
  by_side side (inl is_it) =
      subst (λ (x : Side). All (IsSendable limit) (sent_by (with_direction t by d) x).sent) (sym is_it) (subst (λ (f : Direction). All (IsSendable limit) f.sent) (sym (direction_is t by d)) is)
  by_side side (inr n) = subst (λ (f : Direction). All (IsSendable limit) f.sent) (sym (direction_beside t side by d n)) (k.sent side)

sent_can : (limit : ℕ) (e : StreamEnd) (m : Message) (t : StreamState) → IsSendable limit m → CanBeSent limit t → CanBeSent limit (at_end e (with_sent m) t)
sent_can limit e m t is k = at_end_has (CanBeSent limit) e (with_sent m) t (λ none. k)
    (λ by at.
    direction_can limit t by (record (sent_by t by) { sent = (sent_by t by).sent ++ m ∷ [] }) (All-push (IsSendable limit) (sent_by t by).sent m (k.sent by) is) k)

ended_can : (limit : ℕ) (e : StreamEnd) (t : StreamState) → CanBeSent limit t → CanBeSent limit (at_end e with_ended t)
ended_can limit e t k =
    at_end_has (CanBeSent limit) e with_ended t (λ none. k) (λ by at. direction_can limit t by (record (sent_by t by) { ended = true }) (k.sent by) k)

delivered_can : (limit : ℕ) (e : StreamEnd) (count : ℕ) (t : StreamState) → CanBeSent limit t → CanBeSent limit (at_end e (with_delivered count) t)
delivered_can limit e count t k = at_end_has (CanBeSent limit) e (with_delivered count) t (λ none. k)
    (λ by at.
    direction_can limit t (other by) (record (sent_by t (other by)) { delivered = (sent_by t (other by)).delivered + length (next_bytes t (other by) count) }) (k.sent (other by)) k)

numbered_can : (limit : ℕ) (e : StreamEnd) (n : ℕ) (t : StreamState) → CanBeSent limit t → CanBeSent limit (at_end e (with_number n) t)
numbered_can limit e n t k = at_end_has (CanBeSent limit) e (with_number n) t (λ none. k) (λ by at. same_can limit t (record t { number = Some n }) (λ side. refl) sends k) where
  sends : (side : Side) → (sent_by (record t { number = Some n }) side).sent ≡ (sent_by t side).sent
  sends Near = refl
  sends Far = refl

shut_can : (limit : ℕ) (t : StreamState) (by : Side) → CanBeSent limit t → CanBeSent limit (with_side told_closed t by)
shut_can limit t by k =
    same_can limit t (with_side told_closed t by) (λ side. ap (λ (said : List Said). reverse (spoken side said)) (closed_says t by)) (λ side. ap (λ (d : Direction). d.sent) (closed_sends t by side)) k

told_can : (limit : ℕ) (e : StreamEnd) (t : StreamState) → CanBeSent limit t → CanBeSent limit (at_end e (with_side told_closed) t)
told_can limit e t k = at_end_has (CanBeSent limit) e (with_side told_closed) t (λ none. k) (λ by at. shut_can limit t by k)

opened_can : (limit : ℕ) (e far : StreamEnd) (a : Arrival) (t : StreamState) → CanBeSent limit t → CanBeSent limit (at_end e (with_far far a) t)
opened_can limit e far a t k = at_end_has (CanBeSent limit) e (with_far far a) t (λ none. k) (λ by at. same_can limit t (record t { far = Some far; far_side = a }) (λ side. refl) sends k) where
  sends : (side : Side) → (sent_by (record t { far = Some far; far_side = a }) side).sent ≡ (sent_by t side).sent
  sends Near = refl
  sends Far = refl

dialled_can : (limit : ℕ) (e : StreamEnd) (to : Locator) → CanBeSent limit (fresh_stream e to)
dialled_can limit e to = record { said = said; sent = sent } where
  said : (side : Side) → All (IsSendable limit) (said_by (fresh_stream e to) side)
  said Near = All-nil (IsSendable limit)
  said Far = All-nil (IsSendable limit)

  sent : (side : Side) → All (IsSendable limit) (sent_by (fresh_stream e to) side).sent
  sent Near = All-nil (IsSendable limit)
  sent Far = All-nil (IsSendable limit)

-- ---- a step

made_can : (limit node : ℕ) (qs : List Queued) (ts : List StreamState) → All (CanSend limit) qs → AllCanBeSent limit ts → AllCanBeSent limit (fold (having_made node) ts qs)
made_can limit node [] ts can each = each
made_can limit node (datagram link to m ∷ qs) ts can each = made_can limit node qs ts (All-tail (CanSend limit) (datagram link to m) qs can) each
made_can limit node (dial stream to ∷ qs) ts can each =
    made_can limit node qs (having_made node ts (dial stream to)) (All-tail (CanSend limit) (dial stream to) qs can)
    (each_push (CanBeSent limit) ts (fresh_stream (end_of node stream) to) (dialled_can limit (end_of node stream) to) each)
made_can limit node (send stream m ∷ qs) ts can each =
    made_can limit node qs (having_made node ts (send stream m)) (All-tail (CanSend limit) (send stream m) qs can)
    (each_changed (CanBeSent limit) (CanBeSent limit) ts (end_of node stream) (with_said m) (λ t k. said_can limit (end_of node stream) m t (All-head (CanSend limit) (send stream m) qs can) k) each)

before_can : (limit : ℕ) (s : Setting) (w : WorldState) (e : Event) (v : Visit) (c : Choice) → AllCanBeSent limit w.streams → AllCanBeSent limit (streams_before s w e v c)
before_can limit s w (event.Arrive k hold) v c each = by_talk (stream_numbered w.streams k) where
  by_talk : (o : Option StreamState) → AllCanBeSent limit (arrived w v (s.arrives_as v.node k) c.reply o).streams
  by_talk None = each
  by_talk (Some t) =
      each_changed (CanBeSent limit) (CanBeSent limit) w.streams t.near (with_far (end_of v.node (s.arrives_as v.node k)) (arrival_by c.reply))
      (λ u h. opened_can limit t.near (end_of v.node (s.arrives_as v.node k)) (arrival_by c.reply) u h) each
before_can limit s w (event.Bytes k far count hold) v c each = by_side (reached_side w k (side_named far)) where
  by_side : (o : Option Reached) → AllCanBeSent limit (delivered w count o).streams
  by_side None = each
  by_side (Some x) = each_changed (CanBeSent limit) (CanBeSent limit) w.streams x.at (with_delivered count) (delivered_can limit x.at count) each
before_can limit s w (event.Cut k far hold) v c each = by_side (reached_side w k (side_named far)) where
  by_side : (o : Option Reached) → AllCanBeSent limit (told w o).streams
  by_side None = each
  by_side (Some x) = each_changed (CanBeSent limit) (CanBeSent limit) w.streams x.at (with_side told_closed) (told_can limit x.at) each
before_can limit s w _ v c each = each

step_can : (s : Setting) (good : IsGoodSetting s) (w : WorldState) (e : Event) (c : Choice) (v : Visit) → IsReached s w → Occurs s w e c → visit_of s w e ≡ Some v → IsStep e → AllCanBeSent good.limit w.streams
    → AllCanBeSent good.limit (after_visit s w e v c).streams
unfolding streams_made
step_can s good w e c v r o is step each =
    subst (λ ts. AllCanBeSent good.limit ts) (sym (streams_stepped s w e v c step))
    (made_can good.limit v.node (gained v.seat.core c.after) (streams_before s w e v c) (All-drop (CanSend good.limit) (length v.seat.core.queue) c.after.queue queue) (before_can good.limit s w e v c each)) where
      steps : VisitStep v c
      steps = subst (λ (x : Option Visit). MayCome x c) is o.comes

      limits : c.after.plan.limit ≡ good.limit
      limits =
          ap (λ (p : NodePlan). p.limit) (step_plan v.seat.core c.after v.now v.input c.coming c.reply steps.steps)
          ∙ limit_by s good w r v.node v.seat (visits_are_here s w e v is).stands

      queue : All (CanSend good.limit) c.after.queue
      queue = subst (λ n. All (CanSend n) c.after.queue) limits (step_queues s w e c v r o is step).queue

-- ---- a drain

handed_can : (limit : ℕ) (s : Setting) (node : ℕ) (qs : List Queued) (w : WorldState) → All (CanSend limit) qs → AllCanBeSent limit w.streams
    → AllCanBeSent limit (fold (having_sent s node) w qs).streams
handed_can limit s node [] w can each = each
handed_can limit s node (datagram link to m ∷ qs) w can each =
    handed_can limit s node qs (having_sent s node w (datagram link to m)) (All-tail (CanSend limit) (datagram link to m) qs can) (posted_each (CanBeSent limit) w m (route_of s (member_of w node) link to) each)
handed_can limit s node (dial stream to ∷ qs) w can each =
    handed_can limit s node qs (having_sent s node w (dial stream to)) (All-tail (CanSend limit) (dial stream to) qs can)
    (each_changed (CanBeSent limit) (CanBeSent limit) w.streams (end_of node stream) (with_number (w.dials + 1)) (numbered_can limit (end_of node stream) (w.dials + 1)) each)
handed_can limit s node (send stream m ∷ qs) w can each =
    handed_can limit s node qs (having_sent s node w (send stream m)) (All-tail (CanSend limit) (send stream m) qs can)
    (each_changed (CanBeSent limit) (CanBeSent limit) w.streams (end_of node stream) (with_sent m) (λ t k. sent_can limit (end_of node stream) m t (All-head (CanSend limit) (send stream m) qs can) k) each)

closed_can : (limit node : ℕ) (streams : List ℕ) (w : WorldState) → AllCanBeSent limit w.streams → AllCanBeSent limit (fold (having_closed node) w streams).streams
closed_can limit node [] w each = each
closed_can limit node (stream ∷ streams) w each =
    closed_can limit node streams (having_closed node w stream)
    (each_changed (CanBeSent limit) (CanBeSent limit) w.streams (end_of node stream) with_ended (ended_can limit (end_of node stream)) each)

drained_can : (s : Setting) (good : IsGoodSetting s) (w : WorldState) (node max : ℕ) (o : Option Seat) → IsReached s w → seat_at w node ≡ o → AllCanBeSent good.limit w.streams
    → AllCanBeSent good.limit (drained_at s w node max o).streams
unfolding handed_over
drained_can s good w node max None r here each = each
drained_can s good w node max (Some seat) r here each = from (begin seat.core seat.core.reading) (beginnings_end seat.core seat.core.reading).0.queue where
  queue : All (CanSend good.limit) seat.core.queue
  queue = subst (λ n. All (CanSend n) seat.core.queue) (limit_by s good w r node seat here) (all_real s w r node seat here).real.queue

  from : (m : NodeState) → m.queue ≡ seat.core.queue → AllCanBeSent good.limit (drained_from s w node seat m max).streams
  from m e =
      closed_can good.limit node (closes m max) (fold (having_sent s node) (with_seat w node (seat_with (after_drain m max) seat.agent)) (take max m.queue))
      (handed_can good.limit s node (take max m.queue) (with_seat w node (seat_with (after_drain m max) seat.agent))
      (All-take (CanSend good.limit) max m.queue (subst (λ (q : List Queued). All (CanSend good.limit) q) (sym e) queue)) each)

-- ---- every turn

one_can : (limit : ℕ) (w x : WorldState) → OneAgent w x → AllCanBeSent limit w.streams → AllCanBeSent limit x.streams
one_can limit w x o each = subst (λ (y : WorldState). AllCanBeSent limit y.streams) (sym o.after) each

restart_can : (limit : ℕ) (s : Setting) (node life : ℕ) (ts : List StreamState) → AllCanBeSent limit ts → AllCanBeSent limit (map (told_at s node life) ts)
restart_can limit s node life ts each = each_mapped (CanBeSent limit) (CanBeSent limit) (told_at s node life) ts (told_by (CanBeSent limit) (shut_can limit) s node life) each

fit_parts : (s : Setting) (good : IsGoodSetting s) → PartsKeep s (λ w. AllCanBeSent good.limit w.streams)
unfolding network.drained
fit_parts s good = record {
  steps = λ w e c v r each o is step reached. step_can s good w e c v r o is step each;
  told = λ w x e r t each. one_can good.limit w x (one_agent s w e x t) each;
  drains = λ w node max r each least. drained_can s good w node max (seat_at w node) r refl each;
  settles = λ w x node p r t each. one_can good.limit w x t.one each;
  restarts = λ w x node image r t each. subst (AllCanBeSent good.limit) (sym t.streams) (restart_can good.limit s node (present_life w node) w.streams each);
}

pub said_fits : SaidFits
unfolding first_world
said_fits s w r = parts_keep s (λ x. AllCanBeSent r.good.limit x.streams) (fit_parts s r.good) (λ place t found. absurd (none-some t found)) w r
