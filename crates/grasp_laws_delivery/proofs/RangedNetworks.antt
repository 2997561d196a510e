-- In every network that turns lead to, the datagrams that are queued, and those that were sent, are messages in range.
use Rattle.std.proofs.Common.{◌≡◌, refl, sym, subst, ℕ, List, [], ◌∷◌, fold, take, Option, None, Some, All}
use Rattle.std.proofs.lemmas.List.Elements.{All-nil, All-head, All-tail, All-push, All-take, All-drop}
use Rattle.grasp_laws_node.proofs.Beginning.{beginnings_end}
use Rattle.grasp_laws_node.proofs.Remembered.{relays_once}
use Rattle.grasp_model_node.specs.Begin.{begin}
use Rattle.grasp_model_node.specs.Draining.{closes, after_drain}
use Rattle.grasp_model_node.specs.Node.{NodeState}
use Rattle.grasp_model_node.specs.Queue.{Queued, datagram, dial, send}
use Rattle.grasp_model_node.specs.Step.{Coming, NodeStep}
use Rattle.grasp_model_node.specs.declared.plan.NodePlan.{NodePlan}
use Rattle.grasp_types.specs.Address.{IsAddress}
use Rattle.grasp_types.specs.Message.{IsMessage}
use Rattle.grasp_types.specs.declared.message.Message.{Message}
use Rattle.grasp_types.specs.declared.reply.Reply.{Reply}
use Rattle.grasp_types.specs.declared.traffic.Input.{Input}
use Rattle.grasp_laws_network.proofs.Openings.{worlds_begin}
use Rattle.grasp_laws_network.proofs.Telling.{one_agent}
use Rattle.grasp_laws_network.specs.Telling.{OneAgent}
use Rattle.grasp_model_network.specs.EventSteps.{after_agent_call, after_agent, after_arrival, after_clock, after_cut, after_delivery, after_piece}
use Rattle.grasp_model_network.specs.StreamChanges.{arrived, told, Reached, reached_side, side_named, delivered}
use Rattle.grasp_model_network.specs.Events.{after_visit}
use Rattle.grasp_model_network.specs.Notes.{noted}
use Rattle.grasp_model_network.specs.Routes.{Route, route_of}
use Rattle.grasp_model_network.specs.Runs.{IsReached, first_world}
use Rattle.grasp_model_network.specs.Sending as network
use Rattle.grasp_model_network.specs.Sending.{seat_with, stepped, posted, having_sent, having_closed, handed_over, drained_at, drained_from}
use Rattle.grasp_model_network.specs.Setting.{Setting}
use Rattle.grasp_model_network.specs.Streams.{StreamState, stream_numbered}
use Rattle.grasp_model_network.specs.Visits.{Visit, Choice, MayCome, no_choice}
use Rattle.grasp_model_network.specs.World.{Seat, SentDatagram, WorldState, member_of, seat_at, with_seat}
use Rattle.grasp_model_network.specs.declared.event.Event.{Event}
use Rattle.grasp_model_network.specs.declared.event.Event.TheVariants as event
use Rattle.grasp_laws_delivery.proofs.Holding.{IsStep, PartsKeep, parts_keep}
use Rattle.grasp_laws_delivery.proofs.InRange.Moves.{IsInRange, IsRealPlan}
use Rattle.grasp_laws_delivery.proofs.InRange.Networks.{all_real, real_plan, input_good}
use Rattle.grasp_laws_delivery.proofs.InRange.Nodes.{IsGoodInput, begin_real}
use Rattle.grasp_laws_delivery.proofs.EachStep.{OfAll, NodesKeep, nodes_keep}
use Rattle.grasp_laws_delivery.proofs.Ranged.{IsRanged, IsQueueRanged, input_queue}

-- ---- queues

begun_ranged : (n : NodeState) (now : ℕ) → IsQueueRanged n → IsQueueRanged (begin n now)
begun_ranged n now q = subst (All IsRanged) (sym (beginnings_end n now).0.queue) q

step_ranged : (n after : NodeState) (now : ℕ) (i : Input) (x : Coming) (r : Reply) → IsRealPlan n.plan → IsInRange n.plan n → IsGoodInput i → IsQueueRanged n → NodeStep n now i x r after → IsQueueRanged after
step_ranged n after now i x r plan real good q s = from (begin_real n.plan n now real) where
  from : IsInRange n.plan (begin n now) → IsQueueRanged after
  from k =
      input_queue (begin n now) i x r after (relays_once n after now i x r s) s.is_coming good
      (subst (λ (p : NodePlan). IsAddress p.address) (sym k.plan_is) plan.address) k.registrations (begun_ranged n now q)

drain_ranged : (m : NodeState) (max : ℕ) → IsQueueRanged m → IsQueueRanged (after_drain m max)
unfolding after_drain
drain_ranged m max q = All-drop IsRanged max m.queue q

ranged_keep : (s : Setting) → NodesKeep s IsQueueRanged
ranged_keep s = record {
  begins = λ node m h is. subst (All IsRanged) (sym (worlds_begin m.plan h no_choice.coming).quiet) (All-nil IsRanged);
  steps = λ w e c v r q o is here step.
      step_ranged v.seat.core c.after v.now v.input c.coming c.reply (real_plan s w r v.node v.seat here) (all_real s w r v.node v.seat here).real
      (input_good s w e v (all_real s w r) o.fit is step) q (subst (λ (x : Option Visit). MayCome x c) is o.comes).steps;
  drains = λ w node seat max r here q. drain_ranged (begin seat.core seat.core.reading) max (begun_ranged seat.core seat.core.reading q);
}

pub queues_ranged : (s : Setting) (w : WorldState) → IsReached s w → OfAll IsQueueRanged w
queues_ranged s w r = nodes_keep s IsQueueRanged (ranged_keep s) w r

-- ---- what was sent

abbrev pub IsSentRanged : SentDatagram → Type 0
IsSentRanged d = IsMessage d.message

abbrev pub AllSentRanged : WorldState → Type 0
AllSentRanged w = All IsSentRanged w.datagrams

arrived_same : (w : WorldState) (v : Visit) (number : ℕ) (r : Reply) (o : Option StreamState) → (arrived w v number r o).datagrams ≡ w.datagrams
arrived_same w v number r None = refl
arrived_same w v number r (Some t) = refl

delivered_same : (w : WorldState) (count : ℕ) (o : Option Reached) → (delivered w count o).datagrams ≡ w.datagrams
delivered_same w count None = refl
delivered_same w count (Some x) = refl

told_same : (w : WorldState) (o : Option Reached) → (told w o).datagrams ≡ w.datagrams
told_same w None = refl
told_same w (Some x) = refl

-- a step sends nothing
pub stepped_same : (s : Setting) (w : WorldState) (e : Event) (v : Visit) (c : Choice) → IsStep e → (after_visit s w e v c).datagrams ≡ w.datagrams
unfolding after_clock after_agent after_agent_call after_delivery after_arrival after_piece after_cut noted stepped
stepped_same s w (event.Want node length longest peer) v c is = absurd is
stepped_same s w (event.Return node prefix peer) v c is = absurd is
stepped_same s w (event.Arrive stream hold) v c is = arrived_same w v (s.arrives_as v.node stream) c.reply (stream_numbered w.streams stream)
stepped_same s w (event.Bytes stream far count hold) v c is = delivered_same w count (reached_side w stream (side_named far))
stepped_same s w (event.Cut stream far hold) v c is = told_same w (reached_side w stream (side_named far))
stepped_same s w (event.Drain node max) v c is = absurd is
stepped_same s w _ v c is = refl

posted_ranged : (w : WorldState) (m : Message) (route : Option Route) → IsMessage m → AllSentRanged w → AllSentRanged (posted w m route)
posted_ranged w m None is all = all
posted_ranged w m (Some route) is all = All-push IsSentRanged w.datagrams (record { route = route; message = m }) all is

sent_ranged : (s : Setting) (node : ℕ) (w : WorldState) (q : Queued) → IsRanged q → AllSentRanged w → AllSentRanged (having_sent s node w q)
sent_ranged s node w (datagram link to m) is all = posted_ranged w m (route_of s (member_of w node) link to) is all
sent_ranged s node w (dial stream to) is all = all
sent_ranged s node w (send stream m) is all = all

handed_ranged : (s : Setting) (node : ℕ) (qs : List Queued) (w : WorldState) → All IsRanged qs → AllSentRanged w → AllSentRanged (fold (having_sent s node) w qs)
handed_ranged s node [] w ranged all = all
handed_ranged s node (q ∷ qs) w ranged all =
    handed_ranged s node qs (having_sent s node w q) (All-tail IsRanged q qs ranged) (sent_ranged s node w q (All-head IsRanged q qs ranged) all)

closed_ranged : (node : ℕ) (streams : List ℕ) (w : WorldState) → AllSentRanged w → AllSentRanged (fold (having_closed node) w streams)
closed_ranged node [] w all = all
closed_ranged node (stream ∷ streams) w all = closed_ranged node streams (having_closed node w stream) all

drained_ranged : (s : Setting) (w : WorldState) (node max : ℕ) (o : Option Seat) → IsReached s w → seat_at w node ≡ o → AllSentRanged w → AllSentRanged (drained_at s w node max o)
unfolding handed_over
drained_ranged s w node max None r here all = all
drained_ranged s w node max (Some seat) r here all = from (begin seat.core seat.core.reading) (begun_ranged seat.core seat.core.reading (queues_ranged s w r node seat here)) where
  from : (m : NodeState) → IsQueueRanged m → AllSentRanged (drained_from s w node seat m max)
  from m q =
      let put = with_seat w node (seat_with (after_drain m max) seat.agent) in
      closed_ranged node (closes m max) (fold (having_sent s node) put (take max m.queue)) (handed_ranged s node (take max m.queue) put (All-take IsRanged max m.queue q) all)

-- another agent sends nothing
one_sent : (w x : WorldState) → OneAgent w x → AllSentRanged w → AllSentRanged x
one_sent w x o all = subst AllSentRanged (sym o.after) all

sent_parts : (s : Setting) → PartsKeep s AllSentRanged
unfolding network.drained
sent_parts s = record {
  steps = λ w e c v r all o is step reached. subst (All IsSentRanged) (sym (stepped_same s w e v c step)) all;
  told = λ w x e r t all. one_sent w x (one_agent s w e x t) all;
  drains = λ w node max r all least. drained_ranged s w node max (seat_at w node) r refl all;
  settles = λ w x node p r t all. one_sent w x t.one all;
  restarts = λ w x node image r t all. subst AllSentRanged (sym t.rest) all;
}

pub all_sent_ranged : (s : Setting) (w : WorldState) → IsReached s w → AllSentRanged w
unfolding first_world
all_sent_ranged s w r = parts_keep s AllSentRanged (sent_parts s) (All-nil IsSentRanged) w r
