-- A drain sends each datagram that it gives, along its way, and nothing else sends one.
use Rattle.std.proofs.Common.{◌≡◌, refl, sym, ap, ◌∙◌, subst, arith, ℕ, ◌<◌, ◌≤◌, List, [], ◌∷◌, ◌++◌, All, fold, take, length, slice_get, get_or, append_assoc, append-nil, ◌⊎◌, inl, inr, Option, Some, None}
use Rattle.std.proofs.lemmas.List.Elements.{All-head, All-tail, All-take}
use Rattle.std.proofs.lemmas.Option.{same_Some, slice_get_cases}
use Rattle.grasp_laws_network.proofs.EachNode.{nodes_are_sound}
use Rattle.grasp_laws_network.proofs.Lists.{numbered_there}
use Rattle.grasp_laws_network.proofs.LivesKept.{lives_are_kept}
use Rattle.grasp_laws_network.proofs.Telling.{none_one}
use Rattle.grasp_laws_network.specs.Telling.{OneAgent}
use Rattle.grasp_laws_node.proofs.Beginning.{beginnings_end}
use Rattle.grasp_laws_node.specs.Relays.{IsWay}
use Rattle.grasp_model_network.specs.EventSteps.{after_agent, after_agent_call, after_arrival, after_clock, after_cut, after_delivery, after_piece}
use Rattle.grasp_model_network.specs.Events.{Occurs, after_event, after_visit, visit_of}
use Rattle.grasp_model_network.specs.GoodSetting.{IsGoodSetting}
use Rattle.grasp_model_network.specs.Notes.{noted}
use Rattle.grasp_model_network.specs.Routes.{Route, route_of}
use Rattle.grasp_model_network.specs.Runs.{IsReached}
use Rattle.grasp_model_network.specs.Sending as network
use Rattle.grasp_model_network.specs.Sending.{drained_at, drained_from, handed_over, having_closed, having_sent, posted, seat_with, stepped}
use Rattle.grasp_model_network.specs.Setting.{Member, Setting, numbered}
use Rattle.grasp_model_network.specs.StreamChanges.{Reached, arrived, delivered, reached_side, side_named, told}
use Rattle.grasp_model_network.specs.Streams.{StreamState, stream_numbered}
use Rattle.grasp_model_network.specs.Visits.{Visit, Choice, visit_seat}
use Rattle.grasp_model_network.specs.World.{Seat, SentDatagram, WorldState, member_of, present_life, seat_at, with_seat}
use Rattle.grasp_model_network.specs.declared.event.Event.{Event}
use Rattle.grasp_model_network.specs.declared.event.Event.TheVariants as event
use Rattle.grasp_model_node.specs.Begin.{begin}
use Rattle.grasp_model_node.specs.Draining.{after_drain, closes}
use Rattle.grasp_model_node.specs.Node.{NodeState}
use Rattle.grasp_model_node.specs.Queue.{Queued, datagram, dial, send}
use Rattle.grasp_types.specs.declared.links.Neighbour.{Neighbour}
use Rattle.grasp_types.specs.declared.reply.Reply.{Reply}
use Rattle.grasp_types.specs.declared.traffic.Input.TheVariants as input
use Rattle.grasp_laws_events.proofs.Parts.{after_is, has_seat, held_is, none_is}
use Rattle.grasp_laws_events.proofs.QueuedWays.{HasWay, queued_ways}
use Rattle.grasp_laws_events.proofs.Ways.{ways_lead_to_neighbours}
use Rattle.grasp_laws_events.specs.Steps.{SendsNothingBehind}
use Rattle.grasp_laws_events.specs.Ways.{HasNeighbour, LeadsTo, AreSentAlong, DatagramsAreSent}

-- ---- a way

-- a neighbour that a way names is there
neighbour_at : (m : Member) (link to : ℕ) → IsWay m.plan.links (record { link = link; to = to }) → (x : Neighbour) × HasNeighbour m link to x
neighbour_at m link to way = by_case (slice_get_cases way.neighbours to).1 where
  by_case : ((x : Neighbour) × (to < length way.neighbours) × (slice_get way.neighbours to ≡ Some x) × (get_or way.neighbours to x ≡ x)) ⊎ ((length way.neighbours ≤ to) × (slice_get way.neighbours to ≡ None))
      → (x : Neighbour) × HasNeighbour m link to x
  by_case (inl f) = (f.0, record { neighbours = way.neighbours; on = way.is_link; at = f.2 })
  by_case (inr past) = absurd (let a : length way.neighbours ≤ to = past.0 in let b : to < length way.neighbours = way.has_neighbour in omega arith)

-- ---- what is sent of a queue

-- the network has these datagrams more, which are those of the queue
record Sends (s : Setting) (member : ℕ) (w x : WorldState) (qs : List Queued) : Type 0 where
  more : List SentDatagram
  joined : x.datagrams ≡ w.datagrams ++ more
  along : AreSentAlong s member qs more

sends_none : (s : Setting) (member : ℕ) (w : WorldState) → Sends s member w w []
sends_none s member w = record { more = []; joined = sym (append-nil w.datagrams); along = refl }

module _ (s : Setting) (member : ℕ) (m : Member) (good : IsGoodSetting s) (found : numbered s.members member ≡ Some m) where
  sends_all : (life : ℕ) (qs : List Queued) (w : WorldState) → member_of w life ≡ member → All (HasWay m.plan.links) qs → Sends s member w (fold (having_sent s life) w qs) qs
  sends_all life [] w own ways = sends_none s member w
  sends_all life (dial stream to ∷ qs) w own ways = over (sends_all life qs (having_sent s life w (dial stream to)) own (All-tail (HasWay m.plan.links) (dial stream to) qs ways)) where
    over : Sends s member (having_sent s life w (dial stream to)) (fold (having_sent s life) w (dial stream to ∷ qs)) qs → Sends s member w (fold (having_sent s life) w (dial stream to ∷ qs)) (dial stream to ∷ qs)
    over d = record { more = d.more; joined = d.joined; along = d.along }
  sends_all life (send stream q ∷ qs) w own ways = over (sends_all life qs (having_sent s life w (send stream q)) own (All-tail (HasWay m.plan.links) (send stream q) qs ways)) where
    over : Sends s member (having_sent s life w (send stream q)) (fold (having_sent s life) w (send stream q ∷ qs)) qs → Sends s member w (fold (having_sent s life) w (send stream q ∷ qs)) (send stream q ∷ qs)
    over d = record { more = d.more; joined = d.joined; along = d.along }
  sends_all life (datagram link to q ∷ qs) w own ways = by_neighbour (neighbour_at m link to (All-head (HasWay m.plan.links) (datagram link to q) qs ways)) (λ y at. sends_all life qs y at (All-tail (HasWay m.plan.links) (datagram link to q) qs ways)) where
    by_neighbour : (x : Neighbour) × HasNeighbour m link to x → ((y : WorldState) → member_of y life ≡ member → Sends s member y (fold (having_sent s life) y qs) qs)
        → Sends s member w (fold (having_sent s life) w (datagram link to q ∷ qs)) (datagram link to q ∷ qs)
    by_neighbour (x, has) more = by_route ((ways_lead_to_neighbours s member m good found).each link to x has) where
      by_route : (r : Route) × (route_of s member link to ≡ Some r) × LeadsTo s m x r → Sends s member w (fold (having_sent s life) w (datagram link to q ∷ qs)) (datagram link to q ∷ qs)
      by_route (r, route, leads) = subst (λ (y : WorldState). Sends s member w (fold (having_sent s life) y qs) (datagram link to q ∷ qs)) (sym goes) (after (more (posted w q (Some r)) own)) where
        goes : having_sent s life w (datagram link to q) ≡ posted w q (Some r)
        goes = ap (posted w q) (ap (λ k. route_of s k link to) own ∙ route)

        d : SentDatagram
        d = record { route = r; message = q }

        after : Sends s member (posted w q (Some r)) (fold (having_sent s life) (posted w q (Some r)) qs) qs
            → Sends s member w (fold (having_sent s life) (posted w q (Some r)) qs) (datagram link to q ∷ qs)
        after f = record {
          more = d ∷ f.more;
          joined = f.joined ∙ append_assoc w.datagrams (d ∷ []) f.more;
          along = (r, route, (f.more, refl, f.along));
        }

closed_same : (life : ℕ) (streams : List ℕ) (w : WorldState) → (fold (having_closed life) w streams).datagrams ≡ w.datagrams
closed_same life [] w = refl
closed_same life (stream ∷ streams) w = closed_same life streams (having_closed life w stream)

-- ---- a drain

drain_sends : (s : Setting) (w : WorldState) (node max : ℕ) (c : Choice) (v : Visit) → IsReached s w → Occurs s w (event.Drain node max) c → visit_of s w (event.Drain node max) ≡ Some v
    → Sends s (member_of w v.node) w (after_event s w (event.Drain node max) c) (take max v.seat.core.queue)
unfolding handed_over network.drained
drain_sends s w node max c v r o visits = by_seat (has_seat s w node r o.fit) where
  life : ℕ
  life = present_life w node

  by_seat : (seat : Seat) × (seat_at w life ≡ Some seat) → Sends s (member_of w v.node) w (after_event s w (event.Drain node max) c) (take max v.seat.core.queue)
  by_seat (seat, here) =
      subst (λ (u : Visit). Sends s (member_of w u.node) w (after_event s w (event.Drain node max) c) (take max u.seat.core.queue)) same
      (subst (λ (x : WorldState). Sends s (member_of w life) w x (take max seat.core.queue)) (sym (after_is s w (event.Drain node max) c u visits_u)) by_drain)
    where
      u : Visit
      u = record { node = life; seat = seat; now = seat.core.reading; input = input.Drain max }

      visits_u : visit_of s w (event.Drain node max) ≡ Some u
      visits_u = ap (visit_seat life (input.Drain max)) here

      same : u ≡ v
      same = same_Some u v (sym visits_u ∙ visits)

      own : member_of w life ≡ node
      own = (lives_are_kept s w r).own node o.fit

      by_member : (m : Member) × (numbered s.members node ≡ Some m) → Sends s (member_of w life) w (drained_at s w life max (Some seat)) (take max seat.core.queue)
      by_member (m, found) = from (begin seat.core seat.core.reading) (beginnings_end seat.core seat.core.reading).0.queue where
        plan : seat.core.plan ≡ m.plan
        plan = nodes_are_sound.plans s w r life seat m here (ap (λ k. numbered s.members k) own ∙ found)

        ways : All (HasWay m.plan.links) (take max seat.core.queue)
        ways = All-take (HasWay m.plan.links) max seat.core.queue (subst (λ p. All (HasWay p.links) seat.core.queue) plan (queued_ways s w r life seat here))

        from : (n : NodeState) → n.queue ≡ seat.core.queue → Sends s (member_of w life) w (drained_from s w life seat n max) (take max seat.core.queue)
        from n queue =
            subst (λ (qs : List Queued). Sends s (member_of w life) w (drained_from s w life seat n max) (take max qs)) queue (closing (sends_all s (member_of w life) m r.good at life (take max n.queue) put refl (subst (λ (qs : List Queued). All (HasWay m.plan.links) (take max qs)) (sym queue) ways)))
          where
            put : WorldState
            put = with_seat w life (seat_with (after_drain n max) seat.agent)

            at : numbered s.members (member_of w life) ≡ Some m
            at = ap (λ k. numbered s.members k) own ∙ found

            closing : Sends s (member_of w life) put (fold (having_sent s life) put (take max n.queue)) (take max n.queue) → Sends s (member_of w life) w (drained_from s w life seat n max) (take max n.queue)
            closing d = record {
              more = d.more;
              joined = closed_same life (closes n max) (fold (having_sent s life) put (take max n.queue)) ∙ d.joined;
              along = d.along;
            }

      by_drain : Sends s (member_of w life) w (after_visit s w (event.Drain node max) u c) (take max seat.core.queue)
      by_drain = subst (λ (o : Option Seat). Sends s (member_of w life) w (drained_at s w life max o) (take max seat.core.queue)) (sym here) (by_member (numbered_there s.members node o.fit))

-- ---- any other event

arrived_same : (w : WorldState) (v : Visit) (number : ℕ) (r : Reply) (o : Option StreamState) → (arrived w v number r o).datagrams ≡ w.datagrams
arrived_same w v number r None = refl
arrived_same w v number r (Some t) = refl

delivered_same : (w : WorldState) (count : ℕ) (o : Option Reached) → (delivered w count o).datagrams ≡ w.datagrams
delivered_same w count None = refl
delivered_same w count (Some x) = refl

told_same : (w : WorldState) (o : Option Reached) → (told w o).datagrams ≡ w.datagrams
told_same w None = refl
told_same w (Some x) = refl

visit_same : (s : Setting) (w : WorldState) (e : Event) (v : Visit) (c : Choice) → ((node max : ℕ) → ¬ (e ≡ event.Drain node max)) → (after_visit s w e v c).datagrams ≡ w.datagrams
unfolding after_clock after_agent after_agent_call after_delivery after_arrival after_piece after_cut noted stepped
visit_same s w (event.Clock node millis) v c never = refl
visit_same s w (event.Want node length longest peer) v c never = refl
visit_same s w (event.Return node prefix peer) v c never = refl
visit_same s w (event.Agent node hold) v c never = refl
visit_same s w (event.Api node asa call hold) v c never = refl
visit_same s w (event.Datagram index hold) v c never = refl
visit_same s w (event.Arrive k hold) v c never = arrived_same w v (s.arrives_as v.node k) c.reply (stream_numbered w.streams k)
visit_same s w (event.Bytes k far count hold) v c never = delivered_same w count (reached_side w k (side_named far))
visit_same s w (event.Cut k far hold) v c never = told_same w (reached_side w k (side_named far))
visit_same s w (event.Drain node max) v c never = absurd (never node max refl)

one_sends : (w x : WorldState) → OneAgent w x → x.datagrams ≡ w.datagrams
one_sends w x o = ap (λ (y : WorldState). y.datagrams) o.after

others_send_none : (s : Setting) (w : WorldState) (e : Event) (c : Choice) → SendsNothingBehind e → ((node max : ℕ) → ¬ (e ≡ event.Drain node max)) → (after_event s w e c).datagrams ≡ w.datagrams
others_send_none s w e c h never = by_visit (visit_of s w e) refl where
  by_visit : (o : Option Visit) → visit_of s w e ≡ o → (after_event s w e c).datagrams ≡ w.datagrams
  by_visit (Some v) is = ap (λ (x : WorldState). x.datagrams) (held_is s w e c v is h) ∙ visit_same s w e v c never
  by_visit None is = subst (λ (x : WorldState). x.datagrams ≡ w.datagrams) (sym (none_is s w e c is)) (none_one s w e (λ x. x.datagrams ≡ w.datagrams) refl (one_sends w))

pub datagrams_are_sent : DatagramsAreSent
datagrams_are_sent = record {
  drains = λ s w node max c v r o is. let d = drain_sends s w node max c v r o is in (d.more, d.joined, d.along);
  others = others_send_none;
}
