-- A step that isn't an agent's own and a drain leave what every agent offers.
use Rattle.std.proofs.Common.{◌≡◌, refl, sym, ap, ◌∙◌, subst, ℕ, ◌-◌, ◌≤◌, inl, inr, List, length, take, slice_set, Option, Some, None}
use Rattle.std.proofs.lemmas.List.{length-set}
use Rattle.grasp_model_node.specs.Begin.{begin}
use Rattle.grasp_model_node.specs.Draining.{closes, after_drain}
use Rattle.grasp_model_node.specs.Draining as core
use Rattle.grasp_model_node.specs.Node.{NodeState}
use Rattle.grasp_model_node.specs.Queue.{encoding}
use Rattle.grasp_session.specs.Messages.{other}
use Rattle.grasp_types.specs.declared.reply.Reply.TheVariants as reply
use Rattle.grasp_types.specs.declared.traffic.Input.{Input}
use Rattle.grasp_types.specs.declared.traffic.Input.TheVariants as input
use Rattle.grasp_laws_network.proofs.EachNode.{drain_steps}
use Rattle.grasp_laws_network.proofs.Here.{visits_are_here}
use Rattle.grasp_laws_network.proofs.Offers.{KeepsOffers, arrived_offers, delivered_offers, handed_offers, offers_still, told_offers}
use Rattle.grasp_laws_network.proofs.Others.{arrived_keeps, delivered_keeps, told_keeps}
use Rattle.grasp_laws_network.proofs.SameLives.{visit_lives, handed_lives}
use Rattle.grasp_laws_network.proofs.Sent.{sending_keeps_nodes}
use Rattle.grasp_model_network.specs.EventSteps.{after_agent_call, after_arrival, after_clock, after_cut, datagram_visit, after_delivery, after_piece}
use Rattle.grasp_model_network.specs.StreamChanges.{arrived, told, reached_side, side_named, delivered}
use Rattle.grasp_model_network.specs.Events.{visit_of, after_visit, IsFit, Occurs}
use Rattle.grasp_laws_network.specs.Keeping.{IsHere}
use Rattle.grasp_model_network.specs.Notes.{noted}
use Rattle.grasp_model_network.specs.Runs.{IsReached}
use Rattle.grasp_model_network.specs.Sending as network
use Rattle.grasp_model_network.specs.Sending.{seat_with, stepped, drained_from, drained_at}
use Rattle.grasp_model_network.specs.Setting.{Setting, numbered}
use Rattle.grasp_model_network.specs.Streams.{stream_numbered, next_bytes}
use Rattle.grasp_model_network.specs.Visits.{Visit, Choice, MayCome, VisitStep, no_choice}
use Rattle.grasp_model_network.specs.World.{Seat, WorldState, present_life, seat_at, with_seat}
use Rattle.grasp_model_network.specs.declared.event.Event.{Event}
use Rattle.grasp_model_network.specs.declared.event.Event.TheVariants as event
use Rattle.grasp_laws_agents.specs.Staying.{IsOthers}
use Rattle.grasp_laws_delivery.proofs.AfterSteps.{IsPutOr, put_or}
use Rattle.grasp_laws_delivery.proofs.Holding.{IsStep}
use Rattle.grasp_laws_delivery.proofs.Came.Inputs.{at_visit, clock_visit_is, datagram_visit_is, opening_is, piece_is, cut_is}
use Rattle.grasp_laws_prefixes.proofs.OwnSessions.{same_sessions}
use Rattle.grasp_laws_prefixes.proofs.Places.{step_stays, same_stay, handed_stay}
use Rattle.grasp_laws_prefixes.proofs.Standing.{SeatGoesOn, WorldGoesOn, AllStay}
use Rattle.grasp_laws_prefixes.specs.Grounds.{Grounds}

-- a step, and not one of an agent of prefixes
abbrev pub IsOthersStep : Event → Type 0
IsOthersStep (event.Want node length longest peer) = ⊥
IsOthersStep (event.Return node prefix peer) = ⊥
IsOthersStep (event.Agent node hold) = ⊥
IsOthersStep (event.Drain node max) = ⊥
IsOthersStep _ = Unit {0}

steps_so : (e : Event) → IsOthersStep e → IsStep e
steps_so (event.Want node length longest peer) o = absurd o
steps_so (event.Return node prefix peer) o = absurd o
steps_so (event.Agent node hold) o = absurd o
steps_so (event.Drain node max) o = absurd o
steps_so _ o = tt

-- ---- what comes in such a step

as_others : (v : Visit) (i : Input) → v.input ≡ i → IsOthers i → IsOthers v.input
as_others v i e o = subst IsOthers (sym e) o

step_others : (s : Setting) (w : WorldState) (e : Event) (v : Visit) → IsOthersStep e → IsFit s w e → visit_of s w e ≡ Some v → IsOthers v.input
unfolding datagram_visit
step_others s w (event.Clock node millis) v o fit is = as_others v (input.Drain 0) (clock_visit_is (present_life w node) millis v (seat_at w (present_life w node)) is).input_is tt
step_others s w (event.Api node asa call hold) v o fit is = as_others v (input.Api asa call) (at_visit w (present_life w node) (input.Api asa call) v is).input_is fit.1
step_others s w (event.Datagram index hold) v o fit is =
    let d = datagram_visit_is w v (numbered w.datagrams index) is in
    as_others v (input.Datagram d.0.route.link d.0.route.from (encoding d.0.message)) d.1.input_is tt
step_others s w (event.Arrive stream hold) v o fit is =
    let p = opening_is s w stream v is in
    as_others v (input.Opened (s.arrives_as v.node stream) (s.arrives_from stream p.near.core.plan.address)) p.is.input_is tt
step_others s w (event.Bytes stream far count hold) v o fit is =
    let p = piece_is w stream (side_named far) count v is in
    as_others v (input.Bytes p.reached.at.number (next_bytes p.reached.talk (other (side_named far)) count)) p.is.input_is tt
step_others s w (event.Cut stream far hold) v o fit is =
    let p = cut_is w stream (side_named far) v is in
    as_others v (input.Closed p.reached.at.number) p.is.input_is tt
step_others s w _ v o fit is = absurd o

-- ---- what such a step leaves

-- the node of the step is put, with its agent as it was
seats_put : (w x y : WorldState) (v : Visit) (core : NodeState) → x.seats ≡ w.seats → y.seats ≡ (stepped x v core v.seat.agent).seats → y.seats ≡ slice_set w.seats (v.node - 1) (seat_with core v.seat.agent)
unfolding stepped
seats_put w x y v core e f = f ∙ ap (λ seats. slice_set seats (v.node - 1) (seat_with core v.seat.agent)) e

step_seats : (s : Setting) (w : WorldState) (e : Event) (v : Visit) (c : Choice) → IsOthersStep e → (after_visit s w e v c).seats ≡ slice_set w.seats (v.node - 1) (seat_with c.after v.seat.agent)
unfolding after_clock after_agent_call after_delivery after_arrival after_piece after_cut noted
step_seats s w (event.Clock node millis) v c o = seats_put w w (after_clock w v c) v c.after refl refl
step_seats s w (event.Api node asa call hold) v c o = seats_put w w (after_agent_call w v asa call c) v c.after refl refl
step_seats s w (event.Datagram index hold) v c o = seats_put w w (after_delivery w v index c) v c.after refl refl
step_seats s w (event.Arrive stream hold) v c o =
    seats_put w (arrived w v (s.arrives_as v.node stream) c.reply (stream_numbered w.streams stream)) (after_arrival s w v stream c) v c.after
    (arrived_keeps w v (s.arrives_as v.node stream) c.reply (stream_numbered w.streams stream)) refl
step_seats s w (event.Bytes stream far count hold) v c o =
    seats_put w (delivered w count (reached_side w stream (side_named far))) (after_piece w v stream (side_named far) count c) v c.after
    (delivered_keeps w count (reached_side w stream (side_named far))) refl
step_seats s w (event.Cut stream far hold) v c o =
    seats_put w (told w (reached_side w stream (side_named far))) (after_cut w v stream (side_named far) c) v c.after
    (told_keeps w (reached_side w stream (side_named far))) refl
step_seats s w _ v c o = absurd o

same_offers : (w x y : WorldState) → KeepsOffers w x → y.offers ≡ x.offers → y.settled ≡ x.settled → KeepsOffers w y
same_offers w x y k e f = record { offers = e ∙ k.offers; settled = f ∙ k.settled }

step_offers : (s : Setting) (w : WorldState) (e : Event) (v : Visit) (c : Choice) → IsOthersStep e → KeepsOffers w (after_visit s w e v c)
unfolding after_clock after_agent_call after_delivery after_arrival after_piece after_cut noted stepped
step_offers s w (event.Clock node millis) v c o = same_offers w w (after_clock w v c) (offers_still w) refl refl
step_offers s w (event.Api node asa call hold) v c o = same_offers w w (after_agent_call w v asa call c) (offers_still w) refl refl
step_offers s w (event.Datagram index hold) v c o = same_offers w w (after_delivery w v index c) (offers_still w) refl refl
step_offers s w (event.Arrive stream hold) v c o =
    same_offers w (arrived w v (s.arrives_as v.node stream) c.reply (stream_numbered w.streams stream)) (after_arrival s w v stream c)
    (arrived_offers w v (s.arrives_as v.node stream) c.reply (stream_numbered w.streams stream)) refl refl
step_offers s w (event.Bytes stream far count hold) v c o =
    same_offers w (delivered w count (reached_side w stream (side_named far))) (after_piece w v stream (side_named far) count c)
    (delivered_offers w count (reached_side w stream (side_named far))) refl refl
step_offers s w (event.Cut stream far hold) v c o =
    same_offers w (told w (reached_side w stream (side_named far))) (after_cut w v stream (side_named far) c) (told_offers w (reached_side w stream (side_named far))) refl refl
step_offers s w _ v c o = absurd o

-- ---- one node goes on, and the others are the same

pub seat_still : (seat : Seat) → SeatGoesOn seat seat
seat_still seat = record { pool = refl; giving = refl; back = refl; sessions = same_sessions seat.core.sessions }

pub goes_on_from : (w y : WorldState) (node : ℕ) (seat new : Seat) → 1 ≤ node → seat_at w node ≡ Some seat → y.seats ≡ slice_set w.seats (node - 1) new → KeepsOffers w y → y.lives ≡ w.lives
    → AllStay w.streams y.streams → SeatGoesOn seat new → WorldGoesOn w y
goes_on_from w y node seat new least here seats offers lives talks goes = record {
  offers = offers.offers;
  settled = offers.settled;
  lives = lives;
  count = ap (λ (xs : List Seat). length xs) seats ∙ length-set w.seats (node - 1) new;
  seats = each;
  streams = talks;
} where
  each : (n : ℕ) (other : Seat) → seat_at y n ≡ Some other → (before : Seat) × (seat_at w n ≡ Some before) × SeatGoesOn before other
  each n other found = by_node (put_or w.seats node new n other least (subst (λ xs. numbered xs n ≡ Some other) seats found)) where
    by_node : IsPutOr w.seats node new n other → (before : Seat) × (seat_at w n ≡ Some before) × SeatGoesOn before other
    by_node (inl t) = (seat, ap (λ k. seat_at w k) t.0 ∙ here, subst (λ z. SeatGoesOn seat z) t.1 goes)
    by_node (inr t) = (other, t.1, seat_still other)

pub world_still : (w : WorldState) → WorldGoesOn w w
world_still w = record {
  offers = refl;
  settled = refl;
  lives = refl;
  count = refl;
  seats = λ node new found. (new, found, seat_still new);
  streams = same_stay w.streams w.streams refl;
}

-- ---- each of them

module _ (l : Grounds) (s : Setting) where
  pub others_go_on : (w : WorldState) (e : Event) (c : Choice) (v : Visit) → IsReached s w → Occurs s w e c → visit_of s w e ≡ Some v → IsOthersStep e → WorldGoesOn w (after_visit s w e v c)
  others_go_on w e c v r o is others =
      let here : IsHere w v = visits_are_here s w e v is in
      let step : VisitStep v c = subst (λ (x : Option Visit). MayCome x c) is o.comes in
      goes_on_from w (after_visit s w e v c) v.node v.seat (seat_with c.after v.seat.agent) here.member.least here.stands (step_seats s w e v c others) (step_offers s w e v c others) (visit_lives s w e v c)
      (step_stays l.ready s w r e v c is (steps_so e others))
      (record {
        pool = refl;
        giving = refl;
        back = refl;
        sessions = l.goes_on.steps s w r v.node v.seat here.stands v.now v.input c.coming c.reply c.after (step_others s w e v others o.fit is) step.steps;
      })

  -- ---- a drain

  drained_by : (w : WorldState) (node max : ℕ) (o : Option Seat) → IsReached s w → 1 ≤ node → seat_at w node ≡ o → WorldGoesOn w (drained_at s w node max o)
  drained_by w node max None r least here = world_still w
  drained_by w node max (Some seat) r least here =
      from (begin seat.core seat.core.reading)
      (record {
        pool = refl;
        giving = refl;
        back = refl;
        sessions = l.goes_on.steps s w r node seat here seat.core.reading (input.Drain max) no_choice.coming (reply.Outputs (core.drained (begin seat.core seat.core.reading) max))
            (after_drain (begin seat.core seat.core.reading) max) tt (drain_steps seat.core seat.core.reading max no_choice.coming);
      })
    where
      from : (m : NodeState) → SeatGoesOn seat (seat_with (after_drain m max) seat.agent) → WorldGoesOn w (drained_from s w node seat m max)
      from m goes =
          let put = with_seat w node (seat_with (after_drain m max) seat.agent) in
          let offers = handed_offers s put node (take max m.queue) (closes m max) in
          goes_on_from w (drained_from s w node seat m max) node seat (seat_with (after_drain m max) seat.agent) least here (sending_keeps_nodes s put node (take max m.queue) (closes m max))
          (record { offers = offers.offers; settled = offers.settled }) (handed_lives s put node (take max m.queue) (closes m max)) (handed_stay s put node (take max m.queue) (closes m max)) goes

  pub drains_go_on : (w : WorldState) (node max : ℕ) → IsReached s w → 1 ≤ node → WorldGoesOn w (network.drained s w node max)
  unfolding network.drained
  drains_go_on w node max r least = drained_by w node max (seat_at w node) r least refl
