-- A clock of a network's node.
use Rattle.grasp_model_network.specs.Plans.{IsNode}
use Rattle.std.proofs.Common.{◌≡◌, refl, sym, ap, ◌∙◌, subst, ℕ, ◌-◌, Some, slice_index_or, length}
use Rattle.std.specs.Vec.{with_item}
use Rattle.grasp_model_node.specs.Begin.{begin}
use Rattle.grasp_model_node.specs.Draining.{drained}
use Rattle.grasp_types.specs.declared.reply.Reply.TheVariants as reply
use Rattle.grasp_types.specs.declared.traffic.Input.TheVariants.{Drain}
use Rattle.grasp_model_network.specs.EventSteps.{after_clock}
use Rattle.grasp_model_network.specs.Events.{visit_of, after_event}
use Rattle.grasp_model_network.specs.Reports.{report_of}
use Rattle.grasp_model_network.specs.Runs.{IsReached}
use Rattle.grasp_model_network.specs.Sending.{stepped}
use Rattle.grasp_model_network.specs.Setting.{Setting}
use Rattle.grasp_model_network.specs.Visits.{Visit, Choice, MayCome}
use Rattle.grasp_model_network.specs.World.{Seat, WorldState, present_life, seat_at}
use Rattle.grasp_model_network.specs.declared.event.Event.{Event}
use Rattle.grasp_model_network.specs.declared.event.Event.TheVariants as event
use Rattle.grasp_model_network.specs.declared.report.Report.TheVariants as report
use Rattle.grasp_laws_delivery.specs.Ready.{StreamsAreReady}
use Rattle.grasp_simulator.specs.Seats.{SeatStands, clocked}
use Rattle.grasp_simulator.specs.WorldStands.{WorldKeeps}
use Rattle.grasp_simulator.specs.WorldSteps.{Runs}
use Rattle.grasp_simulator.specs.declared.seat.Seat.{Seat as SeatCode}
use Rattle.grasp_simulator.specs.declared.world.World.{World}
use Rattle.grasp_simulator.proofs.Presence.{OwnSeat, own_seat, got_own, code_node}
use Rattle.grasp_simulator.proofs.SeatSteps.{nothing_comes}
use Rattle.grasp_simulator.proofs.Turns.{quiet_reached, stepped_keeps}

-- how the step of a clock comes out
abbrev pub clock_choice : Seat → ℕ → Choice
clock_choice seat millis = record { coming = nothing_comes; reply = reply.Outputs (drained (begin seat.core millis) 0); after = (clocked seat millis).core }

-- the step of a clock
abbrev pub clock_step : ℕ → ℕ → Seat → Visit
clock_step node millis seat = record { node = node; seat = seat; now = millis; input = Drain 0 }

clock_comes : (s : Setting) (w : WorldState) (member node millis : ℕ) (seat : Seat) → present_life w member ≡ node → seat_at w node ≡ Some seat → MayCome (visit_of s w (event.Clock member millis)) (clock_choice seat millis)
clock_comes s w member node millis seat present here = rw present (rw here (record { steps = record { is_coming = tt; acts = (refl, refl) }; fed = refl }))

clock_after : (s : Setting) (w : WorldState) (member node millis : ℕ) (seat : Seat) → present_life w member ≡ node → seat_at w node ≡ Some seat
    → after_event s w (event.Clock member millis) (clock_choice seat millis) ≡ stepped w (clock_step node millis seat) (clocked seat millis).core seat.agent
unfolding after_event after_clock
clock_after s w member node millis seat present here = rw present (rw here refl)

clock_report : (s : Setting) (w : WorldState) (member node millis : ℕ) (seat : Seat) → present_life w member ≡ node → seat_at w node ≡ Some seat
    → report_of s w (event.Clock member millis) (clock_choice seat millis) ≡ report.Reading (clocked seat millis).core.reading
unfolding report_of
clock_report s w member node millis seat present here = rw present (rw here refl)

-- nothing is sent
clock_count : (s : Setting) (w : WorldState) (member node millis : ℕ) (seat : Seat) → present_life w member ≡ node → seat_at w node ≡ Some seat
    → (after_event s w (event.Clock member millis) (clock_choice seat millis)).byte_count ≡ w.byte_count
unfolding after_event after_clock stepped
clock_count s w member node millis seat present here = rw present (rw here refl)

pub clock_runs : (law : StreamsAreReady) (old : World) (node millis i reading : ℕ) (own changed : SeatCode) → changed.life ≡ own.life → i ≡ node - 1 → own ≡ slice_index_or old.seats.items i own
    → ((s : Seat) → SeatStands own s → reading ≡ (clocked s millis).core.reading) → ((s : Seat) → SeatStands own s → SeatStands changed (clocked s millis))
    → Runs old (record old { seats = with_item old.seats i changed }) (event.Clock node millis) (report.Reading reading)
clock_runs law old node millis i reading own changed still place got reads turns s w may =
    let keeps : WorldKeeps old s w = may.goes.keeps in
    let is_node : IsNode (length old.seats.items) node = code_node old s w node keeps may.fit in
    let found : OwnSeat w node own = own_seat old s w node i own keeps is_node place got in
    let life : ℕ = present_life w node in
    let seat : Seat = found.seat in
    let e : Event = event.Clock node millis in
    let c : Choice = clock_choice seat millis in
    let new : World = record old { seats = with_item old.seats i changed } in
    let v : Visit = clock_step life millis seat in
    let comes : MayCome (visit_of s w e) c = clock_comes s w node life millis seat refl found.here in
    let after : after_event s w e c ≡ stepped w v (clocked seat millis).core seat.agent = clock_after s w node life millis seat refl found.here in
    let reached : IsReached s (after_event s w e c) = quiet_reached s w e c old may comes (clock_count s w node life millis seat refl found.here) in
    record {
      choice = c;
      comes = comes;
      report_is = ap report.Reading (reads seat found.stands) ∙ sym (clock_report s w node life millis seat refl found.here);
      keeps = subst (WorldKeeps new s) (sym after)
          (stepped_keeps old s w keeps life i own changed (got_own old node i own is_node place got) still (sym found.life) (clocked seat millis) (turns seat found.stands) law (after_event s w e c) v (clocked seat millis).core
          seat.agent refl refl reached (ap (λ (x : WorldState). x.streams) after));
      noted = record { offers = refl; accepted = refl };
    }
