-- A want of a node's agent.
use Rattle.grasp_model_network.specs.Plans.{IsNode}
use Rattle.std.proofs.Common.{◌≡◌, refl, sym, ap, ◌∙◌, subst, ℕ, ◌-◌, Some, Result, slice_index_or, length}
use Rattle.std.specs.Vec.{with_item}
use Rattle.grasp_agent.specs.Replies.{want_reply}
use Rattle.grasp_agent.specs.declared.want.WantFault.{WantFault}
use Rattle.grasp_types.specs.declared.address.Locator.{Locator}
use Rattle.grasp_model_network.specs.Events.{after_event}
use Rattle.grasp_model_network.specs.Reports.{report_of}
use Rattle.grasp_model_network.specs.Setting.{Setting, numbered, script_locator}
use Rattle.grasp_model_network.specs.Visits.{Choice, no_choice}
use Rattle.grasp_model_network.specs.World.{Seat, WorldState, present_life, seat_at, with_seat}
use Rattle.grasp_model_network.specs.declared.event.Event.TheVariants as event
use Rattle.grasp_model_network.specs.declared.report.Report.TheVariants as report
use Rattle.grasp_simulator.specs.Seats.{SeatStands, wanted}
use Rattle.grasp_simulator.specs.WorldStands.{WorldKeeps}
use Rattle.grasp_simulator.specs.WorldSteps.{Runs}
use Rattle.grasp_simulator.specs.declared.seat.Seat.{Seat as SeatCode}
use Rattle.grasp_simulator.specs.declared.world.World.{World}
use Rattle.grasp_simulator.proofs.Presence.{OwnSeat, own_seat, got_own, code_node}
use Rattle.grasp_simulator.proofs.Told.{told_peer}
use Rattle.grasp_simulator.proofs.Turns.{seat_keeps}

want_after : (s : Setting) (w : WorldState) (member node wants longest peer : ℕ) (seat : Seat) (to : Locator) (c : Choice) → present_life w member ≡ node → seat_at w node ≡ Some seat → numbered s.peers peer ≡ Some to
    → after_event s w (event.Want member wants longest peer) c ≡ record (with_seat w node (wanted seat wants longest to)) { offers = w.offers }
unfolding after_event
want_after s w member node wants longest peer seat to c present here at = rw at (rw present (rw here refl))

want_report : (s : Setting) (w : WorldState) (member node wants longest peer : ℕ) (seat : Seat) (c : Choice) → present_life w member ≡ node → seat_at w node ≡ Some seat
    → report_of s w (event.Want member wants longest peer) c ≡ report.Want (want_reply seat.agent)
unfolding report_of
want_report s w member node wants longest peer seat c present here = rw present (rw here refl)

pub want_runs : (old : World) (node wants longest peer i : ℕ) (to : Locator) (reply : Result (Unit {0}) WantFault) (own changed : SeatCode) → changed.life ≡ own.life → i ≡ node - 1 → own ≡ slice_index_or old.seats.items i own → to ≡ script_locator peer
    → ((s : Seat) → SeatStands own s → reply ≡ want_reply s.agent) → ((s : Seat) → SeatStands own s → SeatStands changed (wanted s wants longest to))
    → Runs old (record old { seats = with_item old.seats i changed }) (event.Want node wants longest peer) (report.Want reply)
want_runs old node wants longest peer i to reply own changed still place got is replies turns s w may =
    let keeps : WorldKeeps old s w = may.goes.keeps in
    let is_node : IsNode (length old.seats.items) node = code_node old s w node keeps may.fit.0 in
    let found : OwnSeat w node own = own_seat old s w node i own keeps is_node place got in
    let life : ℕ = present_life w node in
    let at : numbered s.peers peer ≡ Some to = told_peer old s peer to keeps.setting may.fit.1 is in
    let new : World = record old { seats = with_item old.seats i changed } in
    record {
      choice = no_choice;
      comes = tt;
      noted = record { offers = refl; accepted = refl };
      report_is = ap report.Want (replies found.seat found.stands) ∙ sym (want_report s w node life wants longest peer found.seat no_choice refl found.here);
      keeps = subst (WorldKeeps new s) (sym (want_after s w node life wants longest peer found.seat to no_choice refl found.here at))
          (seat_keeps old s w keeps life i own changed (got_own old node i own is_node place got) still (sym found.life) (wanted found.seat wants longest to) (turns found.seat found.stands) w.offers);
    }
