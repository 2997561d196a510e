-- A return of a node's agent.
use Rattle.grasp_model_network.specs.Plans.{IsNode}
use Rattle.std.proofs.Common.{◌≡◌, refl, sym, ap, ◌∙◌, subst, ℕ, ◌-◌, Some, Result, slice_index_or, length}
use Rattle.std.specs.Vec.{with_item}
use Rattle.grasp_agent.specs.Replies.{return_reply}
use Rattle.grasp_agent.specs.declared.back.ReturnFault.{ReturnFault}
use Rattle.grasp_types.specs.Prefix.{AddressBlock as Prefix}
use Rattle.grasp_types.specs.declared.address.Locator.{Locator}
use Rattle.grasp_model_network.specs.Events.{after_event}
use Rattle.grasp_model_network.specs.Reports.{report_of}
use Rattle.grasp_model_network.specs.Setting.{Setting, numbered, script_locator}
use Rattle.grasp_model_network.specs.Telling.{with_return}
use Rattle.grasp_model_network.specs.Visits.{Choice, no_choice}
use Rattle.grasp_model_network.specs.World.{Seat, WorldState, present_life, seat_at, with_seat}
use Rattle.grasp_model_network.specs.declared.event.Event.TheVariants as event
use Rattle.grasp_model_network.specs.declared.report.Report.TheVariants as report
use Rattle.grasp_simulator.specs.Seats.{SeatStands, returning}
use Rattle.grasp_simulator.specs.WorldStands.{WorldKeeps}
use Rattle.grasp_simulator.specs.WorldSteps.{Runs}
use Rattle.grasp_simulator.specs.declared.seat.Seat.{Seat as SeatCode}
use Rattle.grasp_simulator.specs.declared.world.World.{World}
use Rattle.grasp_simulator.proofs.Presence.{OwnSeat, own_seat, got_own, code_node}
use Rattle.grasp_simulator.proofs.Told.{told_peer}
use Rattle.grasp_simulator.proofs.Turns.{seat_keeps}

return_after : (s : Setting) (w : WorldState) (member node : ℕ) (p : Prefix) (peer : ℕ) (seat : Seat) (to : Locator) (c : Choice) → present_life w member ≡ node → seat_at w node ≡ Some seat → numbered s.peers peer ≡ Some to
    → after_event s w (event.Return member p peer) c ≡ record (with_seat w node (returning seat p to)) { offers = with_return w.offers node p (return_reply seat.agent p) }
unfolding after_event
return_after s w member node p peer seat to c present here at = rw at (rw present (rw here refl))

return_report : (s : Setting) (w : WorldState) (member node : ℕ) (p : Prefix) (peer : ℕ) (seat : Seat) (c : Choice) → present_life w member ≡ node → seat_at w node ≡ Some seat
    → report_of s w (event.Return member p peer) c ≡ report.Return (return_reply seat.agent p)
unfolding report_of
return_report s w member node p peer seat c present here = rw present (rw here refl)

pub return_runs : (old : World) (node : ℕ) (p : Prefix) (peer i : ℕ) (to : Locator) (reply : Result (Unit {0}) ReturnFault) (own changed : SeatCode) → changed.life ≡ own.life → i ≡ node - 1 → own ≡ slice_index_or old.seats.items i own
    → to ≡ script_locator peer → ((s : Seat) → SeatStands own s → reply ≡ return_reply s.agent p) → ((s : Seat) → SeatStands own s → SeatStands changed (returning s p to))
    → Runs old (record old { seats = with_item old.seats i changed }) (event.Return node p peer) (report.Return reply)
return_runs old node p peer i to reply own changed still place got is replies turns s w may =
    let keeps : WorldKeeps old s w = may.goes.keeps in
    let is_node : IsNode (length old.seats.items) node = code_node old s w node keeps may.fit.0 in
    let found : OwnSeat w node own = own_seat old s w node i own keeps is_node place got in
    let life : ℕ = present_life w node in
    let at : numbered s.peers peer ≡ Some to = told_peer old s peer to keeps.setting may.fit.1 is in
    let new : World = record old { seats = with_item old.seats i changed } in
    record {
      choice = no_choice;
      comes = tt;
      noted = record { offers = refl; accepted = refl };
      report_is = ap report.Return (replies found.seat found.stands) ∙ sym (return_report s w node life p peer found.seat no_choice refl found.here);
      keeps = subst (WorldKeeps new s) (sym (return_after s w node life p peer found.seat to no_choice refl found.here at))
          (seat_keeps old s w keeps life i own changed (got_own old node i own is_node place got) still (sym found.life) (returning found.seat p to) (turns found.seat found.stands)
          (with_return w.offers life p (return_reply found.seat.agent p)));
    }
