-- A drain of a network's node.
use Rattle.std.proofs.Common.{◌≡◌, refl, sym, ap, ◌∙◌, subst, ℕ, length, Some}
use Rattle.grasp_model_node.specs.Begin.{begin}
use Rattle.grasp_model_node.specs.Draining.{after_drain}
use Rattle.grasp_model_node.specs.Draining as core
use Rattle.grasp_types.specs.declared.reply.Reply.TheVariants as reply
use Rattle.grasp_model_network.specs.EventSteps.{sent_count}
use Rattle.grasp_model_network.specs.Events.{visit_of, after_event}
use Rattle.grasp_model_network.specs.Reports.{report_of}
use Rattle.grasp_model_network.specs.Sending.{drained}
use Rattle.grasp_model_network.specs.Setting.{Setting}
use Rattle.grasp_model_network.specs.Visits.{Choice, MayCome}
use Rattle.grasp_model_network.specs.World.{Seat, WorldState, present_life, seat_at}
use Rattle.grasp_model_network.specs.declared.event.Event.TheVariants as event
use Rattle.grasp_model_network.specs.declared.report.Report.TheVariants as report
use Rattle.grasp_simulator.specs.Sends.{Sends}
use Rattle.grasp_simulator.specs.WorldStands.{WorldKeeps}
use Rattle.grasp_simulator.specs.WorldSteps.{Runs}
use Rattle.grasp_simulator.specs.declared.world.World.{World}
use Rattle.grasp_simulator.proofs.InputsGo.{same_notes}
use Rattle.grasp_simulator.proofs.Presence.{Here, node_is, code_node}
use Rattle.grasp_simulator.proofs.SeatSteps.{nothing_comes, drain_steps}

drain_choice : Seat → ℕ → Choice
drain_choice seat max = record { coming = nothing_comes; reply = reply.Outputs (core.drained (begin seat.core seat.core.reading) max); after = after_drain (begin seat.core seat.core.reading) max }

drain_comes : (s : Setting) (w : WorldState) (member node max : ℕ) (seat : Seat) → present_life w member ≡ node → seat_at w node ≡ Some seat → MayCome (visit_of s w (event.Drain member max)) (drain_choice seat max)
unfolding drain_choice
drain_comes s w member node max seat present here = rw present (rw here (record { steps = drain_steps seat.core seat.core.reading max nothing_comes; fed = refl }))

drain_after : (s : Setting) (w : WorldState) (member node max : ℕ) (seat : Seat) (c : Choice) → present_life w member ≡ node → seat_at w node ≡ Some seat → after_event s w (event.Drain member max) c ≡ drained s w node max
unfolding after_event
drain_after s w member node max seat c present here = rw present (rw here refl)

drain_report : (s : Setting) (w : WorldState) (member node max : ℕ) (seat : Seat) (c : Choice) → present_life w member ≡ node → seat_at w node ≡ Some seat
    → report_of s w (event.Drain member max) c ≡ report.Sent (length (core.drained (begin seat.core seat.core.reading) max))
unfolding report_of sent_count
drain_report s w member node max seat c present here = rw present (rw here refl)

pub drain_runs : (old new : World) (node max count : ℕ) → new.notes ≡ old.notes → Sends old new node max count → Runs old new (event.Drain node max) (report.Sent count)
drain_runs old new node max count same sends s w may =
    let there : Here w node = node_is old s w node may.goes.keeps (code_node old s w node may.goes.keeps may.fit) in
    let life : ℕ = present_life w node in
    let seat : Seat = there.seat in
    let c : Choice = drain_choice seat max in
    let sent : WorldKeeps new s (drained s w life max) × (count ≡ length (core.drained (begin seat.core seat.core.reading) max)) = sends s w seat may.goes there.here in
    record {
      choice = c;
      comes = drain_comes s w node life max seat refl there.here;
      report_is = ap report.Sent sent.1 ∙ sym (drain_report s w node life max seat c refl there.here);
      keeps = subst (WorldKeeps new s) (sym (drain_after s w node life max seat c refl there.here)) sent.0;
      noted = record { offers = (same_notes old.notes new.notes same).0; accepted = (same_notes old.notes new.notes same).1 };
    }
