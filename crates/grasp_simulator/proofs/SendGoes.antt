-- Outputs of a node of a network that are sent.
use Rattle.grasp_model_network.specs.Plans.{IsNode}
use Rattle.std.proofs.Common.{◌≡◌, refl, sym, ap, ◌∙◌, subst, ℕ, ◌-◌, Bool, true, false, List, length, take, Some, slice_index_or}
use Rattle.std.proofs.lemmas.Option.{same_Some}
use Rattle.std.specs.Vec.{with_item}
use Rattle.grasp_laws_node.proofs.Beginning.{beginnings_end}
use Rattle.grasp_model_node.specs.Begin.{begin}
use Rattle.grasp_model_node.specs.Draining.{closes, after_drain}
use Rattle.grasp_model_node.specs.Draining as core
use Rattle.grasp_model_node.specs.Node.{NodeState}
use Rattle.grasp_model_node.specs.Queue.{Queued}
use Rattle.grasp_types.specs.declared.traffic.Output.{Output}
use Rattle.grasp_model_network.specs.Sending.{seat_with, handed_over, drained}
use Rattle.grasp_model_network.specs.Setting.{Setting}
use Rattle.grasp_model_network.specs.World.{Seat, WorldState, seat_at, with_seat, present_life}
use Rattle.grasp_laws_delivery.specs.Ready.{AreReady, StreamsAreReady}
use Rattle.grasp_simulator.specs.Seats.{SeatStands, drained_seat}
use Rattle.grasp_simulator.specs.Sends.{MaySend, HandsOver, Sends, SendsBehind}
use Rattle.grasp_simulator.specs.WorldStands.{WorldKeeps}
use Rattle.grasp_simulator.specs.declared.seat.Seat.{Seat as SeatCode}
use Rattle.grasp_simulator.specs.declared.world.World.{World}
use Rattle.grasp_simulator.proofs.HandsOver.{ready_front}
use Rattle.grasp_simulator.proofs.Presence.{OwnSeat, own_seat, got_own}
use Rattle.grasp_simulator.proofs.Turns.{seat_keeps}

-- the network from whose node so many outputs were taken
abbrev taken_from : WorldState → ℕ → Seat → ℕ → WorldState
taken_from w node seat max = with_seat w node (seat_with (after_drain (begin seat.core seat.core.reading) max) seat.agent)

drained_is : (s : Setting) (w : WorldState) (node max : ℕ) (seat : Seat) → seat_at w node ≡ Some seat
    → drained s w node max ≡ handed_over s (taken_from w node seat max) node (take max (begin seat.core seat.core.reading).queue) (closes (begin seat.core seat.core.reading) max)
unfolding drained
drained_is s w node max seat here = rw here refl

pub send_goes : (law : StreamsAreReady) (before after : World) (node max i count : ℕ) (own changed : SeatCode) (outputs : List Output) → IsNode (length before.seats.items) node → changed.life ≡ own.life → i ≡ node - 1
    → own ≡ slice_index_or before.seats.items i own → ((s : Seat) → SeatStands own s → outputs ≡ core.drained (begin s.core s.core.reading) max) → ((s : Seat) → SeatStands own s → SeatStands changed (drained_seat s max))
    → HandsOver (record before { seats = with_item before.seats i changed }) after node own.life outputs → count ≡ length outputs → Sends before after node max count
send_goes law before after node max i count own changed outputs is_node still place got gives turns hands counts s w seat goes here =
    let keeps : WorldKeeps before s w = goes.keeps in
    let found : OwnSeat w node own = own_seat before s w node i own keeps is_node place got in
    let life : ℕ = present_life w node in
    let same : found.seat ≡ seat = same_Some found.seat seat (sym found.here ∙ here) in
    let stands : SeatStands own seat = subst (SeatStands own) same found.stands in
    let n : NodeState = begin seat.core seat.core.reading in
    let next : Seat = seat_with (after_drain n max) seat.agent in
    let mid : World = record before { seats = with_item before.seats i changed } in
    let kept : WorldKeeps mid s (taken_from w life seat max) =
    seat_keeps before s w keeps life i own changed (got_own before node i own is_node place got) still (sym found.life) next (turns seat stands) w.offers in
    let queue : n.queue ≡ seat.core.queue = (beginnings_end seat.core seat.core.reading).0.queue in
    let ready : AreReady life n.queue w.streams = subst (λ (qs : List Queued). AreReady life qs w.streams) (sym queue) (law.ready s w goes.reached life seat here) in
    let may : MaySend mid s (taken_from w life seat max) node life (take max n.queue) =
    record { keeps = kept; own = found.member; present = found.present; ready = ready_front life max n.queue w.streams ready } in
    let sent : WorldKeeps after s (handed_over s (taken_from w life seat max) life (take max n.queue) (closes n max)) =
    subst (λ (l : ℕ). HandsOver mid after node l outputs) found.life hands s (taken_from w life seat max) (take max n.queue) (closes n max) may (gives seat stands) in (
      subst (WorldKeeps after s) (sym (drained_is s w life max seat here)) sent,
      counts ∙ ap (λ (l : List Output). length l) (gives seat stands),
    )

pub behind_sends : (before after : World) (node count : ℕ) (hold : Bool) → hold ≡ false → Sends before after node 256 count → SendsBehind before after node hold
behind_sends before after node count false is sends s w seat goes here = (sends s w seat goes here).0
behind_sends before after node count true is sends s w seat goes here = absurd (cc)
