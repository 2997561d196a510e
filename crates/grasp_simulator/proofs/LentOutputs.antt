-- The outputs that a network lends.
use Rattle.std.proofs.Common.{◌≡◌, sym, ◌∙◌, subst, ℕ, ◌-◌, List, length, Result, Ok, Err, IfOk, slice_index_or}
use Rattle.std.proofs.lemmas.Option.{same_Some}
use Rattle.grasp_model_node.specs.Begin.{begin}
use Rattle.grasp_model_node.specs.Draining.{drained}
use Rattle.grasp_types.specs.declared.traffic.Output.{Output}
use Rattle.grasp_model_network.specs.Plans.{IsNode}
use Rattle.grasp_model_network.specs.World.{Seat}
use Rattle.grasp_model_network.specs.declared.report.WorldStop.{WorldStop}
use Rattle.grasp_simulator.specs.Lending.{LendsOutputs}
use Rattle.grasp_simulator.specs.Seats.{SeatStands}
use Rattle.grasp_simulator.specs.declared.seat.Seat.{Seat as SeatCode}
use Rattle.grasp_simulator.specs.declared.world.World.{World}
use Rattle.grasp_simulator.proofs.Presence.{OwnSeat, own_seat}

-- what the node's seat gives is what its present life gives
pub outputs_lent : (code : World) (node max i : ℕ) (own : SeatCode) (outputs : List Output) → IsNode (length code.seats.items) node → i ≡ node - 1 → own ≡ slice_index_or code.seats.items i own
    → ((s : Seat) → SeatStands own s → outputs ≡ drained (begin s.core s.core.reading) max) → LendsOutputs code node max outputs
outputs_lent code node max i own outputs is place got gives s w seat h =
    let found : OwnSeat w node own = own_seat code s w node i own h.stands.stands.goes.keeps is place got in
    gives seat (subst (SeatStands own) (same_Some found.seat seat (sym found.here ∙ h.here)) found.stands)

-- what is lent is what was given
pub lent_so : (code : World) (node max : ℕ) (outputs : List Output) (result : Result (List Output) WorldStop) → LendsOutputs code node max outputs → IfOk result (λ lent. lent ≡ outputs) → IfOk result (λ lent. LendsOutputs code node max lent)
lent_so code node max outputs (Ok lent) gives same = subst (LendsOutputs code node max) (sym same) gives
lent_so code node max outputs (Err stop) gives same = tt
