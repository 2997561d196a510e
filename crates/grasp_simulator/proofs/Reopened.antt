-- Which nodes may begin anew, by which images.
use Rattle.std.proofs.Common.{◌≡◌, ◌↔◌, refl, sym, ap, ◌∙◌, subst, ℕ, ◌-◌, Bool, Some, slice_get}
use Rattle.std.proofs.lemmas.Option.{same_Some}
use Rattle.std.specs.Prelude.{IsTrue}
use Rattle.grasp_agent.specs.Reopening.{MayReopen}
use Rattle.grasp_agent.specs.States.{AgentState}
use Rattle.grasp_laws_network.proofs.Lists.{numbered_there}
use Rattle.grasp_model_network.specs.World.{Seat}
use Rattle.grasp_pool.specs.declared.image.PoolImage.{PoolImage}
use Rattle.grasp_simulator.specs.Lending.{TellsMayRestart}
use Rattle.grasp_simulator.specs.declared.seat.Seat.{Seat as SeatCode}
use Rattle.grasp_simulator.specs.declared.world.World.{World}
use Rattle.grasp_simulator.proofs.Presence.{OwnSeat, own_at}

-- what is told of the agent that the code keeps is told of the node's
pub tells_restart : (code : World) (node : ℕ) (image : PoolImage) (own : SeatCode) (answer : Bool) → Some own ≡ slice_get code.seats.items (node - 1) → IsTrue answer ↔ MayReopen own.agent image → TellsMayRestart code node image answer
tells_restart code node image own answer got is s w h =
    let found : OwnSeat w node own = own_at code s w node (node - 1) own h.stands.stands.goes.keeps h.is_node.least refl (sym got) in
    let member = numbered_there s.members node h.is_node in (
      λ t. record { member = member.0; found = member.1; seat = found.seat; here = found.here; image_is = subst (λ (a : AgentState). MayReopen a image) found.stands.agent (is.0 t) },
      λ m.
          is.1
          (subst (λ (a : AgentState). MayReopen a image)
          (ap (λ (x : Seat). x.agent) (same_Some m.seat found.seat (sym m.here ∙ found.here)) ∙ sym found.stands.agent) m.image_is),
    )
