-- Events of a node that is there: memory may be wanted for them.
use Rattle.std.proofs.Common.{refl, ap, ℕ, Bool, Option, length, is_some}
use Rattle.grasp_types.specs.declared.call.Call.{Call}
use Rattle.grasp_types.specs.declared.traffic.Input.TheVariants as input
use Rattle.grasp_laws_network.proofs.LivesKept.{lives_are_kept}
use Rattle.grasp_model_network.specs.EventSteps.{agent_seat, agent_visit}
use Rattle.grasp_model_network.specs.Plans.{IsNode}
use Rattle.grasp_model_network.specs.Setting.{Setting}
use Rattle.grasp_model_network.specs.Visits.{visit_seat}
use Rattle.grasp_model_network.specs.World.{Seat, WorldState, present_life}
use Rattle.grasp_model_network.specs.declared.event.Event.TheVariants as event
use Rattle.grasp_simulator.specs.WorldStands.{WorldGoes}
use Rattle.grasp_simulator.specs.WorldSteps.{MayStarve}
use Rattle.grasp_simulator.specs.declared.world.World.{World}
use Rattle.grasp_simulator.proofs.InputsGo.{Life, life_here}

-- the present life of a member is there
present_here : (code : World) (s : Setting) (w : WorldState) (node : ℕ) → WorldGoes code s w → IsNode (length s.members) node → Life w (present_life w node)
present_here code s w node goes is = life_here w (present_life w node) ((lives_are_kept s w goes.reached).present node is)

pub agent_starves : (code : World) (node : ℕ) (hold : Bool) → MayStarve code (event.Agent node hold)
unfolding agent_visit
agent_starves code node hold s w may = (refl, ap (λ (o : Option Seat). is_some (agent_seat (present_life w node) o)) (present_here code s w node may.goes may.fit).here)

pub call_starves : (code : World) (node asa : ℕ) (call : Call) (hold : Bool) → MayStarve code (event.Api node asa call hold)
call_starves code node asa call hold s w may = (refl, ap (λ (o : Option Seat). is_some (visit_seat (present_life w node) (input.Api asa call) o)) (present_here code s w node may.goes may.fit.0).here)

pub drain_starves : (code : World) (node max : ℕ) → MayStarve code (event.Drain node max)
drain_starves code node max s w may = (refl, ap (λ (o : Option Seat). is_some (visit_seat (present_life w node) (input.Drain max) o)) (present_here code s w node may.goes may.fit).here)
