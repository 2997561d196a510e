-- What a network lends of a member, and events that it may be asked for.
use Rattle.std.proofs.Common.{◌≡◌, ℕ, length, Some}
use Rattle.grasp_agent.specs.States.{AgentState}
use Rattle.grasp_laws_network.proofs.Lists.{numbered_there}
use Rattle.grasp_laws_network.proofs.LivesKept.{lives_are_kept}
use Rattle.grasp_model_network.specs.Events.{IsFit}
use Rattle.grasp_model_network.specs.Plans.{IsNode}
use Rattle.grasp_model_network.specs.Setting.{Setting}
use Rattle.grasp_model_network.specs.World.{Seat, WorldState, present_life}
use Rattle.grasp_model_network.specs.declared.event.Event.{Event}
use Rattle.grasp_model_doubts.specs.World.{present_seat}
use Rattle.grasp_simulator.specs.Contract.{MeetsEvent}
use Rattle.grasp_simulator.specs.WorldStands.{HasNode, LendsAgent, WorldStands}
use Rattle.grasp_simulator.specs.WorldSteps.{IsAsked}
use Rattle.grasp_simulator.specs.declared.world.World.{World}
use Rattle.grasp_doubts.specs.Nodes.{network_at}

pub meets : (world : World) (s : Setting) (w : WorldState) (e : Event) → WorldStands world (network_at s w) → IsFit s w e → MeetsEvent (WorldStands world) (network_at s w) e
meets world s w e stands fit = record { stands = stands; fit = fit }

pub is_asked : (world : World) (s : Setting) (w : WorldState) (e : Event) → WorldStands world (network_at s w) → IsFit s w e → IsAsked world e
is_asked world s w e stands fit = record { network = network_at s w; meets = meets world s w e stands fit }

module _ (world : World) (s : Setting) (w : WorldState) (node : ℕ) (stands : WorldStands world (network_at s w)) (member : IsNode (length s.members) node) where
  pub has_node : HasNode world node
  has_node = record { network = network_at s w; stands = stands; is_node = member }

  -- the member is there in its present life
  pub there : (seat : Seat) × (present_seat w node ≡ Some seat)
  there = numbered_there w.seats (present_life w node) ((lives_are_kept s w stands.stands.goes.reached).present node member)

  pub is_lent : (seat : Seat) → present_seat w node ≡ Some seat → (agent : AgentState) → LendsAgent world node agent → agent ≡ seat.agent
  is_lent seat here agent lends = lends s w seat (record { stands = stands; here = here })
