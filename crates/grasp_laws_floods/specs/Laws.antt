-- What is so of floods and discoveries in every network that turns lead to.
use Rattle.std.specs.Prelude.{◌≡◌, List, Some, All}
use Rattle.grasp_model_node.specs.Begin.{begin}
use Rattle.grasp_laws_node.specs.Relays.{Queues}
use Rattle.grasp_model_network.specs.Events.{Occurs, after_event, visit_of}
use Rattle.grasp_model_network.specs.GoodSetting.{IsGoodSetting}
use Rattle.grasp_model_network.specs.Runs.{Happening, IsRun, IsReached, first_world, worlds_from}
use Rattle.grasp_model_network.specs.Setting.{Setting}
use Rattle.grasp_model_network.specs.Visits.{Visit, Choice}
use Rattle.grasp_model_network.specs.World.{WorldState}
use Rattle.grasp_model_network.specs.declared.event.Event.{Event}
use Rattle.grasp_laws_floods.specs.Sought.{DiscoveriesAreSought}
use Rattle.grasp_laws_floods.specs.Real.{FloodsAreReal, ReadsWereCalled, FloodsOnTheWay}

-- P holds of each network that turns lead to, and of each network of a run
pub record OfEachWorld (P : WorldState → Type 0) : Type 0 where
  pub reached : (s : Setting) (w : WorldState) → IsReached s w → P w
  pub worlds : (s : Setting) (hs : List Happening) → IsGoodSetting s → IsRun s (first_world s) hs → All P (worlds_from s (first_world s) hs)

-- each flood that an agent read was flooded by its initiator
abbrev pub ReadFloodsAreReal : Type 0
ReadFloodsAreReal = OfEachWorld FloodsAreReal

-- each flood on its way and each that a node keeps was flooded by its initiator
abbrev pub OtherFloodsAreReal : Type 0
OtherFloodsAreReal = OfEachWorld FloodsOnTheWay

-- what is read at an event was flooded before it
abbrev pub ReadsComeLater : Type 0
ReadsComeLater = (s : Setting) (w : WorldState) (e : Event) (c : Choice) → IsReached s w → Occurs s w e c → ReadsWereCalled w (after_event s w e c)

-- what a node sends on it sends on once, with the loop count less by one: so it is at each event of a network that turns lead to
abbrev pub RelaysAreOnceHere : Type 0
RelaysAreOnceHere = (s : Setting) (w : WorldState) (e : Event) (c : Choice) (v : Visit) → IsReached s w → Occurs s w e c → visit_of s w e ≡ Some v
    → Queues (begin v.seat.core v.now) v.input c.coming c.reply c.after

-- each discovery on its way, and each that a node remembers, was begun by a search
abbrev pub DiscoveriesAreReal : Type 0
DiscoveriesAreReal = OfEachWorld DiscoveriesAreSought
