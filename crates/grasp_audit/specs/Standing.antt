-- Inside: how the audit's own network stands.
use Rattle.std.specs.Prelude.{◌≡◌, ℕ, length}
use Rattle.grasp_model_network.specs.Events.{IsFit}
use Rattle.grasp_model_network.specs.Setting.{Setting}
use Rattle.grasp_model_network.specs.World.{WorldState}
use Rattle.grasp_model_network.specs.declared.event.Event.{Event}
use Rattle.grasp_record.specs.Records.{IsRecord}
use Rattle.grasp_record.specs.declared.line.RecordLine.{RecordLine}
use Rattle.grasp_simulator.specs.Lending.{StandsFor}
use Rattle.grasp_simulator.specs.declared.world.World.{World}

-- the code goes on for this network, which has so many nodes
pub record IsAt (code : World) (nodes : ℕ) (s : Setting) (w : WorldState) : Type 0 where
  pub stands : StandsFor code s w
  pub count : length s.members ≡ nodes

-- it goes on for some network of so many nodes
pub record GoesOn (code : World) (nodes : ℕ) : Type 0 where
  pub setting : Setting
  pub network : WorldState
  pub is_at : IsAt code nodes setting network

-- it goes on for some network, and this is a line of a record of so many nodes as that has
pub record HasLine (code : World) (x : RecordLine) : Type 0 where
  pub setting : Setting
  pub network : WorldState
  pub stands : StandsFor code setting network
  pub ranges : IsRecord (length setting.members) x

-- it goes on for some network, in which the event may be asked for
pub record MayAnswer (code : World) (e : Event) : Type 0 where
  pub setting : Setting
  pub network : WorldState
  pub stands : StandsFor code setting network
  pub fit : IsFit setting network e
