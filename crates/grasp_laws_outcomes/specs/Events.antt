-- Each event that may be asked for comes out in some way: a step of a node has a reply and a node after it, so that no case of a step is empty.
use Rattle.std.specs.Prelude.{◌⊎◌}
use Rattle.grasp_model_network.specs.Events.{IsFit, Occurs, Overflows}
use Rattle.grasp_model_network.specs.Runs.{IsReached}
use Rattle.grasp_model_network.specs.Setting.{Setting}
use Rattle.grasp_model_network.specs.Visits.{Choice}
use Rattle.grasp_model_network.specs.World.{WorldState}
use Rattle.grasp_model_network.specs.declared.event.Event.{Event}

-- the event may come out so, in some way
pub record ComesOut (s : Setting) (w : WorldState) (e : Event) : Type 0 where
  pub choice : Choice
  pub occurs : Occurs s w e choice

-- in each network that turns lead to: it comes out, or more is sent than may be
abbrev pub EventsComeOut : Type 0
EventsComeOut = (s : Setting) (w : WorldState) (e : Event) → IsReached s w → IsFit s w e → ComesOut s w e ⊎ Overflows s w e
