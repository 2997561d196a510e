-- Each event of a network whose nodes crash comes out in some way, and so does each crash, whenever the disk stops and whatever is left.
use Rattle.std.specs.Prelude.{◌⊎◌}
use Rattle.grasp_model_kept.specs.Runs.{IsKeptFit, KeptOccurs, KeptOverflows}
use Rattle.grasp_model_kept.specs.World.{KeptState}
use Rattle.grasp_model_kept.specs.declared.event.KeptEvent.{KeptEvent}
use Rattle.grasp_model_network.specs.Runs.{IsReached}
use Rattle.grasp_model_network.specs.Setting.{Setting}
use Rattle.grasp_model_network.specs.Visits.{Choice}

-- the event may come out so, in some way
pub record KeptComesOut (s : Setting) (k : KeptState) (e : KeptEvent) : Type 0 where
  pub choice : Choice
  pub occurs : KeptOccurs s k e choice

-- in each network that turns lead to, whatever stands on its disks: it comes out, or more is sent than may be
abbrev pub KeptEventsComeOut : Type 0
KeptEventsComeOut = (s : Setting) (k : KeptState) (e : KeptEvent) → IsReached s k.world → IsKeptFit s k e → KeptComesOut s k e ⊎ KeptOverflows s k e
