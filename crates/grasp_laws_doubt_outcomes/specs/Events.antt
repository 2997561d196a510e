-- Each event of a network of doubters comes out in some way: each call of a doubter is within its ranges, and has a reply.
use Rattle.std.specs.Prelude.{◌⊎◌}
use Rattle.grasp_model_doubts.specs.Events.{DoubtMayStop, DoubtOccurs, IsDoubtFit}
use Rattle.grasp_model_doubts.specs.Runs.{IsDoubted}
use Rattle.grasp_model_doubts.specs.World.{DoubtState}
use Rattle.grasp_model_doubts.specs.declared.event.DoubtEvent.{DoubtEvent}
use Rattle.grasp_model_network.specs.Setting.{Setting}
use Rattle.grasp_model_network.specs.Visits.{Choice}
use Rattle.grasp_model_network.specs.declared.report.WorldStop.TheVariants.{TooMuch}

-- the event may come out so, in some way
pub record DoubtComesOut (s : Setting) (x : DoubtState) (e : DoubtEvent) : Type 0 where
  pub choice : Choice
  pub occurs : DoubtOccurs s x e choice

-- in each network of doubters that events lead to: it comes out, or more is sent than may be
abbrev pub DoubtEventsComeOut : Type 0
DoubtEventsComeOut = (s : Setting) (x : DoubtState) (e : DoubtEvent) → IsDoubted s x → IsDoubtFit s x e → DoubtComesOut s x e ⊎ DoubtMayStop s x e TooMuch
