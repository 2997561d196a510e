-- Calls of a disk that never stops don't fail.
use Rattle.std.proofs.Common.{refl}
use Rattle.grasp_disk.specs.Memory.{log_from}
use Rattle.grasp_agent.specs.States.{AgentState}
use Rattle.grasp_store.specs.Saving.{before_calls, behind_calls}
use Rattle.grasp_kept.specs.Asking.{FailsBefore, FailsBehind, NeverStops}
use Rattle.grasp_kept.specs.Keepers.{DiskKeeper}
use Rattle.grasp_kept.proofs.Keepers.{never_fails}

pub before_goes : (old new : DiskKeeper) (agent : AgentState) → NeverStops old → FailsBefore old new agent → ⊥
before_goes old new agent n fails =
    let f = fails n.roots (log_from n.bytes) n.keeps in never_fails new.disk (log_from n.bytes) (before_calls n.bytes agent) f.made refl f.short f.makes.stands

pub behind_goes : (old new : DiskKeeper) (agent : AgentState) → NeverStops old → FailsBehind old new agent → ⊥
behind_goes old new agent n fails =
    let f = fails n.roots (log_from n.bytes) n.keeps in never_fails new.disk (log_from n.bytes) (behind_calls n.roots n.bytes agent) f.made refl f.short f.makes.stands
