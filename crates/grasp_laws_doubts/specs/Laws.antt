-- The laws of networks of doubters.
use Rattle.std.specs.Prelude.{◌≡◌, ℕ, Some}
use Rattle.grasp_doubter.specs.States.{DoubterState}
use Rattle.grasp_types.specs.Prefix.{AddressBlock as Prefix}
use Rattle.grasp_model_doubts.specs.Runs.{IsDoubted}
use Rattle.grasp_model_doubts.specs.Steps.{after_doubter_call, doubter_event, taken_at}
use Rattle.grasp_model_doubts.specs.World.{DoubtState}
use Rattle.grasp_model_network.specs.Events.{Occurs}
use Rattle.grasp_model_network.specs.Runs.{IsReached}
use Rattle.grasp_model_network.specs.Setting.{Setting, numbered}
use Rattle.grasp_model_network.specs.Settling.{IsDead}
use Rattle.grasp_model_network.specs.Visits.{Choice}

-- turns lead to each network that a run of a network of doubters comes to
abbrev pub DoubtedAreReached : Type 0
DoubtedAreReached = (s : Setting) (x : DoubtState) → IsDoubted s x → IsReached s x.world

-- a prefix that a doubter settles is dead when its call is over
abbrev pub SettlingsAreOfDead : Type 0
SettlingsAreOfDead = (s : Setting) (x : DoubtState) → IsDoubted s x → (node : ℕ) (d : DoubterState) (c : Choice) → numbered x.doubters node ≡ Some d → Occurs s x.world (doubter_event d node) c
    → (p : Prefix) → (taken_at s x.world node d c).settled ≡ Some p → IsDead (after_doubter_call s x.world node d c) node p
