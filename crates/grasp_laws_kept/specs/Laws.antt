-- Laws of networks whose nodes crash.
use Rattle.std.specs.Prelude.{◌≡◌, ℕ, ◌<◌, ◌^◌, All, List, length}
use Rattle.grasp_model_network.specs.GoodSetting.{IsGoodSetting}
use Rattle.grasp_model_network.specs.Runs.{IsReached}
use Rattle.grasp_model_network.specs.Setting.{Setting}
use Rattle.grasp_model_network.specs.Turns.{AreTurns, world_turned}
use Rattle.grasp_model_kept.specs.Runs.{IsKeptRun, KeptHappening, kept_after, kept_networks, kept_states, turns_of}
use Rattle.grasp_model_kept.specs.World.{KeptState, first_kept}
use Rattle.grasp_model_script.specs.Safe.{IsSafe}
use Rattle.grasp_laws_kept.specs.Disks.{DisksStand}

-- the run comes to turns of the network, which lead to the network that it leads to
pub record IsTurned (s : Setting) (k : KeptState) (hs : List KeptHappening) : Type 0 where
  pub turns : AreTurns s k.world (turns_of s k hs)
  pub last : (kept_after s k hs).world ≡ world_turned s k.world (turns_of s k hs)

-- turns lead to the network, and each disk has the image of its member's pool
pub record KeptStands (s : Setting) (most : ℕ) (k : KeptState) : Type 0 where
  pub reached : IsReached s k.world
  pub disks : DisksStand s k most

-- each run of fewer than 2^32 events is one of turns: each node that crashes may begin anew with what its disk has then
abbrev pub KeptRunsAreTurns : Type 0
KeptRunsAreTurns = (s : Setting) (hs : List KeptHappening) → IsGoodSetting s → length hs < 2 ^ 32 → IsKeptRun s (first_kept s) hs → IsTurned s (first_kept s) hs

-- and so each of its networks is one that turns lead to, and each disk has the image of its member's pool
abbrev pub KeptStatesStand : Type 0
KeptStatesStand = (s : Setting) (hs : List KeptHappening) → IsGoodSetting s → length hs < 2 ^ 32 → IsKeptRun s (first_kept s) hs
    → All (KeptStands s (2 ^ 33)) (kept_states s (first_kept s) hs)

-- and so each of its networks is safe, also that at a crash, before the node begins anew
abbrev pub KeptNetworksAreSafe : Type 0
KeptNetworksAreSafe = (s : Setting) (hs : List KeptHappening) → IsGoodSetting s → length hs < 2 ^ 32 → IsKeptRun s (first_kept s) hs
    → All (IsSafe s) (kept_networks s (first_kept s) hs)
