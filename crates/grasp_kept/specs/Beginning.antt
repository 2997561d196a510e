-- Inside: a node that begins anew with what is left on its disk.
use Rattle.std.specs.Prelude.{◌≡◌, ℕ, List, Result, Ok, Err}
use Rattle.grasp_disk.specs.declared.left.Left.{Left}
use Rattle.grasp_pool.specs.declared.image.PoolImage.{PoolImage}
use Rattle.grasp_pool.specs.declared.roots.RootPrefix.{RootPrefix}
use Rattle.grasp_store.specs.Current.{IsSound, image_on}
use Rattle.grasp_model_network.specs.Restarting.{MayRestart, after_restart}
use Rattle.grasp_model_network.specs.Setting.{Setting}
use Rattle.grasp_model_network.specs.World.{WorldState}
use Rattle.grasp_model_network.specs.declared.report.WorldStop.{WorldStop}
use Rattle.grasp_model_network.specs.declared.report.WorldStop.TheVariants as stop
use Rattle.grasp_simulator.specs.WorldStands.{WorldStands}
use Rattle.grasp_simulator.specs.declared.world.World.{World}
use Rattle.grasp_kept.specs.Keepers.{DiskKeeper, DiskLeaves, KeepsDisk}
use Rattle.grasp_kept.specs.Nodes.{network_at}

-- the crash of the disk leaves this content, which can be opened, and with its image the node may begin anew
pub record Begins (world : World) (keeper : DiskKeeper) (s : Setting) (w : WorldState) (node : ℕ) (left : Left) (roots : List RootPrefix) (content : List ℕ) : Type 0 where
  pub stands : WorldStands world (network_at s w)
  pub leaves : DiskLeaves keeper.disk left content
  pub sound : IsSound content
  pub may : MayRestart s w node (image_on roots content)

-- so it is of some network and content
pub record CanBegin (world : World) (keeper : DiskKeeper) (node : ℕ) (left : Left) (roots : List RootPrefix) : Type 0 where
  pub setting : Setting
  pub network : WorldState
  pub content : List ℕ
  pub begins : Begins world keeper setting network node left roots content

-- the code stands for the network once the node has begun anew with the image, and its keeper keeps what was left
pub record HasBegun (world : World) (s : Setting) (w : WorldState) (node : ℕ) (roots : List RootPrefix) (content : List ℕ) (keeper : DiskKeeper) (image : PoolImage) : Type 0 where
  pub stands : WorldStands world (network_at s (after_restart s w node (image_on roots content)))
  pub keeps : KeepsDisk roots keeper content
  pub image_is : image ≡ image_on roots content

abbrev pub BeginAnswers : World → Setting → WorldState → ℕ → List RootPrefix → List ℕ → Result (DiskKeeper × PoolImage) WorldStop → Type 0
BeginAnswers world s w node roots content (Ok begun) = HasBegun world s w node roots content begun.0 begun.1
BeginAnswers world s w node roots content (Err why) = why ≡ stop.OutOfMemory

-- for each network and content
abbrev pub BeginsAnew : World → World → DiskKeeper → ℕ → Left → List RootPrefix → Result (DiskKeeper × PoolImage) WorldStop → Type 0
BeginsAnew before after keeper node left roots result =
    (s : Setting) (w : WorldState) (content : List ℕ) → Begins before keeper s w node left roots content → BeginAnswers after s w node roots content result
