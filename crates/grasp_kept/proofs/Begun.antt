-- A node that begins anew with what a crash has left on its disk.
use Rattle.std.proofs.Common.{◌≡◌, sym, ◌∙◌, subst, ℕ, List, Ok, Err}
use Rattle.grasp_disk.specs.Calls.{DiskLog}
use Rattle.grasp_disk.specs.Memory.{MemDiskState, MemStands, left_by, log_from}
use Rattle.grasp_disk.specs.declared.left.Left.{Left}
use Rattle.grasp_pool.specs.declared.image.PoolImage.{PoolImage}
use Rattle.grasp_pool.specs.declared.roots.RootPrefix.{RootPrefix}
use Rattle.grasp_store.specs.Current.{image_on}
use Rattle.grasp_model_network.specs.Restarting.{MayRestart, after_restart}
use Rattle.grasp_model_network.specs.Setting.{Setting}
use Rattle.grasp_model_network.specs.World.{WorldState}
use Rattle.grasp_model_network.specs.declared.report.Report.{Report}
use Rattle.grasp_model_network.specs.declared.report.WorldStop.{WorldStop}
use Rattle.grasp_model_network.specs.declared.turn.Turn.TheVariants as turn
use Rattle.grasp_simulator.specs.Contract.{MeetsTurn}
use Rattle.grasp_simulator.specs.WorldStands.{WorldStands}
use Rattle.grasp_simulator.specs.WorldSteps.{IsAskedFor, Turned}
use Rattle.grasp_simulator.specs.declared.world.World.{World}
use Rattle.grasp_kept.specs.Beginning.{Begins, BeginsAnew, CanBegin}
use Rattle.grasp_kept.specs.Keepers.{DiskKeeper, KeepsDisk}
use Rattle.grasp_kept.specs.Nodes.{network_at}
use Rattle.grasp_kept.specs.Opening.{CanOpen, KeepsOpened}

-- what a crash makes of a disk
abbrev pub Leaves : MemDiskState → MemDiskState → Left → Type 0
Leaves old new left = (log : DiskLog) → MemStands old log → MemStands new (log_from (left_by left log.start.bytes log.calls))

module _ (before : World) (keeper : DiskKeeper) (node : ℕ) (left : Left) (roots : List RootPrefix) (closed crashed : MemDiskState) (is_closed : closed ≡ keeper.disk) (leaves : Leaves closed crashed left) where
  module _ (s : Setting) (w : WorldState) (content : List ℕ) (b : Begins before keeper s w node left roots content) where
    stands_left : MemStands crashed (log_from content)
    stands_left = subst (λ (c : List ℕ). MemStands crashed (log_from c)) b.leaves.same (leaves b.leaves.log (subst (λ (d : MemDiskState). MemStands d b.leaves.log) (sym is_closed) b.leaves.stands))

    module _ (next : DiskKeeper) (opened : KeepsOpened roots crashed next) where
      keeps : KeepsDisk roots next content
      keeps = opened content stands_left b.sound

      is_image : (image : PoolImage) → image ≡ next.image → image ≡ image_on roots content
      is_image image same = same ∙ keeps.remembers.image

      may_turn : (image : PoolImage) → image ≡ next.image → MeetsTurn (WorldStands before) (network_at s w) (turn.Restart node image)
      may_turn image same = record { stands = b.stands; fit = subst (λ (i : PoolImage). MayRestart s w node i) (sym (is_image image same)) b.may }

  pub can_open : CanBegin before keeper node left roots → CanOpen crashed
  can_open can = record { bytes = can.content; stands = stands_left can.setting can.network can.content can.begins; sound = can.begins.sound }

  module _ (next : DiskKeeper) (opened : KeepsOpened roots crashed next) (image : PoolImage) (same : image ≡ next.image) where
    pub turn_asked : CanBegin before keeper node left roots → IsAskedFor before (turn.Restart node image)
    turn_asked can = record { network = network_at can.setting can.network; meets = may_turn can.setting can.network can.content can.begins next opened image same }

    module _ (after : World) where
      pub begins_anew : (report : Report) → Turned before after (turn.Restart node image) (Ok report) → (told : PoolImage) → told ≡ next.image → BeginsAnew before after keeper node left roots (Ok (next, told))
      begins_anew report turns told told_is s w content b = record {
        stands = subst (λ (i : PoolImage). WorldStands after (network_at s (after_restart s w node i))) (is_image s w content b next opened image same)
            (turns (network_at s w) (may_turn s w content b next opened image same)).stands;
        keeps = keeps s w content b next opened;
        image_is = is_image s w content b next opened told told_is;
      }

      pub begin_stops : (why : WorldStop) → Turned before after (turn.Restart node image) (Err why) → BeginsAnew before after keeper node left roots (Err why)
      begin_stops why turns s w content b = (turns (network_at s w) (may_turn s w content b next opened image same)).may_stop
