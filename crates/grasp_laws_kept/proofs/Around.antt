-- What stands on a disk behind a call of an agent, and what a crash in it leaves.
use Rattle.std.proofs.Common.{ℕ, ◌+◌, ◌-◌, ◌<◌, ◌^◌, List, ◌++◌, refl, sym, subst, arith}
use Rattle.std.specs.Prelude.{drop}
use Rattle.grasp_disk.specs.Calls.{DiskCall, DiskState, after_calls}
use Rattle.grasp_disk.specs.Memory.{AllFit, all_kept, left_by, written_by}
use Rattle.grasp_disk.specs.declared.left.Left.{Left}
use Rattle.grasp_disk.proofs.Lefts.{length-written}
use Rattle.grasp_disk.proofs.Moments.{after-append}
use Rattle.grasp_pool.specs.declared.roots.RootPrefix.{RootPrefix}
use Rattle.grasp_agent.specs.States.{AgentState}
use Rattle.grasp_store.specs.Images.{IsGoodImage, image_before, image_of}
use Rattle.grasp_store.specs.Saving.{before_calls, behind_calls}
use Rattle.grasp_laws_kept.specs.Disks.{DiskStands}
use Rattle.grasp_laws_kept.proofs.Moments.{first_left, then_left}
use Rattle.grasp_laws_kept.proofs.Putting.{HasEither, Puts, before_puts, behind_puts}

module _ (roots : List RootPrefix) (bytes : List ℕ) (a : AgentState) (most : ℕ) (stands : DiskStands roots bytes a.pool most) (below : most + 2 < 2 ^ 64 - 1) where
  -- once an agent is told of a want or a return
  pub told_stands : (b : AgentState) → IsGoodImage (image_of b.pool) → DiskStands roots (written_by bytes (behind_calls roots bytes b)) b.pool (most + 2)
  told_stands b good =
      let puts : Puts roots (all_kept bytes) (behind_calls roots bytes b) (image_of a.pool) (image_of b.pool) (most + 1) =
      behind_puts roots (all_kept bytes) refl (image_of a.pool) stands.holds most stands.number (omega (arith, below)) b good
      in record { holds = puts.holds; number = omega (arith, puts.number) }

  module _ (ready : IsGoodImage (image_before a)) where
    abbrev before : List DiskCall
    before = before_calls bytes a

    abbrev then : DiskState
    then = after_calls (before_calls bytes a) (all_kept bytes)

    puts_before : Puts roots (all_kept bytes) before (image_of a.pool) (image_before a) (most + 1)
    puts_before = before_puts roots (all_kept bytes) refl a stands.holds most stands.number (omega (arith, below)) ready

    -- where the disk stops before the call
    pub cut_leaves : (left : Left) (m : ℕ) → HasEither roots (image_of a.pool) (image_before a) (most + 1) (left_by left bytes (drop m (before_calls bytes a)))
    cut_leaves left m = first_left left bytes before m (HasEither roots (image_of a.pool) (image_before a) (most + 1)) puts_before.fits puts_before.moments

    module _ (b : AgentState) (good : IsGoodImage (image_of b.pool)) where
      abbrev behind : List DiskCall
      behind = behind_calls roots (written_by bytes (before_calls bytes a)) b

      puts_behind : Puts roots then behind (image_before a) (image_of b.pool) (most + 1 + 1)
      puts_behind = behind_puts roots then puts_before.settled (image_before a) puts_before.holds (most + 1) puts_before.number (omega (arith, below)) b good

      pub call_stands : DiskStands roots (written_by bytes (behind_calls roots (written_by bytes (before_calls bytes a)) b ++ before_calls bytes a)) b.pool (most + 2)
      call_stands =
          subst (λ (t : DiskState). DiskStands roots t.bytes b.pool (most + 2)) (sym (after-append behind before (all_kept bytes)))
          (record { holds = puts_behind.holds; number = omega (arith, puts_behind.number) })

      -- where it stops behind the call, or not at all
      pub call_leaves : (left : Left) (m : ℕ)
          → HasEither roots (image_before a) (image_of b.pool) (most + 1 + 1) (left_by left bytes (drop m (behind_calls roots (written_by bytes (before_calls bytes a)) b) ++ before_calls bytes a))
      call_leaves left m =
          then_left left bytes before behind m (HasEither roots (image_before a) (image_of b.pool) (most + 1 + 1)) puts_before.fits
          (subst (λ (n : ℕ). AllFit n behind) (length-written bytes before puts_before.fits) puts_behind.fits) puts_behind.moments
