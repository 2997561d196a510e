-- What a crash leaves of a disk on which an agent's images are kept.
use Rattle.std.proofs.Common.{◌≡◌, inl, inr, ℕ, List, Option, None, Some, refl, sym, ap, subst}
use Rattle.grasp_types.specs.Prefix.{AddressBlock as Prefix}
use Rattle.grasp_disk.specs.Calls.{bytes_of, state_of}
use Rattle.grasp_disk.proofs.Leaving.{settled_leaves}
use Rattle.grasp_disk.proofs.Moments.{moments_imply}
use Rattle.grasp_pool.specs.declared.image.PoolImage.{PoolImage}
use Rattle.grasp_pool.specs.declared.roots.RootPrefix.{RootPrefix}
use Rattle.grasp_agent.specs.Reopening.{MayReopen}
use Rattle.grasp_agent.specs.Replies.{after_event}
use Rattle.grasp_agent.specs.States.{AgentState, accepted_by}
use Rattle.grasp_laws_agent.proofs.LawKept.{kept_event}
use Rattle.grasp_store.specs.Current.{Holds, image_on, image_or}
use Rattle.grasp_store.specs.Images.{image_accepting, image_behind, image_of}
use Rattle.grasp_store.specs.Keeping.{image_kept, kept_before}
use Rattle.grasp_store.specs.Saving.{IsOldOrNew}
use Rattle.grasp_laws_store.specs.Disks.{Reopens, BeforeReopens, BehindReopens, CurrentImagesStay}
use Rattle.grasp_laws_store.proofs.Reopening.{accepting_reopens, images_reopen, replies_reopen}

-- a content that can be opened, and one of two images by each of which the agent may be opened anew
either_reopens : (roots : List RootPrefix) (s : AgentState) (old content : List ℕ) (image : PoolImage) → MayReopen s (image_on roots old) → MayReopen s image → IsOldOrNew old image content
    → Reopens roots s content
either_reopens roots s old content image before then is = record {
  sound = is.sound;
  reopens = elim is.current [
    | inl was ↦ subst (MayReopen s) (sym (ap (image_or roots) was)) before
    | inr new ↦ subst (MayReopen s) (sym (ap (image_or roots) new)) then
  ];
}

-- what is kept before a call, where the image of the pool is current
kept_is : (current image : PoolImage) (o : Option Prefix) → current ≡ image → image_kept current image o ≡ image_accepting o image
kept_is current image None is = is
kept_is current image (Some p) is = refl

pub before_reopens : BeforeReopens
before_reopens roots log s made kept now moments =
    moments_imply (state_of log) made (IsOldOrNew (bytes_of log) (kept_before (image_on roots (bytes_of log)) s)) (Reopens roots s)
    (λ content holds. either_reopens roots s (bytes_of log) content (kept_before (image_on roots (bytes_of log)) s) (subst (MayReopen s) (sym now) (images_reopen s kept))
    (subst (MayReopen s) (sym (kept_is (image_on roots (bytes_of log)) (image_of s.pool) (accepted_by s.act) now)) (accepting_reopens s kept)) holds)
    moments

pub behind_reopens : BehindReopens
behind_reopens roots log s e made kept possible now moments =
    moments_imply (state_of log) made (IsOldOrNew (bytes_of log) (image_behind (after_event s e))) (Reopens roots (after_event s e))
    (λ content holds. either_reopens roots (after_event s e) (bytes_of log) content (image_behind (after_event s e)) (subst (MayReopen (after_event s e)) (sym now) (replies_reopen s e kept possible))
    (images_reopen (after_event s e) (kept_event s e possible kept)) holds)
    moments

pub current_images_stay : CurrentImagesStay
current_images_stay roots log settled sound content may =
    subst (λ (bytes : List ℕ). Holds roots bytes (image_on roots (bytes_of log))) (sym (settled_leaves (state_of log) settled content may)) (record { sound = sound; has = refl })
