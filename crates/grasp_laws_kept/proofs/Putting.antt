-- What the calls around a call of an agent leave on a disk: an image, and meanwhile this one or the one before.
use Rattle.std.proofs.Common.{◌≡◌, ◌⊎◌, inl, inr, ℕ, ◌+◌, ◌-◌, ◌<◌, ◌≤◌, ◌^◌, Bool, true, false, List, [], length, Option, None, Some, refl, sym, ◌∙◌, ap, subst, arith}
use Rattle.std.specs.Prelude.{if◌then◌else◌}
use Rattle.grasp_disk.specs.Calls.{DiskCall, DiskState, after_calls}
use Rattle.grasp_disk.specs.Crashes.{AtEachMoment, IsSettled}
use Rattle.grasp_disk.specs.Memory.{AllFit, AllSucceed}
use Rattle.grasp_disk.proofs.Leaving.{settled_leaves}
use Rattle.grasp_disk.proofs.Moments.{moments_imply}
use Rattle.grasp_types.specs.Prefix.{AddressBlock as Prefix}
use Rattle.grasp_pool.specs.declared.image.PoolImage.{PoolImage}
use Rattle.grasp_pool.specs.declared.roots.RootPrefix.{RootPrefix}
use Rattle.grasp_agent.specs.States.{AgentState, accepted_by}
use Rattle.grasp_store.specs.Current.{Holds, IsSound, current_in, image_on, image_or, number_of}
use Rattle.grasp_store.specs.Images.{IsGoodImage, image_accepting, image_before, image_of, is_same_image, with_doubt}
use Rattle.grasp_store.specs.Saving.{IsOldOrNew, accepting_calls, before_calls, behind_calls, save_calls}
use Rattle.grasp_store.proofs.Keepers.{image_decides}
use Rattle.grasp_laws_store.specs.Saves.{SaveDoes}
use Rattle.grasp_laws_store.proofs.Saves.{saves_do}

-- the disk can be opened, has one of two images, and its number is at most so great
pub record HasEither (roots : List RootPrefix) (old new : PoolImage) (most : ℕ) (content : List ℕ) : Type 0 where
  pub sound : IsSound content
  pub image : (image_on roots content ≡ old) ⊎ (image_on roots content ≡ new)
  pub number : number_of (current_in content) ≤ most

-- the calls lie on the disk and succeed, a crash at any moment of them leaves one of two images, and behind them all is synced and the second is there
pub record Puts (roots : List RootPrefix) (s : DiskState) (calls : List DiskCall) (old new : PoolImage) (most : ℕ) : Type 0 where
  pub fits : AllFit (length s.bytes) calls
  pub succeed : AllSucceed calls
  pub moments : AtEachMoment s calls (HasEither roots old new most)
  pub settled : IsSettled (after_calls calls s)
  pub holds : Holds roots (after_calls calls s).bytes new
  pub number : number_of (current_in (after_calls calls s).bytes) ≤ most

module _ (roots : List RootPrefix) (s : DiskState) (settled : IsSettled s) (old : PoolImage) (holds : Holds roots s.bytes old) (most : ℕ)
    (few : number_of (current_in s.bytes) ≤ most) (below : most < 2 ^ 64 - 1) where
  here : HasEither roots old old (most + 1) s.bytes
  here = record { sound = holds.sound; image = inl holds.has; number = omega (arith, few) }

  -- no call
  nothing_puts : Puts roots s [] old old (most + 1)
  unfolding AtEachMoment
  nothing_puts = record {
    fits = tt;
    succeed = tt;
    moments = λ c may. subst (HasEither roots old old (most + 1)) (sym (settled_leaves s settled c may)) here;
    settled = settled;
    holds = holds;
    number = omega (arith, few);
  }

  -- a save
  module _ (image : PoolImage) (good : IsGoodImage image) where
    does : SaveDoes s image
    does = saves_do s image settled holds.sound good (omega (arith, few, below))

    either : (c : List ℕ) → IsOldOrNew s.bytes image c → HasEither roots old image (most + 1) c
    either c is = elim is.current [
      | inl same ↦ record { sound = is.sound; image = inl (ap (image_or roots) same ∙ holds.has); number = omega (arith, ap number_of same, few) }
      | inr new ↦ record { sound = is.sound; image = inr (ap (image_or roots) new); number = omega (arith, ap number_of new, few) }
    ]

    save_puts : Puts roots s (save_calls s.bytes image) old image (most + 1)
    save_puts = record {
      fits = does.fits;
      succeed = does.succeed;
      moments = moments_imply s (save_calls s.bytes image) (IsOldOrNew s.bytes image) (HasEither roots old image (most + 1)) either does.moments;
      settled = does.settled;
      holds = record { sound = does.sound; has = ap (image_or roots) does.current };
      number = omega (arith, ap number_of does.current, few);
    }

  -- before a call of an agent the pool's image is there
  accepting_puts : (o : Option Prefix) → IsGoodImage (image_accepting o old) → Puts roots s (accepting_calls s.bytes old o) old (image_accepting o old) (most + 1)
  accepting_puts None good = nothing_puts
  accepting_puts (Some p) good = save_puts (with_doubt p old) good

  -- behind a call any image may be there
  behind_puts_by : (image : PoolImage) → IsGoodImage image → (t : Bool) → is_same_image (image_on roots s.bytes) image ≡ t
      → Puts roots s (if t then [] else save_calls s.bytes image) old image (most + 1)
  behind_puts_by image good true same =
      subst (λ (i : PoolImage). Puts roots s [] old i (most + 1)) (sym holds.has ∙ (image_decides (image_on roots s.bytes) image).0 same) nothing_puts
  behind_puts_by image good false same = save_puts image good

  pub behind_puts : (a : AgentState) → IsGoodImage (image_of a.pool) → Puts roots s (behind_calls roots s.bytes a) old (image_of a.pool) (most + 1)
  behind_puts a good = behind_puts_by (image_of a.pool) good (is_same_image (image_on roots s.bytes) (image_of a.pool)) refl

module _ (roots : List RootPrefix) (s : DiskState) (settled : IsSettled s) (a : AgentState) (holds : Holds roots s.bytes (image_of a.pool)) (most : ℕ)
    (few : number_of (current_in s.bytes) ≤ most) (below : most < 2 ^ 64 - 1) where
  pub before_puts : IsGoodImage (image_before a) → Puts roots s (before_calls s.bytes a) (image_of a.pool) (image_before a) (most + 1)
  before_puts good = accepting_puts roots s settled (image_of a.pool) holds most few below (accepted_by a.act) good
