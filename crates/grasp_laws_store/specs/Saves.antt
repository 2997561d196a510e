-- What a save of an image does on a disk, whatever a crash leaves of it.
use Rattle.std.specs.Prelude.{◌≡◌, ◌-◌, ◌<◌, ◌^◌, length, Some}
use Rattle.grasp_disk.specs.Calls.{DiskState, after_calls}
use Rattle.grasp_disk.specs.Crashes.{AtEachMoment, IsSettled}
use Rattle.grasp_disk.specs.Memory.{AllFit, AllSucceed}
use Rattle.grasp_pool.specs.declared.image.PoolImage.{PoolImage}
use Rattle.grasp_store.specs.Current.{IsSound, current_in, number_of}
use Rattle.grasp_store.specs.Images.{IsGoodImage}
use Rattle.grasp_store.specs.Saving.{IsOldOrNew, next_saved, save_calls}

-- the calls of a save lie on the disk and succeed, a crash at any moment of them leaves what was current or what the save puts there, and behind them all is
-- synced and the latter is current
pub record SaveDoes (s : DiskState) (image : PoolImage) : Type 0 where
  pub fits : AllFit (length s.bytes) (save_calls s.bytes image)
  pub succeed : AllSucceed (save_calls s.bytes image)
  pub moments : AtEachMoment s (save_calls s.bytes image) (IsOldOrNew s.bytes image)
  pub settled : IsSettled (after_calls (save_calls s.bytes image) s)
  pub sound : IsSound (after_calls (save_calls s.bytes image) s).bytes
  pub current : current_in (after_calls (save_calls s.bytes image) s).bytes ≡ Some (next_saved s.bytes image)

-- so it is of each image that a pool can have, on each disk that can be opened and on which all is synced, where the number can rise
abbrev pub SavesDo : Type 0
SavesDo = (s : DiskState) (image : PoolImage) → IsSettled s → IsSound s.bytes → IsGoodImage image
    → number_of (current_in s.bytes) < 2 ^ 64 - 1 → SaveDoes s image
