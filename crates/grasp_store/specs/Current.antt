-- Which image of a disk's two slots is current.
use Rattle.std.specs.Prelude.{◌≡◌, ℕ, ◌<◌, if◌then◌else◌, nat_lt, List, length, Option, None, Some}
use Rattle.grasp_disk.specs.Calls.{disk_size}
use Rattle.grasp_pool.specs.Functions.{pool_of}
use Rattle.grasp_pool.specs.declared.image.PoolImage.{PoolImage}
use Rattle.grasp_pool.specs.declared.roots.RootPrefix.{RootPrefix}
use Rattle.grasp_store.specs.Images.{IsGoodImage, image_of}
use Rattle.grasp_store.specs.Slots.{Saved, slot_in, other}
use Rattle.grasp_store.specs.declared.place.Place.{Place}
use Rattle.grasp_store.specs.declared.place.Place.TheVariants.{First, Second}

-- the slot is open and holds x, and the other is closed or has a lower number
pub record IsNewest (bytes : List ℕ) (place : Place) (x : Saved) : Type 0 where
  pub holds : slot_in bytes place ≡ Some x
  pub older : (y : Saved) → slot_in bytes (other place) ≡ Some y → y.number < x.number

-- what is current: what the open slot with the greater number holds, and nothing where none is open. Of two open slots with one number neither is
abbrev pub IsCurrent : List ℕ → Option Saved → Type 0
IsCurrent bytes None = (slot_in bytes First ≡ None) × (slot_in bytes Second ≡ None)
IsCurrent bytes (Some x) = (place : Place) × IsNewest bytes place x

-- of what two slots hold, the place of what has the greater number
abbrev pub newer : Option Saved → Option Saved → Option Place
newer None None = None
newer (Some x) None = Some First
newer None (Some y) = Some Second
newer (Some x) (Some y) = if nat_lt x.number y.number then Some Second else Some First

-- the slot that is current
abbrev pub current_place : List ℕ → Option Place
current_place bytes = newer (slot_in bytes First) (slot_in bytes Second)

-- what the slot at a place holds, where there is one
abbrev pub saved_at : List ℕ → Option Place → Option Saved
saved_at bytes None = None
saved_at bytes (Some place) = slot_in bytes place

-- what is current, as a function
unfoldable pub current_in : List ℕ → Option Saved
current_in bytes = saved_at bytes (current_place bytes)

-- its number, and 0 where nothing is current
abbrev pub number_of : Option Saved → ℕ
number_of None = 0
number_of (Some x) = x.number

-- the image of the roots, where nothing is current
abbrev pub image_or : List RootPrefix → Option Saved → PoolImage
image_or roots None = image_of (pool_of roots)
image_or roots (Some x) = x.image

-- the image that a disk with these bytes has: the current one, and that of the roots where none is open
abbrev pub image_on : List RootPrefix → List ℕ → PoolImage
image_on roots bytes = image_or roots (current_in bytes)

-- the bytes of a disk that can be opened: each open slot holds an image that a pool can have, and no two have one number
pub record IsSound (bytes : List ℕ) : Type 0 where
  pub size : length bytes ≡ disk_size
  pub good : (place : Place) (x : Saved) → slot_in bytes place ≡ Some x → IsGoodImage x.image
  pub one : IsCurrent bytes (current_in bytes)

-- a disk that can be opened, and has this image
pub record Holds (roots : List RootPrefix) (bytes : List ℕ) (image : PoolImage) : Type 0 where
  pub sound : IsSound bytes
  pub has : image_on roots bytes ≡ image
