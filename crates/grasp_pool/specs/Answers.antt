-- When a pool is opened, and when a call is refused.
use Rattle.std.specs.Prelude.{◌≡◌, ℕ, ◌+◌, ◌<◌, ◌≤◌, ◌↔◌, List, [], Contains, length}
use Rattle.grasp_types.specs.Prefix.{AddressBlock as Prefix}
use Rattle.grasp_pool.specs.Spans.{Covers}
use Rattle.grasp_pool.specs.declared.roots.RootPrefix.{RootPrefix}
use Rattle.grasp_pool.specs.declared.image.PoolImage.{PoolImage}
use Rattle.grasp_pool.specs.declared.fault.PoolFault.{PoolFault}
use Rattle.grasp_pool.specs.declared.fault.PoolFault.TheVariants.{TooMany, BadRoot, Overlap, OutOfMemory}
use Rattle.grasp_pool.specs.declared.fault.GainFault.{GainFault}
use Rattle.grasp_pool.specs.declared.fault.GainFault.TheVariants.{Overlaps, Full}
use Rattle.grasp_pool.specs.Holdings.{Holding, IsFree, IsNew}
use Rattle.grasp_pool.specs.Pools.{room_of, IsFirstOverlap}
use Rattle.grasp_pool.specs.Listings.{all_of, AreDisjoint, IsClashIn}
use Rattle.grasp_pool.specs.Roots.{AllValid, AllApart, IsRootAddress, IsBad, IsClash}

-- the free addresses are those of the roots, which are disjoint prefixes, and nothing else is held
pub record IsOpened (roots : List RootPrefix) (h : Holding) : Type 0 where
  pub few : length roots ≤ 1024
  pub valid : AllValid roots (length roots)
  pub apart : AllApart roots (length roots)
  pub free : (a : ℕ) → IsFree h a ↔ IsRootAddress roots a
  pub reserved : h.reserved ≡ []
  pub doubtful : h.doubtful ≡ []

-- why the roots are refused: the first of these that holds
abbrev pub IsRootFault : List RootPrefix → PoolFault → Type 0
IsRootFault roots TooMany = 1024 < length roots
IsRootFault roots (BadRoot i) = (length roots ≤ 1024) × IsBad roots i
IsRootFault roots (Overlap i j) = (length roots ≤ 1024) × AllValid roots (length roots) × IsClash roots (record { first = i; second = j })
IsRootFault roots OutOfMemory = (length roots ≤ 1024) × AllValid roots (length roots) × AllApart roots (length roots)

-- the free addresses are those of the image's free prefixes, its doubtful prefixes are those of the image, and nothing is reserved
pub record IsReopened (image : PoolImage) (h : Holding) : Type 0 where
  pub few : length image.free + length image.doubtful ≤ 4096
  pub disjoint : AreDisjoint (all_of image)
  pub free : (a : ℕ) → IsFree h a ↔ Covers image.free a
  pub reserved : h.reserved ≡ []
  pub doubtful : (q : Prefix) → Contains h.doubtful q ↔ Contains image.doubtful q

-- why an image is refused: the first of these that holds
abbrev pub IsImageFault : PoolImage → PoolFault → Type 0
IsImageFault image TooMany = 4096 < length image.free + length image.doubtful
IsImageFault image (BadRoot i) = ⊥
IsImageFault image (Overlap i j) = (length image.free + length image.doubtful ≤ 4096) × IsClashIn (all_of image) (record { first = i; second = j })
IsImageFault image OutOfMemory = (length image.free + length image.doubtful ≤ 4096) × AreDisjoint (all_of image)

-- why a prefix isn't gained
abbrev pub IsRefused : Holding → Prefix → GainFault → Type 0
IsRefused h p (Overlaps k) = IsFirstOverlap h p k
IsRefused h p Full = IsNew h p × (room_of h ≡ 0)
