-- Prefixes in order, no two of which overlap: those of roots, or those of an image.
use Rattle.std.specs.Prelude.{ℕ, ◌<◌, List, ◌++◌, length, map, slice_index_or}
use Rattle.grasp_types.specs.Prefix.{AddressBlock as Prefix, Overlap}
use Rattle.grasp_pool.specs.Spans.{Apart, IsValid}
use Rattle.grasp_pool.specs.Roots.{block_of, AllValid}
use Rattle.grasp_pool.specs.declared.image.PoolImage.{PoolImage}
use Rattle.grasp_pool.specs.declared.listing.Listing.{Listing}
use Rattle.grasp_pool.specs.declared.listing.Listing.TheVariants.{Roots, Prefixes, Image}
use Rattle.grasp_pool.specs.declared.roots.Clash.{Clash}

-- the prefixes of an image: the free ones, and then the doubtful ones
abbrev pub all_of : PoolImage → List Prefix
all_of image = image.free ++ image.doubtful

-- Inside: the prefixes
abbrev pub listed : Listing → List Prefix
listed (Roots roots) = map block_of roots.now
listed (Prefixes prefixes) = prefixes.now
listed (Image image) = all_of image.now

-- Inside: each root of the listing is a prefix
abbrev pub CanTell : Listing → Type 0
CanTell (Roots roots) = AllValid roots.now (length roots.now)
CanTell _ = Unit {0}

-- each of the first n prefixes of the list is apart from p
abbrev pub ApartBelow : List Prefix → Prefix → ℕ → Type 0
ApartBelow ps p n = (k : ℕ) (d : Prefix) → k < n → k < length ps → Apart (slice_index_or ps k d) p

-- each of the first n of the list is a prefix, and apart from those before it
pub record DisjointBelow (ps : List Prefix) (n : ℕ) : Type 0 where
  pub valid : (k : ℕ) (d : Prefix) → k < n → k < length ps → IsValid (slice_index_or ps k d)
  pub apart : (k : ℕ) (d : Prefix) → k < n → k < length ps → ApartBelow ps (slice_index_or ps k d) k

-- the list has prefixes, no two of which overlap
abbrev pub AreDisjoint : List Prefix → Type 0
AreDisjoint ps = DisjointBelow ps (length ps)

-- the first prefix of the first n of the list that overlaps p
pub record IsHitIn (ps : List Prefix) (p : Prefix) (n i : ℕ) : Type 0 where
  pub within : i < n
  pub meets : (d : Prefix) → Overlap (slice_index_or ps i d) p
  pub before : ApartBelow ps p i

-- the least second prefix of the list that overlaps an earlier one, and the least such first
pub record IsClashIn (ps : List Prefix) (c : Clash) : Type 0 where
  pub within : c.second < length ps
  pub before : DisjointBelow ps c.second
  pub hit : (d : Prefix) → IsHitIn ps (slice_index_or ps c.second d) c.second c.first
