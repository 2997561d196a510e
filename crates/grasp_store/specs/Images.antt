-- The image that is kept of an agent's pool (RFC 8992, sections 4.1 and 4.2).
use Rattle.std.specs.Prelude.{◌+◌, ◌≤◌, ◌==◌, ◌&&◌, Bool, length, Option, Some, None}
use Rattle.std.specs.Cmp.Lexicographic.{pointwise}
use Rattle.grasp_types.specs.Prefix.{AddressBlock as Prefix}
use Rattle.grasp_pool.specs.Functions.{add, each}
use Rattle.grasp_pool.specs.Holdings.{Holding}
use Rattle.grasp_pool.specs.Listings.{AreDisjoint, all_of}
use Rattle.grasp_pool.specs.declared.image.PoolImage.{PoolImage}
use Rattle.grasp_agent.specs.States.{AgentState, accepted_by}

-- a pool can have the image
pub record IsGoodImage (image : PoolImage) : Type 0 where
  pub few : length image.free + length image.doubtful ≤ 4096
  pub disjoint : AreDisjoint (all_of image)

-- the image of a pool: what is free is to be free, and what is reserved or in doubt is to be in doubt, each in rising order
abbrev pub image_of : Holding → PoolImage
image_of h = record { free = h.free; doubtful = each add h.reserved h.doubtful }

-- the image with a prefix in doubt besides
abbrev pub with_doubt : Prefix → PoolImage → PoolImage
with_doubt p image = record { free = image.free; doubtful = add p image.doubtful }

-- the image where this prefix is about to be accepted
abbrev pub image_accepting : Option Prefix → PoolImage → PoolImage
image_accepting None image = image
image_accepting (Some p) image = with_doubt p image

-- the image that is kept while the agent makes its next call: that of its pool, with the prefix in doubt that the call accepts
abbrev pub image_before : AgentState → PoolImage
image_before s = image_accepting (accepted_by s.act) (image_of s.pool)

-- the image that is kept behind a call
abbrev pub image_behind : AgentState → PoolImage
image_behind s = image_of s.pool

-- the two are one prefix
abbrev pub is_same_prefix : Prefix → Prefix → Bool
is_same_prefix p q = (p.address == q.address) && (p.length == q.length)

-- the two have the same prefixes in the same order
abbrev pub is_same_image : PoolImage → PoolImage → Bool
is_same_image x y = pointwise is_same_prefix x.free y.free && pointwise is_same_prefix x.doubtful y.doubtful
