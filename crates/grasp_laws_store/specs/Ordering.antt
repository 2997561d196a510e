-- The order of the images that are kept of an agent, and the image of a pool that is opened by one.
use Rattle.std.specs.Prelude.{◌≡◌}
use Rattle.grasp_pool.specs.Canonical.{IsRising, IsTidy}
use Rattle.grasp_pool.specs.Functions.{pool_of_image}
use Rattle.grasp_pool.specs.declared.image.PoolImage.{PoolImage}
use Rattle.grasp_agent.specs.Kept.{IsKept}
use Rattle.grasp_agent.specs.States.{AgentState}
use Rattle.grasp_store.specs.Images.{IsGoodImage, image_before, image_behind, image_of}

-- its free prefixes are the greatest ones, and both lists rise
pub record IsInOrder (image : PoolImage) : Type 0 where
  pub free : IsTidy image.free
  pub doubtful : IsRising image.doubtful

-- each image that is kept of an agent is one that a pool can have, and in order
pub record IsFitToKeep (image : PoolImage) : Type 0 where
  pub good : IsGoodImage image
  pub order : IsInOrder image

-- so it is of the image before its next call, and of that behind a call
pub record ImagesAreInOrder : Type 0 where
  pub before : (s : AgentState) → IsKept s → IsFitToKeep (image_before s)
  pub behind : (s : AgentState) → IsKept s → IsFitToKeep (image_behind s)

-- a pool that is opened by an image in order has this image
abbrev pub PoolsHaveTheirImages : Type 0
PoolsHaveTheirImages = (image : PoolImage) → IsGoodImage image → IsInOrder image → image_of (pool_of_image image) ≡ image
