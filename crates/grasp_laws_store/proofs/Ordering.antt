-- The order of the images that are kept of an agent, and the image of a pool that is opened by one.
use Rattle.std.proofs.Common.{◌≡◌, List, Option, None, Some, refl, ap, ◌∙◌}
use Rattle.grasp_types.specs.Prefix.{AddressBlock as Prefix}
use Rattle.grasp_pool.specs.Answers.{IsReopened}
use Rattle.grasp_pool.specs.Functions.{each, pool_of_image}
use Rattle.grasp_pool.specs.Pools.{IsPool}
use Rattle.grasp_pool.specs.declared.image.PoolImage.{PoolImage}
use Rattle.grasp_pool.proofs.Maximal.{clean_canonical}
use Rattle.grasp_pool.proofs.Opening.{image_opens, reopened_pool}
use Rattle.grasp_pool.proofs.Unique.{one_canonical, same_members}
use Rattle.grasp_agent.specs.Kept.{IsKept, ActStands}
use Rattle.grasp_agent.specs.States.{AgentState, accepted_by}
use Rattle.grasp_agent.specs.declared.act.Act.{Act}
use Rattle.grasp_agent.specs.declared.act.Act.TheVariants as act
use Rattle.grasp_agent.proofs.Keeping.{act_stands}
use Rattle.grasp_store.specs.Images.{image_accepting, image_before, image_behind, image_of}
use Rattle.grasp_store.proofs.Images.{doubt_good, doubt_rising, image_good, listed_joined}
use Rattle.grasp_laws_store.specs.Ordering.{IsFitToKeep, ImagesAreInOrder, PoolsHaveTheirImages}

module _ (s : AgentState) (kept : IsKept s) where
  pub behind_fit : IsFitToKeep (image_behind s)
  behind_fit = record { good = image_good s.pool kept.pool; order = record { free = kept.pool.free; doubtful = (listed_joined s.pool kept.pool).rising } }

  pub before_fit : IsFitToKeep (image_before s)
  before_fit = of_act s.act refl
    where
      of_act : (o : Option Act) → s.act ≡ o → IsFitToKeep (image_accepting (accepted_by o) (image_of s.pool))
      of_act None is = behind_fit
      of_act (Some (act.Offer place h p)) is = behind_fit
      of_act (Some (act.Counter h n)) is = behind_fit
      of_act (Some (act.Decline h reason)) is = behind_fit
      of_act (Some (act.Accept h p)) is =
          let stands : ActStands s (act.Accept h p) = act_stands s (act.Accept h p) is kept
          in record {
            good = doubt_good s.pool kept.pool p stands.1 stands.2;
            order = record { free = kept.pool.free; doubtful = doubt_rising s.pool kept.pool p stands.1 stands.2 };
          }

pub images_are_in_order : ImagesAreInOrder
images_are_in_order = record { before = before_fit; behind = behind_fit }

pub pools_have_their_images : PoolsHaveTheirImages
unfolding each
pools_have_their_images image good order =
    let opens : IsReopened image (pool_of_image image) = image_opens image good.few good.disjoint
    in let pool : IsPool (pool_of_image image) = reopened_pool image opens
    in let f : (pool_of_image image).free ≡ image.free =
    one_canonical (pool_of_image image).free image.free (clean_canonical (pool_of_image image).free pool.free.clean pool.free.rising) (clean_canonical image.free order.free.clean order.free.rising) opens.free
    in let d : (pool_of_image image).doubtful ≡ image.doubtful =
    same_members (pool_of_image image).doubtful image.doubtful pool.doubtful order.doubtful (λ q. (opens.doubtful q).0) (λ q. (opens.doubtful q).1)
    in ap (λ (ps : List Prefix). with_parts ps (pool_of_image image).doubtful) f ∙ ap (with_parts image.free) d
  where
    with_parts : List Prefix → List Prefix → PoolImage
    with_parts free doubtful = record { free = free; doubtful = doubtful }
