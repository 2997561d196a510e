-- A pool is refused an image that it can have for want of memory alone.
use Rattle.std.proofs.Common.{◌≡◌, ◌≤◌, ◌<◌, ℕ, refl, arith, ◌+◌, length}
use Rattle.grasp_pool.specs.Answers.{IsImageFault}
use Rattle.grasp_pool.specs.Listings.{AreDisjoint, IsClashIn, all_of}
use Rattle.grasp_pool.specs.declared.fault.PoolFault.{PoolFault}
use Rattle.grasp_pool.specs.declared.fault.PoolFault.TheVariants.{TooMany, BadRoot, Overlap, OutOfMemory}
use Rattle.grasp_pool.specs.declared.image.PoolImage.{PoolImage}
use Rattle.grasp_types.specs.Prefix.{AddressBlock as Prefix}

no_clash : (image : PoolImage) (i j : ℕ) → AreDisjoint (all_of image) → IsClashIn (all_of image) (record { first = i; second = j }) → ⊥
no_clash image i j all clash =
    let d : Prefix = record { address = 0; length = 0 } in
    let hit = clash.hit d in
    let meets = hit.meets d in
    all.apart j d clash.within clash.within i d hit.within (let within : i < j = hit.within in let most : j < length (all_of image) = clash.within in omega arith) meets.0 meets.1.0 meets.1.1

pub no_fault : (image : PoolImage) → length image.free + length image.doubtful ≤ 4096 → AreDisjoint (all_of image) → (fault : PoolFault) → IsImageFault image fault → fault ≡ OutOfMemory
no_fault image few all TooMany h = absurd (omega (arith, few, h))
no_fault image few all (BadRoot i) h = absurd h
no_fault image few all (Overlap i j) h = absurd (no_clash image i j all h.1)
no_fault image few all OutOfMemory h = refl
