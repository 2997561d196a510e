-- Roots with which a pool opens, and roots with which it doesn't.
use Rattle.std.proofs.Common.{◌≡◌, ◌<◌, ◌≤◌, List, length, Err, refl, arith}
use Rattle.grasp_pool.specs.Answers.{IsRootFault}
use Rattle.grasp_pool.specs.declared.fault.PoolFault.{PoolFault}
use Rattle.grasp_pool.specs.declared.fault.PoolFault.TheVariants.{TooMany, BadRoot, Overlap, OutOfMemory}
use Rattle.grasp_pool.specs.declared.roots.RootPrefix.{RootPrefix}
use Rattle.grasp_config.specs.Config.{AreRoots}
use Rattle.grasp_config.specs.Answered.{fault_of}
use Rattle.grasp_config.specs.Faults.{IfBadConfig}
use Rattle.grasp_config.specs.declared.fault.ConfigKey.TheVariants as key

abbrev pub no_root : RootPrefix
no_root = record { address = 0; length = 0 }

-- the roots are bad where the fault says so
pub refused_roots : (roots : List RootPrefix) (fault : PoolFault) → IsRootFault roots fault → IfBadConfig {A = Unit {0}} (Err (fault_of fault)) (λ k. (k ≡ key.Roots) × (¬ AreRoots roots))
refused_roots roots TooMany many = (refl, λ good. let few : length roots ≤ 1024 = good.few in absurd (omega (arith, many, few)))
refused_roots roots (BadRoot i) bad = (refl, λ good. bad.1.bad no_root (good.valid i no_root bad.1.within bad.1.within))
refused_roots roots (Overlap i j) bad =
    let clash = bad.2 in
    let hit = clash.hit no_root in
    let meets = hit.meets no_root in
    let before : i < j = hit.within in
    let within : j < length roots = clash.within in
    (refl, λ good. good.apart j no_root within within i no_root before (omega (arith, before, within)) meets.0 meets.1.0 meets.1.1)
refused_roots roots OutOfMemory bad = tt
