-- The roots of a node of a good plan open a pool.
use Rattle.std.proofs.Common.{◌≡◌, ◌==◌, ◌<◌, ◌≤◌, ℕ, refl, sym, ◌∙◌, ap, subst, arith, List, length, filter, slice_index_or, AllPairs}
use Rattle.std.proofs.lemmas.List.{get_or_default, length-map}
use Rattle.std.proofs.lemmas.List.Elements.{All-filter, All-map}
use Rattle.std.proofs.lemmas.List.Kept.{AllPairs-filter}
use Rattle.std.proofs.Math.ListN.{get_or-map}
use Rattle.grasp_cbor.proofs.Facts.Lists.{length_filter}
use Rattle.grasp_pool.specs.Answers.{IsRootFault}
use Rattle.grasp_pool.specs.Roots.{block_of, AllValid, AllApart}
use Rattle.grasp_pool.specs.Spans.{IsValid, Apart}
use Rattle.grasp_pool.specs.declared.fault.PoolFault.{PoolFault}
use Rattle.grasp_pool.specs.declared.fault.PoolFault.TheVariants.{TooMany, BadRoot, Overlap, OutOfMemory}
use Rattle.grasp_pool.specs.declared.roots.RootPrefix.{RootPrefix}
use Rattle.grasp_model_network.specs.Plans.{IsGoodPlan, AreApart}
use Rattle.grasp_model_network.specs.Setting.{script_roots}
use Rattle.grasp_model_network.specs.declared.plan.RootAt.{RootAt}
use Rattle.grasp_model_network.specs.declared.plan.WorldPlan.{WorldPlan}

-- the plan's roots at this node
abbrev kept : WorldPlan → ℕ → List RootAt
kept p k = filter (λ r. r.node == k) p.roots

abbrev root_at : RootPrefix → RootAt
root_at d = record { node = 0; root = d }

pub roots_few : (p : WorldPlan) (k : ℕ) → IsGoodPlan p → length (script_roots p.roots k) ≤ 1024
roots_few p k good =
    let a : length (script_roots p.roots k) ≡ length (kept p k) = length-map (kept p k) (λ r. r.root) in
    let b : length (kept p k) ≤ length p.roots = length_filter (λ r. r.node == k) p.roots in
    let m : length p.roots ≤ 1024 = good.few_roots in omega arith

pub roots_valid : (p : WorldPlan) (k : ℕ) → IsGoodPlan p → AllValid (script_roots p.roots k) (length (script_roots p.roots k))
roots_valid p k good i d lt within =
    All-map (λ r. IsValid (block_of r)) (λ r. r.root) (kept p k)
    (All-filter (λ r. r.node == k) (λ r. IsValid (block_of r.root)) p.roots (λ j e h. (good.roots j e h).valid))
    i d within

-- a root of the node, by its place
root_in : (p : WorldPlan) (k i : ℕ) (d e : RootPrefix) → i < length (kept p k) → slice_index_or (script_roots p.roots k) i e ≡ (slice_index_or (kept p k) i (root_at d)).root
root_in p k i d e h = get_or-map (λ r. r.root) (kept p k) i (root_at e) ∙ ap (λ (r : RootAt). r.root) (get_or_default (kept p k) i (root_at e) (root_at d) h)

pub roots_apart : (p : WorldPlan) (k : ℕ) → IsGoodPlan p → AllApart (script_roots p.roots k) (length (script_roots p.roots k))
roots_apart p k good j d lt within i e below before =
    let same : length (script_roots p.roots k) ≡ length (kept p k) = length-map (kept p k) (λ r. r.root) in
    let pairs : AllPairs AreApart (kept p k) = AllPairs-filter AreApart (λ r. r.node == k) p.roots good.apart in
    subst (λ (r : RootPrefix). Apart (block_of r) (block_of (slice_index_or (script_roots p.roots k) j d))) (sym (root_in p k i d e (omega arith)))
    (subst (λ (r : RootPrefix). Apart (block_of (slice_index_or (kept p k) i (root_at d)).root) (block_of r)) (sym (root_in p k j d d (omega arith)))
    (pairs i j (root_at d) below (omega arith)))

-- a pool of them is refused for want of memory alone
pub no_fault : (p : WorldPlan) (k : ℕ) → IsGoodPlan p → (fault : PoolFault) → IsRootFault (script_roots p.roots k) fault → fault ≡ OutOfMemory
no_fault p k good TooMany h = absurd (let few : length (script_roots p.roots k) ≤ 1024 = roots_few p k good in omega arith)
no_fault p k good (BadRoot i) h = let d : RootPrefix = record { address = 0; length = 0 } in absurd (h.1.bad d (roots_valid p k good i d h.1.within h.1.within))
no_fault p k good (Overlap i j) h =
    let d : RootPrefix = record { address = 0; length = 0 } in
    let within : j < length (script_roots p.roots k) = h.2.within in
    let hit = h.2.hit d in
    let below : i < j = hit.within in
    let meets = hit.meets d in
    absurd (roots_apart p k good j d within within i d below (omega arith) meets.0 meets.1.0 meets.1.1)
no_fault p k good OutOfMemory h = refl
