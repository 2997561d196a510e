use Rattle.std.proofs.Common.{rules, ◌≡◌, ◌+◌, ◌≤◌, ◌∙◌, [], length, subst, sym}
use Rattle.grasp_pool.specs.Holdings.{Holding}
use Rattle.grasp_pool.specs.Answers.{IsReopened}
use Rattle.grasp_pool.specs.Functions.{add, each, join, pool_of_image}
use Rattle.grasp_pool.specs.Listings.{AreDisjoint}
use Rattle.grasp_pool.specs.Pools.{IsPool}
use Rattle.grasp_pool.proofs.Opening.{disjoint_left, disjoint_right, image_opens, reopened_pool}
use Rattle.grasp_pool.proofs.pool.Pool.reopen.Goals as goal

pub fill-requires-clause-disjoint : goal.fill-requires-clause-disjoint
fill-requires-clause-disjoint c =
    let image = c.args.image.now
    in subst AreDisjoint (sym c.slice-free.ensures) (disjoint_left image.free image.doubtful c.in_default.ensures)

pub insert_all-requires-clause-disjoint : goal.insert_all-requires-clause-disjoint
insert_all-requires-clause-disjoint c =
    let image = c.args.image.now
    in subst AreDisjoint (sym c.slice-doubtful.ensures) (disjoint_right image.free image.doubtful c.in_default.ensures)

abbrev made : goal.After-insert_all → Holding
made c = record { free = c.fill.new.list; reserved = c.pool.inside.reserved.items; doubtful = c.insert_all.new.list.items }

is_made : (c : goal.After-insert_all) → made c ≡ pool_of_image c.args.image.now
is_made c =
    let was = c.pool.view_is ∙ c.in_ok-pool.ensures
    in let free = c.fill.ensures ∙ λ i. each join (c.slice-free.ensures i) []
    in let doubtful = c.insert_all.ensures.is ∙ λ i. each add (c.slice-doubtful.ensures i) []
    in λ i. record { free = free i; reserved = (was i).reserved; doubtful = doubtful i }

opens : (c : goal.After-insert_all) → IsReopened c.args.image.now (pool_of_image c.args.image.now)
opens c =
    let few : length c.args.image.now.free + length c.args.image.now.doubtful ≤ 4096 = search rules
    in image_opens c.args.image.now few c.in_default.ensures

pool : (c : goal.After-insert_all) → IsPool (made c)
pool c = subst IsPool (sym (is_made c)) (reopened_pool c.args.image.now (opens c))

pub invariant_of-pool : goal.invariant_of-pool
invariant_of-pool c = record { pool = pool c; reserved_memory = c.pool.invariant.reserved_memory; doubtful_memory = search rules }

pub returns-clause-pool : goal.returns-clause-pool
returns-clause-pool c = pool c

pub returns-clause-reopened : goal.returns-clause-reopened
returns-clause-reopened c = subst (λ (h : Holding). IsReopened c.args.image.now h) (sym (is_made c)) (opens c)
