use Rattle.std.proofs.Common.{rules, ◌≡◌, ◌∙◌, subst, sym}
use Rattle.grasp_pool.specs.Holdings.{Holding}
use Rattle.grasp_pool.specs.Answers.{IsOpened}
use Rattle.grasp_pool.specs.Functions.{pool_of}
use Rattle.grasp_pool.specs.Pools.{IsPool}
use Rattle.grasp_pool.proofs.Opening.{roots_open, opened_pool}
use Rattle.grasp_pool.proofs.pool.Pool.open.Goals as goal

abbrev made : goal.After-fill_roots → Holding
made c = record { free = c.fill_roots.new.list; reserved = c.pool.inside.reserved.items; doubtful = c.pool.inside.doubtful.items }

is_made : (c : goal.After-fill_roots) → made c ≡ pool_of c.args.roots.now
is_made c =
    let was = c.pool.view_is ∙ c.in_ok-pool.ensures
    in λ i. record { free = c.fill_roots.ensures i; reserved = (was i).reserved; doubtful = (was i).doubtful }

opens : (c : goal.After-fill_roots) → IsOpened c.args.roots.now (pool_of c.args.roots.now)
opens c = roots_open c.args.roots.now (search rules) c.in_default.ensures c.in_default-first_root_clash.ensures

pool : (c : goal.After-fill_roots) → IsPool (made c)
pool c = subst IsPool (sym (is_made c)) (opened_pool c.args.roots.now (opens c))

pub invariant_of-pool : goal.invariant_of-pool
invariant_of-pool c = record { pool = pool c; reserved_memory = c.pool.invariant.reserved_memory; doubtful_memory = c.pool.invariant.doubtful_memory }

pub returns-clause-pool : goal.returns-clause-pool
returns-clause-pool c = pool c

pub returns-clause-opened : goal.returns-clause-opened
returns-clause-opened c = subst (λ (h : Holding). IsOpened c.args.roots.now h) (sym (is_made c)) (opens c)
