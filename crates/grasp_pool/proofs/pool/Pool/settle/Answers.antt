use Rattle.std.proofs.Common.{rules, ◌≡◌, Contains, subst, sym, inr}
use Rattle.grasp_pool.specs.Holdings.{Holding}
use Rattle.grasp_pool.specs.Functions.{after_settle}
use Rattle.grasp_pool.specs.Pools.{IsPool}
use Rattle.grasp_pool.proofs.Meanings.{settle_keeps}
use Rattle.grasp_pool.proofs.Changes.{listed_apart}
use Rattle.grasp_pool.proofs.pool.Pool.settle.Goals as goal

abbrev before : goal.After-merge_in → Holding
before c = record { free = c.self.inside.free; reserved = c.self.inside.reserved.items; doubtful = c.self.inside.doubtful.items }

abbrev after : goal.After-merge_in → Holding
after c = record { free = c.merge_in.new.self; reserved = c.self.inside.reserved.items; doubtful = c.drop_prefix.new.list.items }

pool : (c : goal.After-merge_in) → IsPool (after c)
pool c =
    let has = subst (λ (h : Holding). Contains h.doubtful c.args.prefix) (sym c.self.view_is) c.requires
    in let is : after c ≡ after_settle (before c) c.args.prefix = λ i. record { free = c.merge_in.ensures i; reserved = c.self.inside.reserved.items; doubtful = c.drop_prefix.ensures.is i }
    in subst IsPool (sym is) (settle_keeps (before c) c.args.prefix c.self.invariant.pool has)

pub invariant_of-self : goal.invariant_of-self
invariant_of-self c = record { pool = pool c; reserved_memory = search rules; doubtful_memory = search rules }

pub returns-clause-pool : goal.returns-clause-pool
returns-clause-pool c = pool c

pub merge_in-requires-clause-apart : goal.merge_in-requires-clause-apart
merge_in-requires-clause-apart c = listed_apart (record { free = c.self.inside.free; reserved = c.self.inside.reserved.items; doubtful = c.self.inside.doubtful.items })
    c.self.invariant.pool c.args.prefix (inr (subst (λ (h : Holding). Contains h.doubtful c.args.prefix) (sym c.self.view_is) c.requires))
