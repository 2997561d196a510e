use Rattle.std.proofs.Common.{rules, ◌≡◌, Contains, subst, sym}
use Rattle.grasp_pool.specs.Holdings.{Holding}
use Rattle.grasp_pool.specs.Functions.{after_doubt}
use Rattle.grasp_pool.specs.Pools.{IsPool}
use Rattle.grasp_pool.proofs.Meanings.{doubt_keeps}
use Rattle.grasp_pool.proofs.Changes.{doubtful_address}
use Rattle.grasp_pool.proofs.pool.Pool.doubt.Goals as goal

abbrev before : goal.After-insert_prefix → Holding
before c = record { free = c.self.inside.free; reserved = c.self.inside.reserved.items; doubtful = c.self.inside.doubtful.items }

abbrev after : goal.After-insert_prefix → Holding
after c = record { free = c.self.inside.free; reserved = c.drop_prefix.new.list.items; doubtful = c.insert_prefix.new.list.items }

pool : (c : goal.After-insert_prefix) → IsPool (after c)
pool c =
    let has = subst (λ (h : Holding). Contains h.reserved c.args.prefix) (sym c.self.view_is) c.requires
    in let is : after c ≡ after_doubt (before c) c.args.prefix = λ i. record { free = c.self.inside.free; reserved = c.drop_prefix.ensures.is i; doubtful = c.insert_prefix.ensures.is i }
    in subst IsPool (sym is) (doubt_keeps (before c) c.args.prefix c.self.invariant.pool has)

pub invariant_of-self : goal.invariant_of-self
invariant_of-self c = record { pool = pool c; reserved_memory = search rules; doubtful_memory = search rules }

pub returns-clause-pool : goal.returns-clause-pool
returns-clause-pool c = pool c

pub insert_prefix-requires-clause-is_new : goal.insert_prefix-requires-clause-is_new
insert_prefix-requires-clause-is_new c = doubtful_address (record { free = c.self.inside.free; reserved = c.self.inside.reserved.items; doubtful = c.self.inside.doubtful.items })
    c.self.invariant.pool c.args.prefix (subst (λ (h : Holding). Contains h.reserved c.args.prefix) (sym c.self.view_is) c.requires)
