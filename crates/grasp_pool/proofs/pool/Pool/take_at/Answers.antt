use Rattle.std.proofs.Common.{rules, ◌≡◌, Bool, true, sym, subst}
use Rattle.grasp_pool.specs.Holdings.{Holding}
use Rattle.grasp_pool.specs.Functions.{take_at_reply, after_take_at}
use Rattle.grasp_pool.specs.Pools.{IsPool}
use Rattle.grasp_pool.proofs.TakingAt.{free_new, take_at_keeps}
use Rattle.grasp_pool.proofs.pool.Pool.take_at.Goals as goal

pub insert_prefix-requires-clause-is_new : goal.insert_prefix-requires-clause-is_new
insert_prefix-requires-clause-is_new c = free_new (record { free = c.self.inside.free; reserved = c.self.inside.reserved.items; doubtful = c.self.inside.doubtful.items })
    c.args.prefix c.self.invariant.pool c.address-address.ensures.valid (search rules)

abbrev before : goal.After-insert_prefix → Holding
before c = record { free = c.self.inside.free; reserved = c.self.inside.reserved.items; doubtful = c.self.inside.doubtful.items }

abbrev after : goal.After-insert_prefix → Holding
after c = record { free = c.carve_at.new.self; reserved = c.insert_prefix.new.list.items; doubtful = c.self.inside.doubtful.items }

pool : (c : goal.After-insert_prefix) → IsPool (after c)
pool c =
    let is : after c ≡ after_take_at (before c) c.args.prefix true
    = λ i. record { free = c.carve_at.ensures.after i; reserved = c.insert_prefix.ensures.is i; doubtful = c.self.inside.doubtful.items }
    in let yes : take_at_reply (before c) c.args.prefix ≡ true = search rules
    in subst IsPool (sym is) (subst (λ (b : Bool). IsPool (after_take_at (before c) c.args.prefix b)) yes (take_at_keeps (before c) c.args.prefix c.self.invariant.pool c.address-address.ensures.valid))

pub invariant_of-self-2 : goal.invariant_of-self-2
invariant_of-self-2 c = record { pool = pool c; reserved_memory = search rules; doubtful_memory = search rules }

pub returns-clause-pool : goal.returns-clause-pool
returns-clause-pool c = pool c
