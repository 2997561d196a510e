use Rattle.std.proofs.Common.{rules, ◌≡◌, Contains, subst, sym}
use Rattle.grasp_pool.specs.Holdings.{Holding}
use Rattle.grasp_pool.specs.Functions.{after_confirm}
use Rattle.grasp_pool.specs.Pools.{IsPool}
use Rattle.grasp_pool.proofs.Meanings.{confirm_keeps}
use Rattle.grasp_pool.proofs.pool.Pool.confirm.Goals as goal

abbrev before : goal.After-drop_prefix → Holding
before c = record { free = c.self.inside.free; reserved = c.self.inside.reserved.items; doubtful = c.self.inside.doubtful.items }

abbrev after : goal.After-drop_prefix → Holding
after c = record { free = c.self.inside.free; reserved = c.drop_prefix.new.list.items; doubtful = c.self.inside.doubtful.items }

pool : (c : goal.After-drop_prefix) → IsPool (after c)
pool c =
    let has = subst (λ (h : Holding). Contains h.reserved c.args.prefix) (sym c.self.view_is) c.requires
    in let is : after c ≡ after_confirm (before c) c.args.prefix = λ i. record { free = c.self.inside.free; reserved = c.drop_prefix.ensures.is i; doubtful = c.self.inside.doubtful.items }
    in subst IsPool (sym is) (confirm_keeps (before c) c.args.prefix c.self.invariant.pool has)

pub invariant_of-self : goal.invariant_of-self
invariant_of-self c = record { pool = pool c; reserved_memory = search rules; doubtful_memory = search rules }

pub returns-clause-pool : goal.returns-clause-pool
returns-clause-pool c = pool c
