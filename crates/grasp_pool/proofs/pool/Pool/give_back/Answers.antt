use Rattle.std.proofs.Common.{rules, ◌≡◌, Contains, subst, sym, inl, ◌<◌, ◌≤◌, ◌+◌, length, arith}
use Rattle.grasp_pool.specs.Holdings.{Holding}
use Rattle.grasp_pool.specs.Functions.{after_back}
use Rattle.grasp_pool.specs.Pools.{IsPool}
use Rattle.grasp_pool.proofs.Meanings.{back_keeps}
use Rattle.grasp_pool.proofs.Changes.{listed_apart}
use Rattle.grasp_pool.proofs.pool.Pool.give_back.Goals as goal

abbrev before : goal.After-merge_in → Holding
before c = record { free = c.self.inside.free; reserved = c.self.inside.reserved.items; doubtful = c.self.inside.doubtful.items }

abbrev after : goal.After-merge_in → Holding
after c = record { free = c.merge_in.new.self; reserved = c.drop_prefix.new.list.items; doubtful = c.self.inside.doubtful.items }

pool : (c : goal.After-merge_in) → IsPool (after c)
pool c =
    let has = subst (λ (h : Holding). Contains h.reserved c.args.prefix) (sym c.self.view_is) c.requires
    in let is : after c ≡ after_back (before c) c.args.prefix = λ i. record { free = c.merge_in.ensures i; reserved = c.drop_prefix.ensures.is i; doubtful = c.self.inside.doubtful.items }
    in subst IsPool (sym is) (back_keeps (before c) c.args.prefix c.self.invariant.pool has)

pub invariant_of-self : goal.invariant_of-self
invariant_of-self c = record { pool = pool c; reserved_memory = search rules; doubtful_memory = search rules }

pub returns-clause-pool : goal.returns-clause-pool
returns-clause-pool c = pool c

pub merge_in-requires-clause-room : goal.merge_in-requires-clause-room
merge_in-requires-clause-room c =
    let has : Contains c.self.inside.reserved.items c.args.prefix = subst (λ (h : Holding). Contains h.reserved c.args.prefix) (sym c.self.view_is) c.requires
    in let some : has.0 < length c.self.inside.reserved.items = has.1
    in let few : (length c.self.inside.free + length c.self.inside.reserved.items) + length c.self.inside.doubtful.items ≤ 4096 = c.self.invariant.pool.few
    in omega arith

pub merge_in-requires-clause-valid : goal.merge_in-requires-clause-valid
merge_in-requires-clause-valid c = c.self.invariant.pool.valid c.args.prefix (inl (subst (λ (h : Holding). Contains h.reserved c.args.prefix) (sym c.self.view_is) c.requires))

pub merge_in-requires-clause-apart : goal.merge_in-requires-clause-apart
merge_in-requires-clause-apart c = listed_apart (record { free = c.self.inside.free; reserved = c.self.inside.reserved.items; doubtful = c.self.inside.doubtful.items })
    c.self.invariant.pool c.args.prefix (inl (subst (λ (h : Holding). Contains h.reserved c.args.prefix) (sym c.self.view_is) c.requires))
