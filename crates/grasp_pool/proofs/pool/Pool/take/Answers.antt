use Rattle.std.proofs.Common.{rules, ◌≡◌, ◌≤◌, ◌∙◌, Some, sym, subst}
use Rattle.grasp_pool.specs.Holdings.{Holding}
use Rattle.grasp_pool.specs.Functions.{after_take}
use Rattle.grasp_pool.specs.Pools.{IsPool, room_of}
use Rattle.grasp_pool.proofs.Meanings.{took_keeps, took_new}
use Rattle.grasp_pool.proofs.pool.Pool.take.Goals as goal

pub insert_prefix-requires-clause-is_new : goal.insert_prefix-requires-clause-is_new
insert_prefix-requires-clause-is_new c = took_new (record { free = c.self.inside.free; reserved = c.self.inside.reserved.items; doubtful = c.self.inside.doubtful.items })
    c.args.length c.in-Some.part c.self.invariant.pool c.requires.some c.requires.most (sym c.carve.ensures.reply ∙ c.in-Some.is)

abbrev before : goal.After-insert_prefix → Holding
before c = record { free = c.self.inside.free; reserved = c.self.inside.reserved.items; doubtful = c.self.inside.doubtful.items }

abbrev after : goal.After-insert_prefix → Holding
after c = record { free = c.carve.new.self; reserved = c.insert_prefix.new.list.items; doubtful = c.self.inside.doubtful.items }

pool : (c : goal.After-insert_prefix) → IsPool (after c)
pool c =
    let room : 128 ≤ room_of (before c) = search rules
    in let is : after c ≡ after_take (before c) c.args.length (Some c.in-Some.part)
    = λ i. record { free = c.carve.ensures.after i; reserved = c.insert_prefix.ensures.is i; doubtful = c.self.inside.doubtful.items }
    in subst IsPool (sym is) (took_keeps (before c) c.args.length c.in-Some.part c.self.invariant.pool c.requires.some c.requires.most room (sym c.carve.ensures.reply ∙ c.in-Some.is))

pub invariant_of-self-2 : goal.invariant_of-self-2
invariant_of-self-2 c = record { pool = pool c; reserved_memory = search rules; doubtful_memory = search rules }

pub returns-clause-pool : goal.returns-clause-pool
returns-clause-pool c = pool c
