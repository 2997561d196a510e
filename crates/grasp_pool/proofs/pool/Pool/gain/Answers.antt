use Rattle.std.proofs.Common.{rules, ◌≡◌, ◌<◌, ◌∙◌, subst, sym, ap, Bool, cond}
use Rattle.grasp_pool.specs.Holdings.{Holding, IsNew}
use Rattle.grasp_pool.specs.Functions.{after_gain}
use Rattle.grasp_pool.specs.Parts.{ApartFrom}
use Rattle.grasp_pool.specs.Pools.{IsPool, room_of, entries}
use Rattle.grasp_pool.proofs.Meeting.{new_of, first_overlap_of, first_meets, entry_free, pos_of}
use Rattle.grasp_pool.proofs.Meanings.{gain_keeps}
use Rattle.grasp_pool.proofs.Gaining.{can_gain_so, can_gain_not, none_full}
use Rattle.grasp_pool.proofs.pool.Pool.gain.Goals as goal

pub returns-in-Some-clause-answers : goal.returns-in-Some-clause-answers
returns-in-Some-clause-answers c = can_gain_not c.args.self.now c.args.prefix (λ h. first_meets c.args.self.now c.args.prefix c.in-Some.kept c.in-Some.ensures.first h.0)

pub returns-in-Some-clause-refused : goal.returns-in-Some-clause-refused
returns-in-Some-clause-refused c = first_overlap_of c.args.self.now c.in-Some.ensures.pool c.args.prefix c.in-Some.kept c.in-Some.ensures.first

pub returns-in-Some-clause-after : goal.returns-in-Some-clause-after
returns-in-Some-clause-after c = ap (λ (b : Bool). cond b (after_gain c.args.self.now c.args.prefix) c.args.self.now)
    (can_gain_not c.args.self.now c.args.prefix (λ h. first_meets c.args.self.now c.args.prefix c.in-Some.kept c.in-Some.ensures.first h.0))

pub returns-then-room-eq0-clause-answers : goal.returns-then-room-eq0-clause-answers
returns-then-room-eq0-clause-answers c = can_gain_not c.args.self.now c.args.prefix (none_full c.args.self.now c.args.prefix (sym c.if-room-eq0.true ∙ c.room.ensures.value))

pub returns-then-room-eq0-clause-refused : goal.returns-then-room-eq0-clause-refused
returns-then-room-eq0-clause-refused c = (new_of c.args.self.now c.args.prefix c.in_default.ensures.first, sym c.room.ensures.value ∙ c.if-room-eq0.true)

pub returns-then-room-eq0-clause-after : goal.returns-then-room-eq0-clause-after
returns-then-room-eq0-clause-after c = ap (λ (b : Bool). cond b (after_gain c.args.self.now c.args.prefix) c.args.self.now)
    (can_gain_not c.args.self.now c.args.prefix (none_full c.args.self.now c.args.prefix (sym c.if-room-eq0.true ∙ c.room.ensures.value)))

pub merge_in-requires-clause-apart : goal.merge_in-requires-clause-apart
merge_in-requires-clause-apart c =
    let h : Holding = record { free = c.self.inside.free; reserved = c.self.inside.reserved.items; doubtful = c.self.inside.doubtful.items }
    in let all : ApartFrom (entries h) c.args.prefix = subst (λ (v : Holding). ApartFrom (entries v) c.args.prefix) (sym c.self.view_is) c.in_default.ensures.first
    in λ q k. all q (entry_free h q k)

abbrev before : goal.After-merge_in → Holding
before c = record { free = c.self.inside.free; reserved = c.self.inside.reserved.items; doubtful = c.self.inside.doubtful.items }

abbrev after : goal.After-merge_in → Holding
after c = record { free = c.merge_in.new.self; reserved = c.self.inside.reserved.items; doubtful = c.self.inside.doubtful.items }

is_after : (c : goal.After-merge_in) → after c ≡ after_gain (before c) c.args.prefix
is_after c = λ i. record { free = c.merge_in.ensures i; reserved = c.self.inside.reserved.items; doubtful = c.self.inside.doubtful.items }

pool : (c : goal.After-merge_in) → IsPool (after c)
pool c =
    let new : IsNew (before c) c.args.prefix = subst (λ (h : Holding). IsNew h c.args.prefix) (sym c.self.view_is) (new_of c.args.self.now c.args.prefix c.in_default.ensures.first)
    in let room : 0 < room_of (before c)
    = subst (λ (h : Holding). 0 < room_of h) (sym c.self.view_is) (pos_of c.room.result (room_of c.args.self.now) c.room.ensures.value c.if-room-eq0.false)
    in subst IsPool (sym (is_after c)) (gain_keeps (before c) c.args.prefix c.self.invariant.pool (search rules) new room)

pub invariant_of-self : goal.invariant_of-self
invariant_of-self c = record { pool = pool c; reserved_memory = search rules; doubtful_memory = search rules }

pub returns-clause-pool : goal.returns-clause-pool
returns-clause-pool c = pool c

pub returns-clause-answers : goal.returns-clause-answers
returns-clause-answers c =
    can_gain_so c.args.self.now c.args.prefix (new_of c.args.self.now c.args.prefix c.in_default.ensures.first) (pos_of c.room.result _ c.room.ensures.value c.if-room-eq0.false)

pub returns-clause-after : goal.returns-clause-after
returns-clause-after c = is_after c ∙ ap (λ (h : Holding). after_gain h c.args.prefix) c.self.view_is
    ∙ ap (λ (b : Bool). cond b (after_gain c.args.self.now c.args.prefix) c.args.self.now)
    (can_gain_so c.args.self.now c.args.prefix (new_of c.args.self.now c.args.prefix c.in_default.ensures.first) (pos_of c.room.result _ c.room.ensures.value c.if-room-eq0.false))
