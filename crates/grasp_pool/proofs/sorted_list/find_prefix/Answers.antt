use Rattle.std.proofs.Common.{ℕ, ◌∙◌, subst}
use Rattle.grasp_pool.specs.Parts.{BeginBelow, BeginFrom}
use Rattle.grasp_pool.proofs.Lists.{absent_from}
use Rattle.grasp_pool.proofs.Equal.{differs}
use Rattle.grasp_pool.proofs.sorted_list.find_prefix.Goals as goal

pub returns-then-ne : goal.returns-then-ne
returns-then-ne c =
    let xs = c.args.list.now
    in let i = c.place_of-i.result
    in absent_from xs c.args.prefix i c.index-list-i.result c.requires
    (subst (λ (a : ℕ). BeginBelow xs i a) c.address.ensures.value c.place_of-i.ensures.below)
    (subst (λ (a : ℕ). BeginFrom xs i a) c.address.ensures.value c.place_of-i.ensures.above)
    (λ e. differs c.index-list-i.result c.args.prefix c.ne.result c.ne.ensures c.if-ne.true (c.index-list-i.is ∙ e))
