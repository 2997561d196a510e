use Rattle.std.proofs.Common.{rules, sym, ◌∙◌, ◌≡◌, ◌≤◌, ◌+◌, length, drop}
use Rattle.grasp_pool.specs.Functions.{any_overlaps}
use Rattle.grasp_doubter.proofs.Listed.{overlaps_here, overlaps_none, overlaps_on}
use Rattle.grasp_doubter.proofs.prefixes.any_overlaps.Goals as goal

pub returns-then-is_overlap : goal.returns-then-is_overlap
returns-then-is_overlap c =
    sym (sym c.loop-i.invariant ∙ overlaps_here c.args.list.now c.loop-i.i c.args.prefix c.index-list-i.result (search rules) (search rules) (search rules))

pub loop-i-preserved : goal.loop-i-preserved
loop-i-preserved c =
    let on : any_overlaps (drop (c.loop-i.i + 1) c.args.list.now) c.args.prefix ≡ any_overlaps c.args.list.now c.args.prefix = sym (overlaps_on c.args.list.now c.loop-i.i c.args.prefix c.index-list-i.result (search rules) (search rules) (search rules)) ∙ c.loop-i.invariant in on

pub returns : goal.returns
returns c =
    let past : length c.args.list.now ≤ c.loop-i.i = search rules
    in sym (sym c.loop-i.invariant ∙ overlaps_none c.args.list.now c.loop-i.i c.args.prefix past)
