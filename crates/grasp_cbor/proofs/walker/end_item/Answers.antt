use Rattle.std.proofs.Common.{sym, ap, ◌∙◌, arith}
use Rattle.grasp_cbor.specs.Step.{finished, levels_in}
use Rattle.grasp_cbor.proofs.Levels.{finished_here}
use Rattle.grasp_cbor.proofs.walker.end_item.Goals as goal

pub returns-in-Some-clause-open : goal.returns-in-Some-clause-open
returns-in-Some-clause-open c =
    λ z. let i = c.loop-open.invariant in
    let d = i.0 in
    let len = i.2 in
    let r = c.requires in
    i.3 ∙ ap (λ xs. finished (levels_in c.loop-open.open xs)) (sym i.1) ∙ finished_here c.loop-open.open c.loop-open.levels c.in-Some.level z (omega arith) (sym c.in-Some.ensures)
