use Rattle.std.proofs.Common.{◌-◌, Ok, sym, ap, subst, ◌∙◌, arith}
use Rattle.grasp_cbor.specs.Step.{ended, levels_in}
use Rattle.grasp_cbor.specs.Walking.{Made}
use Rattle.grasp_cbor.proofs.Levels.{none_of, broken_here}
use Rattle.grasp_cbor.proofs.walker.Walk.end_break.Goals as goal

pub returns-clause-made : goal.returns-clause-made
returns-clause-made c =
    let none = none_of c.args.self.now.string (sym c.is_some.ensures ∙ c.if-is_some.false) in
    let q = broken_here c.args.self.now.depth c.args.self.now.levels c.args.self.now.string none (omega arith) in
    subst (λ m. Made c.settle-2.new.self (Ok c.settle-2.result) m) (ap (λ z. ended (levels_in (c.args.self.now.depth - 1) c.args.self.now.levels) z) none ∙ sym q) c.settle-2.ensures.made
