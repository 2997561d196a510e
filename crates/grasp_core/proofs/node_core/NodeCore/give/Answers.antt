use Rattle.std.proofs.Common.{◌≤◌, ◌∙◌, List, length, subst}
use Rattle.grasp_cbor.proofs.Facts.Options.{on_err}
use Rattle.grasp_types.specs.declared.traffic.Output.{Output}
use Rattle.grasp_core.proofs.SomethingGiven.{closing_given, drained_is}
use Rattle.grasp_core.proofs.node_core.NodeCore.give.Goals as goal

pub returns-clause-outputs : goal.returns-clause-outputs
returns-clause-outputs c n h =
    c.in_ok-outputs.ensures.are ∙ drained_is c.args.self.now.queue c.deref.result.now n c.args.max h.queue (c.deref.ensures.value ∙ c.in_ok-numbers.ensures.is n h)

pub returns-clause-ok : goal.returns-clause-ok
returns-clause-ok c n h = c.let_go.ensures n h (c.deref-2.ensures.value ∙ c.in_ok-numbers.ensures.is n h)

-- a drain that runs out of memory has something to give

pub returns-in_err-numbers-clause-wanted : goal.returns-in_err-numbers-clause-wanted
returns-in_err-numbers-clause-wanted c = on_err c.from_residual.result (λ n h. closing_given n c.args.max (c.in_err-numbers.ensures.wanted n h))

pub returns-in_err-outputs-clause-wanted : goal.returns-in_err-outputs-clause-wanted
returns-in_err-outputs-clause-wanted c =
    on_err c.from_residual-in_err-outputs.result
    (λ n h.
    subst (λ (l : List Output). 1 ≤ length l)
    (drained_is c.args.self.now.queue c.deref.result.now n c.args.max h.queue (c.deref.ensures.value ∙ c.in_ok-numbers.ensures.is n h))
    c.in_err-outputs.ensures.wanted)
