use Rattle.std.proofs.Common.{take}
use Rattle.std.specs.List.{AllByRecursion}
use Rattle.grasp_audit.specs.Numbers.{OutputFits}
use Rattle.grasp_audit.proofs.numbers.outputs_fit.Given as goal

abbrev pub invariant-loop-output : goal.invariant-loop-output
invariant-loop-output l = AllByRecursion OutputFits (take l.output-index l.outputs)
