use Rattle.std.proofs.Common.{◌≡◌, ◌++◌, map, take}
use Rattle.grasp_types.specs.declared.traffic.Output.TheVariants as output
use Rattle.grasp_core.proofs.draining.push_closings.Given as goal

-- the closings of those before this one were added
abbrev pub invariant-loop-number : goal.invariant-loop-number
invariant-loop-number l = l.outputs ≡ l.fn.outputs ++ map output.Close (take l.number-index l.numbers)
