use Rattle.std.proofs.Common.{◌≡◌, ◌++◌, drop}
use Rattle.grasp_model_node.specs.Queue.{ways_on}
use Rattle.grasp_core.proofs.ways.push_ways.Given as goal

-- the ways so far and those to the neighbours from this one on
abbrev pub invariant-loop-to : goal.invariant-loop-to
invariant-loop-to l = l.ways.items ++ ways_on l.link l.to (drop l.to l.neighbours) ≡ l.fn.ways.items ++ ways_on l.link 0 l.neighbours
