use Rattle.std.proofs.Common.{◌≡◌, ◌++◌, drop}
use Rattle.grasp_model_node.specs.Queue.{ways_from}
use Rattle.grasp_core.proofs.ways.all_ways.Given as goal

-- the ways so far and those of the links from this one on
abbrev pub invariant-loop-link : goal.invariant-loop-link
invariant-loop-link l = l.ways.items ++ ways_from l.link (drop l.link l.plan.links) ≡ ways_from 0 l.plan.links
