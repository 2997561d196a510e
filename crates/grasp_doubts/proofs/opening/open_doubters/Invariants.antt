use Rattle.grasp_doubts.specs.Opening.{AreOpenedTo}
use Rattle.grasp_doubts.proofs.opening.open_doubters.Given as goal

-- the doubters of the nodes before this one have made their opening calls
abbrev pub invariant-loop-before : goal.invariant-loop-before
invariant-loop-before l = AreOpenedTo l.plan l.before l.world l.doubters.items
