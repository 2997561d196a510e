use Rattle.std.proofs.Common.{◌≡◌, ◌+◌, ◌-◌}
use Rattle.grasp_simulator.specs.Listening.{listener_from}
use Rattle.grasp_simulator.proofs.opening.listener.Given as goal

-- the node that listens at the locator, if there is one, is among the nodes that are left
abbrev pub invariant-loop-before : goal.invariant-loop-before
invariant-loop-before l = listener_from 1 l.nodes l.to ≡ listener_from (l.before + 1) (l.nodes - l.before) l.to
