use Rattle.std.proofs.Common.{◌≡◌, replicate, None}
use Rattle.grasp_node_main.proofs.manager.Manager.open.Given as goal

abbrev pub invariant-loop-want : goal.invariant-loop-want
invariant-loop-want l = l.ends.items ≡ replicate l._want-index None
