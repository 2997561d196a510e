use Rattle.std.proofs.Common.{◌∙◌, sym, arith}
use Rattle.grasp_model_node.specs.Draws.{is_used}
use Rattle.grasp_core.proofs.Drawn.{unused_none, unused_here}
use Rattle.grasp_core.proofs.node_core.NodeCore.unused.Goals as goal

pub returns-then-not-uses : goal.returns-then-not-uses
returns-then-not-uses c = λ n st. sym (unused_here (is_used n) c.loop-left.left c.loop-left.number (omega arith) (sym (c.uses.ensures n st) ∙ c.if-not-uses.true)) ∙ c.loop-left.invariant n st

pub returns : goal.returns
returns c = λ n st. sym (unused_none (is_used n) c.loop-left.left c.loop-left.number (omega arith)) ∙ c.loop-left.invariant n st
