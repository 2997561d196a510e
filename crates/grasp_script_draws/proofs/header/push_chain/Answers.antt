use Rattle.std.proofs.Common.{[], ◌∷◌, ◌+◌, refl}
use Rattle.grasp_script_draws.specs.Generator.{chain_lines, link_line}
use Rattle.grasp_script_draws.proofs.LinesWritten.{none_pushed, next_pushed}
use Rattle.grasp_script_draws.proofs.header.push_chain.Goals as goal

pub loop-node-init : goal.loop-node-init
loop-node-init c = none_pushed _

pub loop-node-preserved : goal.loop-node-preserved
loop-node-preserved c = next_pushed chain_lines c.loop-node.node (link_line (c.loop-node.node + 1) (c.loop-node.node + 2) ∷ []) _ _ _ refl c.loop-node.invariant c.in_ok-push_line.ensures
