use Rattle.std.proofs.Common.{◌≡◌, drop}
use Rattle.grasp_model_network.specs.Setting.{line_from}
use Rattle.grasp_simulator.proofs.ways.line_at.Given as goal

-- the line that is looked for is among the lines that are left
abbrev pub invariant-loop-i : goal.invariant-loop-i
invariant-loop-i l = line_from 0 l.node l.links l.link ≡ line_from l.i l.node (drop l.i l.links) l.left
