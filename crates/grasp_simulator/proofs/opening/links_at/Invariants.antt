use Rattle.std.proofs.Common.{◌≡◌, take}
use Rattle.grasp_model_network.specs.Setting.{script_links}
use Rattle.grasp_simulator.proofs.opening.links_at.Given as goal

-- those before this one
abbrev pub invariant-loop-line : goal.invariant-loop-line
invariant-loop-line l = l.lists ≡ script_links l.node (take l.line-index l.links)
