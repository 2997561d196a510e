use Rattle.std.proofs.Common.{◌≡◌, take}
use Rattle.grasp_model_network.proofs.copies.copy_of_links.Given as goal

-- those before this one
abbrev pub invariant-loop-line : goal.invariant-loop-line
invariant-loop-line l = l.copy ≡ take l.line-index l.links
