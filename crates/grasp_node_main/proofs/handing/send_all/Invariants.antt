use Rattle.std.proofs.Common.{take}
use Rattle.grasp_node_main.specs.Tells.{HandsOnly, links_told}
use Rattle.grasp_node_main.proofs.handing.send_all.Given as goal

-- the outputs so far were handed over
abbrev pub invariant-loop-output : goal.invariant-loop-output
invariant-loop-output g l =
    HandsOnly (links_told g.L.Links l.initial.links)
    (take l.output-index l.outputs)
    (links_told g.L.Links l.links)
