use Rattle.std.proofs.Common.{◌≤◌}
use Rattle.grasp_node_main.specs.Steps.{Looped}
use Rattle.grasp_node_main.specs.Tells.{told, links_told}
use Rattle.grasp_node_main.proofs.beside.run_loop.Given as goal

-- so many turns were made, and the last reading of them isn't behind the clock's
abbrev pub invariant-loop-turn : goal.invariant-loop-turn
invariant-loop-turn g l =
    (Looped l.shared l.wait l._turn l.initial.root
    (told (g.C.Clock.readings l.initial.clock) (links_told g.L.Links l.initial.links))
    l.now l.root
    (told (g.C.Clock.readings l.clock) (links_told g.L.Links l.links)))
    × (l.now ≤ g.C.Clock.latest l.clock)
