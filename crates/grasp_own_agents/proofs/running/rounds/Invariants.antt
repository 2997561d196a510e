use Rattle.grasp_node_main.specs.Tells.{told, links_told}
use Rattle.grasp_own_agents.specs.Running.{Went}
use Rattle.grasp_own_agents.proofs.running.rounds.Given as goal

-- so many turns were made
abbrev pub invariant-loop-i : goal.invariant-loop-i
invariant-loop-i g l =
    Went g.A.Agent l.i l.wait l.initial.core l.initial.agents (told (g.C.Clock.readings l.initial.clock) (links_told g.L.Links l.initial.links)) l.now
    l.core l.agents (told (g.C.Clock.readings l.clock) (links_told g.L.Links l.links))
