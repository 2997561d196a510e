use Rattle.grasp_own_agents.specs.Acting.{ActsSome}
use Rattle.grasp_own_agents.proofs.acting.act_all.Given as goal

-- so many agents made their calls
abbrev pub invariant-loop-i : goal.invariant-loop-i
invariant-loop-i g l = ActsSome g.A.Agent l.i l.initial.core l.initial.agents l.core l.agents
