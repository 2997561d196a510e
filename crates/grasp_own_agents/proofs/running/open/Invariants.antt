use Rattle.grasp_own_agents.specs.Running.{Opened}
use Rattle.grasp_own_agents.proofs.running.open.Given as goal

-- so many opening calls of each agent were made
abbrev pub invariant-loop-i : goal.invariant-loop-i
invariant-loop-i g l = Opened g.A.Agent l.i l.initial.core l.initial.agents l.core l.agents
