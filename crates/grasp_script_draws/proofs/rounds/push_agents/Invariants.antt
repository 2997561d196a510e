use Rattle.std.proofs.Common.{◌≡◌, ◌++◌, string_bytes}
use Rattle.grasp_script_draws.specs.Generator.{lines_text, agent_lines}
use Rattle.grasp_script_draws.proofs.rounds.push_agents.Given as goal

abbrev pub invariant-loop-time : goal.invariant-loop-time
invariant-loop-time l = string_bytes l.out ≡ string_bytes l.initial.out ++ lines_text (agent_lines l._time l.node)
