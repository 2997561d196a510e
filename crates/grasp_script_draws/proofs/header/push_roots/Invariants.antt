use Rattle.std.proofs.Common.{◌≡◌, ◌++◌, string_bytes}
use Rattle.grasp_script_draws.specs.Generator.{lines_text, root_lines}
use Rattle.grasp_script_draws.proofs.header.push_roots.Given as goal

abbrev pub invariant-loop-node : goal.invariant-loop-node
invariant-loop-node l = string_bytes l.out ≡ string_bytes l.initial.out ++ lines_text (root_lines l.node)
