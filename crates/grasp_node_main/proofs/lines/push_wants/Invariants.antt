use Rattle.std.proofs.Common.{◌≡◌, ◌++◌, take, string_bytes}
use Rattle.grasp_node_main.specs.Lines.{wants_text}
use Rattle.grasp_node_main.proofs.lines.push_wants.Given as goal

abbrev pub invariant-loop-place : goal.invariant-loop-place
invariant-loop-place l = string_bytes l.out ≡ string_bytes l.fn.out ++ wants_text (take l.place l.wants) l.ends
