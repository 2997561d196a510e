use Rattle.std.proofs.Common.{◌≡◌, ◌++◌, take, string_bytes}
use Rattle.grasp_text.specs.Words.{spaced}
use Rattle.grasp_node_main.specs.Lines.{list_of, prefix_words}
use Rattle.grasp_node_main.proofs.lines.push_prefixes.Given as goal

abbrev pub invariant-loop-place : goal.invariant-loop-place
invariant-loop-place l = string_bytes l.out ≡ string_bytes l.fn.out ++ spaced (prefix_words (take l.place (list_of l.list l.pool)))
