use Rattle.std.proofs.Common.{◌≡◌, ◌++◌, take, string_bytes}
use Rattle.grasp_text.specs.Words.{spaced}
use Rattle.grasp_node_main.specs.Lines.{all_flood_words}
use Rattle.grasp_node_main.proofs.lines.push_floods.Given as goal

abbrev pub invariant-loop-flood : goal.invariant-loop-flood
invariant-loop-flood l = string_bytes l.out ≡ string_bytes l.fn.out ++ spaced (all_flood_words (take l.flood-index l.flood-items))
