use Rattle.std.proofs.Common.{◌≡◌, ◌++◌, map, decimal, string_bytes, take}
use Rattle.grasp_text.specs.Words.{spaced}
use Rattle.grasp_script_draws.proofs.lines.push_line.Given as goal

abbrev pub invariant-loop-number : goal.invariant-loop-number
invariant-loop-number l = string_bytes l.out ≡ string_bytes l.initial.out ++ spaced (map decimal (take l.number-index l.numbers))
