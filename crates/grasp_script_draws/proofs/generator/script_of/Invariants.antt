use Rattle.std.proofs.Common.{◌≡◌, ◌++◌, string_bytes}
use Rattle.grasp_script_draws.specs.Generator.{lines_text, header_lines, rounds, number_behind}
use Rattle.grasp_script_draws.proofs.generator.script_of.Given as goal

abbrev pub invariant-loop-i : goal.invariant-loop-i
invariant-loop-i l = record {
  text : string_bytes l.out ≡ lines_text (header_lines ++ rounds l.i l.number);
  number : l.numbers.last ≡ number_behind l.i l.number;
}
