use Rattle.std.proofs.Common.{◌≡◌, ◌++◌, take, string_bytes}
use Rattle.grasp_text.specs.Words.{spaced}
use Rattle.grasp_record.specs.Answers.{all_output_words}
use Rattle.grasp_record.proofs.writing.push_outputs.Given as goal

abbrev pub invariant-loop-i : goal.invariant-loop-i
invariant-loop-i l = string_bytes l.out ≡ string_bytes l.fn.out ++ spaced (all_output_words (take l.i l.outputs))
