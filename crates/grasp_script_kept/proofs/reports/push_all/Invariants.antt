use Rattle.std.proofs.Common.{◌≡◌, ◌++◌, take, string_bytes}
use Rattle.grasp_text.specs.Words.{spaced}
use Rattle.grasp_script.specs.Answers.{prefix_words}
use Rattle.grasp_script_kept.proofs.reports.push_all.Given as goal

abbrev pub invariant-loop-i : goal.invariant-loop-i
invariant-loop-i l = string_bytes l.out ≡ string_bytes l.fn.out ++ spaced (prefix_words (take l.i l.prefixes))
