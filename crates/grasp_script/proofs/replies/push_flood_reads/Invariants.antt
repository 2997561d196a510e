use Rattle.std.proofs.Common.{◌≡◌, ◌++◌, take, string_bytes}
use Rattle.grasp_script.specs.Answers.{all_flood_read_words}
use Rattle.grasp_text.specs.Words.{spaced}
use Rattle.grasp_script.proofs.replies.push_flood_reads.Given as goal

abbrev pub invariant-loop-i : goal.invariant-loop-i
invariant-loop-i l = string_bytes l.out ≡ string_bytes l.fn.out ++ spaced (all_flood_read_words (take l.i l.reads))
