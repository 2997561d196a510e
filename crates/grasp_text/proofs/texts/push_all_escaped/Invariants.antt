use Rattle.std.proofs.Common.{◌≡◌, ◌++◌, take, string_bytes}
use Rattle.grasp_text.specs.Line.{all_escaped}
use Rattle.grasp_text.proofs.texts.push_all_escaped.Given as goal

abbrev pub invariant-loop-byte : goal.invariant-loop-byte
invariant-loop-byte l = string_bytes l.out ≡ string_bytes l.fn.out ++ all_escaped (take l.byte-index l.bytes)
