use Rattle.std.proofs.Common.{◌≡◌, ◌++◌, take, string_bytes}
use Rattle.std.specs.List.{AllByRecursion}
use Rattle.grasp_types.specs.Message.{IsFloodPart}
use Rattle.grasp_text.specs.Line.{all_flood_part_words}
use Rattle.grasp_text.specs.Words.{spaced}
use Rattle.grasp_text.proofs.writing.push_flood_parts.Given as goal

abbrev pub invariant-loop-part : goal.invariant-loop-part
invariant-loop-part l = record {
  text : string_bytes l.out ≡ string_bytes l.fn.out ++ spaced (all_flood_part_words (take l.part-index l.parts));
  ranges : AllByRecursion IsFloodPart (take l.part-index l.parts);
}
