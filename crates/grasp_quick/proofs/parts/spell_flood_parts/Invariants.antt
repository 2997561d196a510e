use Rattle.grasp_types.specs.Message.{flood_part_item, IsFloodPart}
use Rattle.grasp_text.specs.Line.{all_flood_part_words}
use Rattle.grasp_quick.specs.Spelled.{SpellsMany}
use Rattle.grasp_quick.proofs.parts.spell_flood_parts.Given as goal

abbrev pub invariant-loop-i : goal.invariant-loop-i
invariant-loop-i l = SpellsMany flood_part_item IsFloodPart all_flood_part_words l.i l.bytes l.rest l.initial.line l.line
