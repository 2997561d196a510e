use Rattle.grasp_types.specs.Message.{flood_part_item, IsFloodPart}
use Rattle.grasp_text.specs.Line.{flood_part_words, all_flood_part_words}
use Rattle.grasp_quick.proofs.Sequence.{one_more, part_more}
use Rattle.grasp_quick.proofs.parts.spell_flood_parts.Goals as goal

pub loop-i-preserved : goal.loop-i-preserved
loop-i-preserved c =
    one_more flood_part_item IsFloodPart flood_part_words all_flood_part_words part_more c.loop-i.i c.args.bytes.now c.loop-i.rest.now c.in_ok-rest.rest.now c.args.line.now c.loop-i.line c.spell_flood_part.new.line
    c.loop-i.invariant c.in_ok-rest.ensures
