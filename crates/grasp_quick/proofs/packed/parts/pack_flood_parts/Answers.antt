use Rattle.std.proofs.Common.{rules}
use Rattle.grasp_quick.proofs.PackedLines.{one_part_packs, more_parts_pack}
use Rattle.grasp_quick.proofs.packed.parts.pack_flood_parts.Goals as goal

pub loop-count-init : goal.loop-count-init
loop-count-init c = (
  one_part_packs c.args.line.now c.in_ok-rest.rest.now c.args.bytes.now c.pack_flood_part.new.bytes c.in_ok-rest.ensures,
  search rules,
  search rules,
)

pub loop-count-preserved : goal.loop-count-preserved
loop-count-preserved c = (
  more_parts_pack c.loop-count.count c.args.line.now c.loop-count.rest.now c.in_ok-rest-2.rest.now c.args.bytes.now c.loop-count.bytes
      c.pack_flood_part-in-loop-count.new.bytes
      c.loop-count.invariant.0 c.in_ok-rest-2.ensures,
  search rules,
  search rules,
)

pub returns-clause-parts : goal.returns-clause-parts
returns-clause-parts c = c.loop-count.invariant.0
