use Rattle.std.proofs.Common.{◌≡◌, length, Some, refl, ap, string_bytes, arith}
use Rattle.std.specs.List.{slice_get}
use Rattle.std.proofs.lemmas.Option.{slice_get_read}
use Rattle.std.proofs.lemmas.List.Elements.{All-from_recursion}
use Rattle.grasp_types.specs.Message.{IsFloodPart}
use Rattle.grasp_text.proofs.Pushed.{parts_step, all_step, all_done}
use Rattle.grasp_text.proofs.writing.push_flood_parts.Goals as goal

pub loop-part-preserved : goal.loop-part-preserved
loop-part-preserved c =
    let items = c.slice-part-items.result.now in
    let i = c.loop-part.part-index in
    let at : slice_get c.args.parts.now i ≡ Some c.part-item.result = cc (slice_get_read items (length items) i c.part-item.result refl c.loop-part-test.true c.part-item.is, c.slice-part-items.ensures.value) in record {
      text = parts_step c.args.parts.now i c.part-item.result (string_bytes c.args.out.now) (string_bytes c.loop-part.out) (string_bytes c.push_flood_part.new.out) at c.loop-part.invariant.text c.in_ok-push_flood_part.ensures.text;
      ranges = all_step IsFloodPart c.args.parts.now i c.part-item.result at c.loop-part.invariant.ranges c.in_ok-push_flood_part.ensures.ranges;
    }

pub returns-clause-ranges : goal.returns-clause-ranges
returns-clause-ranges c = record {
  some = c.slice-part-items.ensures.some;
  each = All-from_recursion IsFloodPart c.args.parts.now (all_done IsFloodPart c.args.parts.now c.loop-part.part-index (omega (arith, ap length c.slice-part-items.ensures.value)) c.loop-part.invariant.ranges);
}
