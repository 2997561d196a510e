use Rattle.std.proofs.Common.{refl, length, string_bytes}
use Rattle.std.proofs.lemmas.Option.{slice_get_read}
use Rattle.grasp_node_main.proofs.Lining.{flood_pushed}
use Rattle.grasp_node_main.proofs.lines.push_floods.Goals as goal

pub loop-flood-preserved : goal.loop-flood-preserved
loop-flood-preserved c =
    let floods = c.slice-flood-items.result.now in
    let i = c.loop-flood.flood-index in
    flood_pushed floods i c.flood-item.result (string_bytes c.args.out.now) (string_bytes c.loop-flood.out) (string_bytes c.push_flood.new.out)
    (slice_get_read floods (length floods) i c.flood-item.result refl c.loop-flood-test.true c.flood-item.is) c.loop-flood.invariant c.in_ok-push_flood.ensures
