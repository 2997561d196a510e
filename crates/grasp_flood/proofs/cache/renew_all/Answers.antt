use Rattle.std.proofs.Common.{◌≡◌, ◌≤◌, Some, length, slice_get, refl, sym, ap, ◌∙◌, arith}
use Rattle.indexmap.specs.IndexMap.{set_value_at}
use Rattle.grasp_flood.specs.Floods.{after_renewal}
use Rattle.grasp_types.proofs.Through.{WritesValue, first_through, length_first_through, first_through_none, first_through_more, first_through_all}
use Rattle.grasp_flood.proofs.cache.renew_all.Goals as goal

writes : {K V : Type 0} → WritesValue {K = K} {V = V} set_value_at
writes = record { none = λ i w. refl; first = λ x xs w. refl; later = λ x xs i w. refl }

pub loop-i-init : goal.loop-i-init
loop-i-init c = sym (first_through_none (after_renewal c.args.flood c.args.end) c.args.entries.now.entries)

pub pair_mut-kept-requires : goal.pair_mut-kept-requires
pair_mut-kept-requires c =
    let long = ap length c.loop-i.invariant ∙ length_first_through (after_renewal c.args.flood c.args.end) c.loop-i.i c.args.entries.now.entries in
    omega (arith, long, c.len-i-end.ensures.len)

pub loop-i-preserved : goal.loop-i-preserved
loop-i-preserved c =
    let f = after_renewal c.args.flood c.args.end in
    let at : slice_get (first_through f c.loop-i.i c.args.entries.now.entries) c.loop-i.i ≡ Some (c.pair_mut-kept.result.0.now, c.pair_mut-kept.result.1.now) =
    rw (← c.loop-i.invariant) c.pair_mut-kept.ensures.value in
    rw c.loop-i.invariant (first_through_more set_value_at writes f c.loop-i.i c.args.entries.now.entries _ _ _ at c.renew.ensures)

pub returns : goal.returns
returns c =
    let whole : length c.args.entries.now.entries ≤ c.loop-i.i = omega (arith, c.len-i-end.ensures.len) in
    c.loop-i.invariant ∙ first_through_all (after_renewal c.args.flood c.args.end) c.loop-i.i c.args.entries.now.entries whole
