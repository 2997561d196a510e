use Rattle.std.proofs.Common.{◌≡◌, Some, cond, slice_get, sym, ap, ◌∙◌, drop, ◌+◌}
use Rattle.std.specs.Map.{lookup}
use Rattle.grasp_cbor.proofs.Behind.{drop_got}
use Rattle.grasp_discovery.specs.Topic.{same_topic, topic_of}
use Rattle.grasp_discovery.proofs.entries.entry_of.Goals as goal

pub loop-i-preserved : goal.loop-i-preserved
loop-i-preserved c =
    let test = same_topic (topic_of c.args.name.now c.args.kind) in
    let at : slice_get c.args.entries.now.entries c.loop-i.i ≡ Some (c.in-Some.topic.now, c.in-Some.cached.now) = sym c.in-Some.ensures.entry in
    c.loop-i.invariant ∙ ap (lookup test) (drop_got c.args.entries.now.entries c.loop-i.i (c.in-Some.topic.now, c.in-Some.cached.now) at)
    ∙ ap (λ b. cond b (Some c.in-Some.cached.now) (lookup test (drop (c.loop-i.i + 1) c.args.entries.now.entries))) (sym c.if-is.ensures)
