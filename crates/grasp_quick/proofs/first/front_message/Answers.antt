use Rattle.std.proofs.Common.{◌∙◌}
use Rattle.grasp_wire.specs.Cutter.{no_past, after_feed}
use Rattle.grasp_quick.proofs.Fronts.{front_cut}
use Rattle.grasp_quick.proofs.first.front_message.Goals as goal

pub returns-in-Ok-Some-clause-form : goal.returns-in-Ok-Some-clause-form
returns-in-Ok-Some-clause-form c =
    let piece = c.split_at.result.0.now in
    let fed = c.in-Ok.ensures.ok no_past c.new-cutter.ensures.stands in
    (front_cut c.args.limit c.next.new.self c.in-Ok-Some.message c.args.bytes.now piece c.split_at.result.1.now c.waiting.result c.split_at.ensures.by_index.0
    (c.next.ensures.limit ∙ c.feed.ensures.limit ∙ c.new-cutter.ensures.limit)
    ((rw c.in-Ok-Some.field-0-is at c.in-Ok-Some.ensures.then) (after_feed no_past piece) fed) c.waiting.ensures.counts).form
