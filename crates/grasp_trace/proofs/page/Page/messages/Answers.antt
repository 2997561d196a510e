use Rattle.grasp_trace.proofs.Cutting.{fed_told}
use Rattle.grasp_trace.proofs.page.Page.messages.Goals as goal

pub returns-then-feed : goal.returns-then-feed
returns-then-feed g c past h =
    fed_told _ _ past c.args.cutter c.feed.new.cutter c.args.piece.now c.tell.result _ _ (c.feed.ensures.fed past h c.if-feed.true) c.feed.ensures.limit c.tell.ensures
