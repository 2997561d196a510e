use Rattle.std.proofs.Common.{sym, ap, ◌∙◌, arith}
use Rattle.std.proofs.Common.{is_some}
use Rattle.grasp_session.proofs.Oldest.{filled_none, filled_more, filled_here, filled_all, copied_some}
use Rattle.grasp_session.proofs.table.Table.empty_place.Goals as goal

pub loop-place-init : goal.loop-place-init
loop-place-init c = filled_none c.args.self.now.places (sym c.len-place-end.ensures.value ∙ c.len-place-end.ensures.all)

pub loop-place-preserved : goal.loop-place-preserved
loop-place-preserved c =
    filled_more c.args.self.now.places c.loop-place.place c.loop-place.invariant (omega (arith, c.loop-place-test.true, c.len-place-end.ensures.all))
    (sym (ap is_some c.get.ensures.session) ∙ (copied_some c.get.result ∙ c.if-is_none.ensures))

pub returns-then-is_none-clause-least : goal.returns-then-is_none-clause-least
returns-then-is_none-clause-least c =
    sym (filled_here c.args.self.now.places c.loop-place.place c.loop-place.invariant (omega (arith, c.loop-place-test.true, c.len-place-end.ensures.all))
    (sym (ap is_some c.get.ensures.session) ∙ (copied_some c.get.result ∙ c.if-is_none.ensures)))

pub returns-clause-least : goal.returns-clause-least
returns-clause-least c = sym (filled_all c.args.self.now.places c.loop-place.place c.loop-place.invariant (omega (arith, c.loop-place-test.false, c.len-place-end.ensures.all)))
