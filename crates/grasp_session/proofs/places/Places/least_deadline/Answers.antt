use Rattle.std.proofs.Common.{subst, arith}
use Rattle.grasp_session.proofs.Earliest.{EndsFrom, below_next, all_below}
use Rattle.grasp_session.proofs.places.Places.least_deadline.Goals as goal

pub loop-place-preserved : goal.loop-place-preserved
loop-place-preserved c =
    below_next c.earlier-least.result c.loop-place.least c.args.self.now c.loop-place.place c.earlier-least.ensures.reading
    (subst (EndsFrom c.earlier-least.result) c.get.ensures.session c.earlier-least.ensures.deadline) c.loop-place.invariant

pub returns : goal.returns
returns c = all_below c.loop-place.least c.args.self.now c.loop-place.place (omega (arith, c.loop-place-test.false, c.len-place-end.ensures.value)) c.loop-place.invariant
