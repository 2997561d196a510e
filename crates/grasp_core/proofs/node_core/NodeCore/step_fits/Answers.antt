use Rattle.std.proofs.Common.{sym}
use Rattle.grasp_core.proofs.Acts.{fits_as, step_is}
use Rattle.grasp_core.proofs.node_core.NodeCore.step_fits.Goals as goal

pub returns : goal.returns
returns c = λ n h.
    let message =
    step_is c.args.self.now.table n.sessions c.args.handle c.in-Some.session c.in-Some-last.last.now c.args.value.now c.messages_are_made.ensures h.sessions (c.in-Some.ensures.reply n.sessions h.sessions) (c.in-Some-last.ensures n.sessions h.sessions) in
    rw (sym h.plan) (fits_as c.args.self.now.plan.limit _ _ c.step_fits.result (rw c.saturating_sub-loops.ensures at c.step_fits.ensures) message)
