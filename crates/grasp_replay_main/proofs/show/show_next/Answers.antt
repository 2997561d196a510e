use Rattle.std.proofs.Common.{◌∙◌}
use Rattle.grasp_replay_main.proofs.Showing.{takes_line, begins_line, errs_begun}
use Rattle.grasp_replay_main.proofs.show.show_next.Goals as goal

pub returns-in_err-put-in-Some-clause-step : goal.returns-in_err-put-in-Some-clause-step
returns-in_err-put-in-Some-clause-step g c = λ front start same h.
    let s = c.in-Some.ensures in
    errs_begun c.args.limit front c.args.rest.now start _ _ c.from_residual.result c.from_residual.ensures.0
    (begins_line c.args.limit front c.args.rest.now start _ _ _ _ s.message c.in-Some.used h s.form (c.bytes.ensures ∙ s.line_is) c.put.ensures.front)

pub returns-in_ok-put-in-Some-clause-step : goal.returns-in_ok-put-in-Some-clause-step
returns-in_ok-put-in-Some-clause-step g c = λ front start same h.
    let s = c.in-Some.ensures in
    takes_line c.args.limit front c.args.rest.now start _ _ _ _ _ s.message c.in-Some.used h s.form (c.bytes.ensures ∙ s.line_is) c.in_ok-put-in-Some.ensures.passed
