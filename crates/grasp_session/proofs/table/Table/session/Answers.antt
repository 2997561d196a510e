use Rattle.std.proofs.Common.{Some, None, sym, ◌∙◌}
use Rattle.std.proofs.lemmas.Bool.{cond-true, cond-false}
use Rattle.grasp_session.proofs.Calls.{session_is, some_none, not_some_none}
use Rattle.grasp_session.proofs.table.Table.session.Goals as goal

pub returns-in_err-session-clause-reply : goal.returns-in_err-session-clause-reply
returns-in_err-session-clause-reply c = λ z st. c.from_residual.ensures ∙ session_is c.args.self.now z c.args.handle None st c.in_err-session.ensures

pub returns-then-is_some-clause-reply : goal.returns-then-is_some-clause-reply
returns-then-is_some-clause-reply c = λ z st.
    sym (cond-false _ (Some c.in_ok-session.session.now.session) None (some_none c.in_ok-session.session.now.ending (sym c.if-is_some.ensures))) ∙ session_is c.args.self.now z c.args.handle (Some c.in_ok-session.session.now) st c.in_ok-session.ensures

pub returns-clause-reply : goal.returns-clause-reply
returns-clause-reply c = λ z st.
    sym (cond-true _ (Some c.in_ok-session.session.now.session) None (not_some_none c.in_ok-session.session.now.ending (sym c.if-is_some.ensures))) ∙ session_is c.args.self.now z c.args.handle (Some c.in_ok-session.session.now) st c.in_ok-session.ensures
