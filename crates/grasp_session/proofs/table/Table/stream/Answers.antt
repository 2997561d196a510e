use Rattle.std.proofs.Common.{Some, None, ◌∙◌}
use Rattle.grasp_session.proofs.Calls.{stream_at}
use Rattle.grasp_session.proofs.table.Table.stream.Goals as goal

pub returns-in_err-session-clause-reply : goal.returns-in_err-session-clause-reply
returns-in_err-session-clause-reply c = λ z st. c.from_residual.ensures ∙ stream_at c.args.self.now z c.args.handle None st c.in_err-session.ensures

pub returns-clause-reply : goal.returns-clause-reply
returns-clause-reply c = λ z st. stream_at c.args.self.now z c.args.handle (Some c.in_ok-session.session.now) st c.in_ok-session.ensures
