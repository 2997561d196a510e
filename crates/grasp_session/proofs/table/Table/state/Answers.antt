use Rattle.std.proofs.Common.{Some, ap, ◌∙◌}
use Rattle.grasp_session.proofs.Calls.{state_none, state_some, answer_none, answer_some}
use Rattle.grasp_session.proofs.table.Table.state.Goals as goal

pub returns-in_err-handle : goal.returns-in_err-handle
returns-in_err-handle c = record {
  reply = λ z st. c.from_residual.ensures ∙ state_none c.args.self.now z c.args.stream st c.in_err-handle.ensures.oldest;
  answer = c.from_residual.ensures ∙ answer_none c.args.self.now c.args.stream c.in_err-handle.ensures.oldest;
}

pub returns : goal.returns
returns c = record {
  reply = λ z st.
      ap (λ b. Some (c.in_ok-session.session.now.session, b)) c.is_some.ensures
      ∙ state_some c.args.self.now z c.args.stream c.in_ok-handle.handle c.in_ok-session.session.now st c.in_ok-handle.ensures.oldest c.in_ok-session.ensures;
  answer =
      ap (λ b. Some (c.in_ok-session.session.now.session, b)) c.is_some.ensures
      ∙ answer_some c.args.self.now c.args.stream c.in_ok-handle.handle c.in_ok-session.session.now c.in_ok-handle.ensures.oldest c.in_ok-session.ensures;
}
