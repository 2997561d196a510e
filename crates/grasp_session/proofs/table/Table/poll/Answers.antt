use Rattle.std.proofs.Common.{sym, ◌∙◌}
use Rattle.grasp_session.proofs.Calls.{poll_none, poll_not_yet, poll_turn, poll_starved, poll_ended, not_some_none}
use Rattle.grasp_session.proofs.table.Table.poll.Goals as goal

pub returns-in_default : goal.returns-in_default
returns-in_default c = record { polls = λ z st. poll_none c.args.self.now z c.args.owner c.args.handle st c.in_default.ensures }

pub returns-then-not-session : goal.returns-then-not-session
returns-then-not-session c = record {
  polls = λ z st. poll_not_yet c.args.self.now z c.args.owner c.args.handle c.in-Some.session.now st c.in-Some.ensures (not_some_none c.in-Some.session.now.ending c.if-is_none.ensures) c.if-not-session.true;
}

pub returns-in-Ok : goal.returns-in-Ok
returns-in-Ok c = record {
  polls = λ z st.
      poll_turn c.args.self.now z c.args.owner c.args.handle c.in-Some.session.now c.in-Ok.objective st c.in-Some.ensures (not_some_none c.in-Some.session.now.ending c.if-is_none.ensures) c.if-not-session.false (c.in-Ok.ensures ∙ c.last_offer.ensures);
}

pub returns-in-Err : goal.returns-in-Err
returns-in-Err c = record {
  polls = λ z st. poll_starved c.args.self.now z c.args.owner c.args.handle c.in-Some.session.now st c.in-Some.ensures (not_some_none c.in-Some.session.now.ending c.if-is_none.ensures) c.if-not-session.false;
}

pub returns : goal.returns
returns c = record {
  polls = λ z st.
      poll_ended c.args.self.now c.take.new.self z c.args.owner c.args.handle c.in-Some.session.now c.take.result c.in-Some-outcome.outcome st c.in-Some.ensures c.take.ensures.session (sym c.in-Some-outcome.is ∙ c.outcome.ensures) c.take.ensures.rest;
}
