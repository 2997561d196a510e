use Rattle.std.proofs.Common.{sym}
use Rattle.grasp_session.specs.Keeps.{mark_of}
use Rattle.grasp_session.proofs.Calls.{mark_none, mark_over, mark_done, not_some_none}
use Rattle.grasp_session.proofs.table.Table.mark.Goals as goal

pub returns-in_default : goal.returns-in_default
returns-in_default c = λ z st. mark_none c.args.self.now z c.args.stream (mark_of c.args.cause) st c.in_default.ensures.oldest

pub returns-then-is_some : goal.returns-then-is_some
returns-then-is_some c = λ z st.
    mark_over c.args.self.now c.take-session.new.self c.put_back.new.self z c.args.stream c.in-Some.handle c.take-session.result (mark_of c.args.cause) st c.in-Some.ensures.oldest c.take-session.ensures.session (sym c.if-is_some.ensures)
    c.take-session.ensures.rest c.put_back.ensures

pub returns : goal.returns
returns c = λ z st.
    mark_done c.args.self.now c.take-session.new.self c.settle.new.self z c.args.stream c.in-Some.handle c.take-session.result c.mark.new.self (mark_of c.args.cause) st c.in-Some.ensures.oldest c.take-session.ensures.session
    (not_some_none c.take-session.result.ending (sym c.if-is_some.ensures)) c.mark.ensures c.take-session.ensures.rest c.settle.ensures
