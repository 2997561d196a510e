use Rattle.grasp_session.proofs.Calls.{end_done}
use Rattle.grasp_session.proofs.table.Table.end.Goals as goal

pub returns-clause-says : goal.returns-clause-says
returns-clause-says c = λ z st.
    end_done c.args.self.now c.take-session.new.self c.settle.new.self z c.args.handle c.args.now c.args.owner c.args.verdict c.in_ok-ending.ending c.take-session.result c.end-message.new.self c.end-message.result st c.requires
    c.take-session.ensures.session c.in_ok-ending.ensures.kept c.end-message.ensures.message c.end-message.ensures.kept c.end-message.ensures.over c.take-session.ensures.rest c.settle.ensures
