use Rattle.std.proofs.Common.{refl}
use Rattle.grasp_session.proofs.Calls.{adopt_done, back_done}
use Rattle.grasp_session.proofs.table.Table.adopt.Goals as goal

pub returns-in-Ok-clause-adopts : goal.returns-in-Ok-clause-adopts
returns-in-Ok-clause-adopts c = λ z st.
    adopt_done c.args.self.now c.take-session.new.self c.put_back.new.self z c.args.owner c.args.handle c.take-session.result (record c.take-session.result { owner = c.args.owner }) c.in-Ok.objective st c.take-session.ensures.session refl c.in-Ok.ensures
    c.take-session.ensures.rest c.put_back.ensures

pub returns-in-Err-clause-err : goal.returns-in-Err-clause-err
returns-in-Err-clause-err c = λ z st.
    back_done c.args.self.now c.take-session.new.self c.put_back-in-Err.new.self z c.args.handle c.take-session.result st c.take-session.ensures.session c.take-session.ensures.rest c.put_back-in-Err.ensures
