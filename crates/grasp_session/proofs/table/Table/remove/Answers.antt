use Rattle.grasp_session.proofs.Calls.{remove_done}
use Rattle.grasp_session.proofs.table.Table.remove.Goals as goal

pub returns : goal.returns
returns c = record { removes = λ z st. remove_done c.args.self.now c.take-session.new.self z c.args.handle c.take-session.result st c.take-session.ensures.session c.take-session.ensures.rest }
