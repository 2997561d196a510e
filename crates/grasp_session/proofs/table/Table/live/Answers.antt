use Rattle.grasp_session.proofs.Calls.{live_is}
use Rattle.grasp_session.proofs.table.Table.live.Goals as goal

pub returns : goal.returns
returns c = λ z st. live_is c.args.self.now z c.count.result st c.count.ensures.count
