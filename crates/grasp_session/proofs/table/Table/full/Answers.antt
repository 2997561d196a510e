use Rattle.std.proofs.Common.{◌∙◌}
use Rattle.grasp_session.proofs.Calls.{full_same}
use Rattle.grasp_session.proofs.table.Table.full.Goals as goal

pub returns : goal.returns
returns c = λ z st. c.is_full.ensures ∙ full_same c.args.self.now z st
