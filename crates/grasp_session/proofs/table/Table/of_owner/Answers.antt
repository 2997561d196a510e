use Rattle.std.proofs.Common.{◌∙◌}
use Rattle.grasp_session.specs.declared.wanted.Wanted.TheVariants.{OwnedBy}
use Rattle.grasp_session.proofs.Tables.{oldest_stands}
use Rattle.grasp_session.proofs.table.Table.of_owner.Goals as goal

pub returns-clause-reply : goal.returns-clause-reply
returns-clause-reply c = λ z st. c.oldest.ensures.oldest ∙ oldest_stands (OwnedBy c.args.owner) c.args.self.now z st
