use Rattle.std.proofs.Common.{is_some, ap, ◌∙◌}
use Rattle.grasp_session.specs.declared.wanted.Wanted.TheVariants.{Requested}
use Rattle.grasp_session.proofs.Tables.{oldest_stands}
use Rattle.grasp_session.proofs.table.Table.uses.Goals as goal

pub returns : goal.returns
returns c = λ z st. c.is_some.ensures ∙ ap is_some (c.oldest.ensures.oldest ∙ oldest_stands (Requested c.args.session) c.args.self.now z st)
