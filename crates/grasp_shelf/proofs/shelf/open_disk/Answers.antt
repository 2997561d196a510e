use Rattle.std.proofs.Common.{sym, ◌∙◌}
use Rattle.grasp_shelf.proofs.Opened.{empty_blank}
use Rattle.grasp_shelf.proofs.shelf.open_disk.Goals as goal

pub returns-else-has_saved-clause-refused : goal.returns-else-has_saved-clause-refused
returns-else-has_saved-clause-refused g c = λ log stands size. empty_blank g.B.Disk.stands _ _ log (c.in-Ok.ensures.opened log stands size) (sym c.has_saved.ensures ∙ c.if-has_saved.false)
