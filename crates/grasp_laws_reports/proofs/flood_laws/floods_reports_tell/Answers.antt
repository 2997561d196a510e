use Rattle.grasp_laws_reports.proofs.FloodReads.{floods_reports_tell}
use Rattle.grasp_laws_reports.proofs.flood_laws.floods_reports_tell.Goals as goal

pub returns : goal.returns
returns c = floods_reports_tell c.replies_are_noted.ensures
