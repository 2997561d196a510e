use Rattle.grasp_laws_reports.proofs.OnlyPolls.{agreed_reports_tell}
use Rattle.grasp_laws_reports.proofs.outcome_laws.agreed_reports_tell.Goals as goal

pub returns : goal.returns
returns c = agreed_reports_tell c.poll_means.ensures
