use Rattle.grasp_laws_reports.proofs.Polling.{polls_tell_outcomes}
use Rattle.grasp_laws_reports.proofs.outcome_laws.polls_tell_outcomes.Goals as goal

pub returns : goal.returns
returns c = polls_tell_outcomes c.poll_means.ensures
