use Rattle.grasp_laws_reports.proofs.ToldOnce.{outcomes_are_told_once_over_turns}
use Rattle.grasp_laws_reports.proofs.outcome_laws.outcomes_are_told_once_over_turns.Goals as goal

pub returns : goal.returns
returns c = outcomes_are_told_once_over_turns c.poll_means.ensures
