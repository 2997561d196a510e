use Rattle.grasp_laws_reports.proofs.Closed.{cuts_are_final_over_turns}
use Rattle.grasp_laws_reports.proofs.outcome_laws.cuts_are_final_over_turns.Goals as goal

pub returns : goal.returns
returns c = cuts_are_final_over_turns c.streams_are_ready.ensures
