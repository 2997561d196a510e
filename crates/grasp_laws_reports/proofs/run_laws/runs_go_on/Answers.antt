use Rattle.grasp_laws_reports.proofs.LongerRuns as lemmas
use Rattle.grasp_laws_reports.proofs.run_laws.runs_go_on.Goals as goal

pub returns : goal.returns
returns c = lemmas.runs_go_on
