use Rattle.grasp_laws_reports.proofs.SameRuns as lemmas
use Rattle.grasp_laws_reports.proofs.run_laws.runs_agree.Goals as goal

pub returns : goal.returns
returns c = lemmas.runs_agree
