use Rattle.grasp_laws_reports.proofs.LongerRuns as lemmas
use Rattle.grasp_laws_reports.proofs.run_laws.stops_agree.Goals as goal

pub returns : goal.returns
returns c = lemmas.stops_agree
