use Rattle.grasp_laws_lines.proofs.Reports as lemmas
use Rattle.grasp_laws_lines.proofs.report_laws.reports_of_crashes_differ.Goals as goal

pub returns : goal.returns
returns c = lemmas.crashes_differ
