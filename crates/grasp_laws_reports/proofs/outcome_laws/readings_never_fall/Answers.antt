use Rattle.grasp_laws_reports.proofs.Readings as lemmas
use Rattle.grasp_laws_reports.proofs.outcome_laws.readings_never_fall.Goals as goal

pub returns : goal.returns
returns c = lemmas.readings_never_fall
