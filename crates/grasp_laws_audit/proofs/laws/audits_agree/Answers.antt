use Rattle.grasp_laws_audit.proofs.Verdicts.{audits_agree}
use Rattle.grasp_laws_audit.proofs.laws.audits_agree.Goals as goal

pub returns : goal.returns
returns c = audits_agree c.record_lines_mean_one_thing.ensures
