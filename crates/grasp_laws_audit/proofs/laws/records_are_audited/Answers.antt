use Rattle.grasp_laws_audit.proofs.Written.{records_are_audited}
use Rattle.grasp_laws_audit.proofs.laws.records_are_audited.Goals as goal

pub returns : goal.returns
returns c = records_are_audited c.record_lines_hold.ensures
