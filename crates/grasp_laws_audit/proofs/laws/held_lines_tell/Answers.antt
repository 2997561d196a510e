use Rattle.grasp_laws_audit.proofs.Telling.{held_lines_tell}
use Rattle.grasp_laws_audit.proofs.laws.held_lines_tell.Goals as goal

pub returns : goal.returns
returns c = held_lines_tell
