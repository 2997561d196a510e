use Rattle.grasp_audit.proofs.Asking.{fails_unsent}
use Rattle.grasp_audit.proofs.line.audit_read.Goals as goal

pub returns-in-Ok-None : goal.returns-in-Ok-None
returns-in-Ok-None c = fails_unsent c.args.world.now c.args.nodes c.args.text.now c.args.line.now c.requires (rw c.in-Ok-None.field-0-is at c.in-Ok-None.ensures)
