use Rattle.grasp_model_network.specs.Runs.{world_of}
use Rattle.grasp_model_network.specs.Setting.{script_setting}
use Rattle.grasp_audit.proofs.Behind.{opened_at, opened_goes}
use Rattle.grasp_audit.proofs.lines.audit_rest.Goals as goal

pub audit_lines-requires-clause-goes : goal.audit_lines-requires-clause-goes
audit_lines-requires-clause-goes c = opened_goes c.in-Ok.world c.args.plan c.in-Ok.ensures

pub returns-in-Ok : goal.returns-in-Ok
returns-in-Ok c = c.audit_lines.ensures (script_setting c.args.plan) (world_of c.args.plan) (opened_at c.in-Ok.world c.args.plan c.in-Ok.ensures)
