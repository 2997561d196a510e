use Rattle.grasp_laws_audit.proofs.Runs.{audited_runs_are_safe}
use Rattle.grasp_laws_audit.proofs.laws.audited_runs_are_safe.Goals as goal

pub returns : goal.returns
returns c = audited_runs_are_safe c.each_network_is_safe.ensures
