use Rattle.grasp_runner.proofs.Ends.{begun_nothing, on_err}
use Rattle.grasp_runner.proofs.reports.write_reports.Goals as goal

pub returns-in_err-plan-clause-begun : goal.returns-in_err-plan-clause-begun
returns-in_err-plan-clause-begun g c = on_err _ _ (begun_nothing c.each_run_is_safe.ensures c.args.script.now _ c.requires)

pub returns-in_err-world-clause-begun : goal.returns-in_err-world-clause-begun
returns-in_err-world-clause-begun g c = on_err _ _ (begun_nothing c.each_run_is_safe.ensures c.args.script.now _ c.requires)
