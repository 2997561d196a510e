use Rattle.grasp_runner.proofs.Ends.{on_err}
use Rattle.grasp_recorder.proofs.Ends.{begun_nothing}
use Rattle.grasp_recorder.proofs.writing.write_record.Goals as goal

pub returns-in_err-plan-clause-begun : goal.returns-in_err-plan-clause-begun
returns-in_err-plan-clause-begun g c = on_err _ _ (begun_nothing c.each_run_is_safe.ensures c.args.text.now c.args.script.now c.requires _)

pub returns-in_err-world-clause-begun : goal.returns-in_err-world-clause-begun
returns-in_err-world-clause-begun g c = on_err _ _ (begun_nothing c.each_run_is_safe.ensures c.args.text.now c.args.script.now c.requires _)
