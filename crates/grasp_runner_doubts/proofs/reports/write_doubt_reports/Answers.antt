use Rattle.grasp_runner.proofs.Ends.{on_err}
use Rattle.grasp_runner_doubts.proofs.Ends.{begun_nothing, plan_copied, ready}
use Rattle.grasp_runner_doubts.proofs.reports.write_doubt_reports.Goals as goal

pub returns-in_err-plan-clause-begun : goal.returns-in_err-plan-clause-begun
returns-in_err-plan-clause-begun g c = on_err _ _ (begun_nothing c.each_doubt_run_is_safe.ensures c.args.script.now c.requires _)

pub open-requires : goal.open-requires
open-requires g c = plan_copied c.args.script.now c.plan.result.now c.in_ok-plan.plan c.requires c.plan.ensures c.in_ok-plan.ensures

pub returns-in_err-world-clause-begun : goal.returns-in_err-world-clause-begun
returns-in_err-world-clause-begun g c = on_err _ _ (begun_nothing c.each_doubt_run_is_safe.ensures c.args.script.now c.requires _)

pub run_script-requires : goal.run_script-requires
run_script-requires g c =
    ready c.args.script.now c.plan.result.now c.in_ok-plan.plan c.in_ok-world.world c.requires c.plan.ensures c.in_ok-plan.ensures
    c.in_ok-world.ensures
