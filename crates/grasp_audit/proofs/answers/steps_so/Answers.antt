use Rattle.grasp_audit.proofs.Turning.{step_answers, stop_answers}
use Rattle.grasp_audit.proofs.answers.steps_so.Goals as goal

pub returns-in-Ok : goal.returns-in-Ok
returns-in-Ok c =
    step_answers c.args.world.now c.step.new.self c.args.text.now c.args.line.now c.requires.written c.args.event c.in-Ok.report c.tells_report.result c.told_or_starved.result
    c.requires.other c.in-Ok.ensures c.tells_report.ensures c.told_or_starved.ensures

pub returns-in-Err : goal.returns-in-Err
returns-in-Err c =
    stop_answers c.args.world.now c.step.new.self c.args.text.now c.args.line.now c.requires.written c.args.event c.in-Err.stop c.stop_fault.result c.in-Err.ensures c.stop_fault.ensures
