use Rattle.grasp_runner_doubts.proofs.Telling.{ask_tells, plain_tells}
use Rattle.grasp_runner_doubts.proofs.lines.told_of.Goals as goal

pub returns-in-Plain : goal.returns-in-Plain
returns-in-Plain c = plain_tells c.args.text.now c.args.report.now _ c.told_report.result c.in-Plain.is c.told_report.ensures

pub returns-in-Ask : goal.returns-in-Ask
returns-in-Ask c = ask_tells c.args.text.now c.args.report.now _ c.told_ask.result c.in-Ask.is c.told_ask.ensures
