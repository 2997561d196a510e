use Rattle.grasp_runner.proofs.Telling.{tells_report}
use Rattle.grasp_runner_kept.proofs.lines.event_told.Goals as goal

pub returns-in-Ok : goal.returns-in-Ok
returns-in-Ok c = tells_report c.args.text.now c.args.report.now c.in-Ok.told c.in-Ok.ensures
