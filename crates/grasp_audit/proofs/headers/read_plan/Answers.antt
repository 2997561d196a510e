use Rattle.std.proofs.Common.{take, drop}
use Rattle.grasp_audit.proofs.Starting.{plan_missed, plan_told}
use Rattle.grasp_audit.proofs.headers.read_plan.Goals as goal

pub returns-in-Ok : goal.returns-in-Ok
returns-in-Ok c =
    plan_told c.args.text.now c.args.end c.requires (drop c.in-Ok.head.used (take c.args.end.bytes c.args.text.now)) c.in-Ok.head.plan c.in-Ok.head.lines c.in-Ok.ensures.read

pub returns-in-Err-BadScript : goal.returns-in-Err-BadScript
returns-in-Err-BadScript c =
    plan_missed c.args.text.now c.args.end c.requires c.in-Err-BadScript.line (rw c.in-Err-BadScript.field-0-is at c.in-Err-BadScript.ensures.none) (rw c.in-Err-BadScript.field-0-is at c.in-Err-BadScript.ensures.place)
