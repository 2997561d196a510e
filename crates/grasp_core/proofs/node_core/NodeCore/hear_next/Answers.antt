use Rattle.grasp_core.proofs.HearAll.{one_more, shut, waits, faults, not_heard}
use Rattle.grasp_core.proofs.node_core.NodeCore.hear_next.Goals as goal

pub returns-in-Ok-true-clause-then : goal.returns-in-Ok-true-clause-then
returns-in-Ok-true-clause-then c f x =
    one_more c.args.stream c.args.self.now c.hear.new.self c.args.cutter.now c.next.new.self f c.in-Ok-Some.message (rw c.in-Ok-Some.field-0-is at c.in-Ok-Some.ensures.then) c.next.ensures.limit (rw c.in-Ok-true.field-0-test at c.in-Ok-true.ensures.ok) x

pub returns-in-Ok-false-clause-then : goal.returns-in-Ok-false-clause-then
returns-in-Ok-false-clause-then c f x =
    shut c.args.stream c.args.self.now c.hear.new.self c.args.cutter.now c.next.new.self f c.in-Ok-Some.message (rw c.in-Ok-Some.field-0-is at c.in-Ok-Some.ensures.then) c.next.ensures.limit (rw c.in-Ok-false.field-0-test at c.in-Ok-false.ensures.ok) x

pub returns-in-Err-hear-clause-then : goal.returns-in-Err-hear-clause-then
returns-in-Err-hear-clause-then c f x = not_heard c.args.stream c.args.self.now c.hear.new.self c.args.cutter.now f c.in-Err-hear.ensures.err x

pub returns-in-Ok-None-clause-then : goal.returns-in-Ok-None-clause-then
returns-in-Ok-None-clause-then c f x =
    waits c.args.stream c.args.self.now c.args.cutter.now c.next.new.self f (rw c.in-Ok-None.field-0-is at c.in-Ok-None.ensures.answers) (rw c.in-Ok-None.field-0-is at c.in-Ok-None.ensures.then) c.next.ensures.limit x

pub returns-in-Ok-clause-then : goal.returns-in-Ok-clause-then
returns-in-Ok-clause-then c f x =
    faults c.args.stream c.args.self.now c.refuse.new.self c.args.cutter.now f c.in-Err.fault c.in_default.not-OutOfMemory c.in-Err.ensures.answers c.in-Ok.ensures.ok x

pub returns-in-Err-refuse-clause-then : goal.returns-in-Err-refuse-clause-then
returns-in-Err-refuse-clause-then c f x = not_heard c.args.stream c.args.self.now c.refuse.new.self c.args.cutter.now f c.in-Err-refuse.ensures.err x
