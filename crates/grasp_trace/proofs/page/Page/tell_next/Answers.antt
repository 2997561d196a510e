use Rattle.grasp_trace.proofs.Cutting.{told_more, told_all, told_fault}
use Rattle.grasp_trace.proofs.page.Page.tell_next.Goals as goal

pub returns-in-Ok-Some-clause-then : goal.returns-in-Ok-Some-clause-then
returns-in-Ok-Some-clause-then g c t h =
    told_more c.args.what.now c.args.stream t c.args.cutter.now c.next.new.self c.in-Ok-Some.message _ _ h (rw c.in-Ok-Some.field-0-is at c.in-Ok-Some.ensures.then) c.next.ensures.limit c.message.ensures

pub returns-in-Ok-None-clause-then : goal.returns-in-Ok-None-clause-then
returns-in-Ok-None-clause-then g c t h =
    told_all c.args.what.now c.args.stream t c.args.cutter.now c.next.new.self _ h (rw c.in-Ok-None.field-0-is at c.in-Ok-None.ensures.answers) (rw c.in-Ok-None.field-0-is at c.in-Ok-None.ensures.then) c.next.ensures.limit

pub returns-in-Err-clause-then : goal.returns-in-Err-clause-then
returns-in-Err-clause-then g c t h = told_fault c.args.what.now c.args.stream t c.args.cutter.now c.in-Err.fault _ _ h c.in-Err.ensures.answers c.fault.ensures
