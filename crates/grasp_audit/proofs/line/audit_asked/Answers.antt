use Rattle.grasp_audit.proofs.Asking.{clock_fails, event_audits, may_answer}
use Rattle.grasp_audit.proofs.line.audit_asked.Goals as goal

pub has_answered-requires-clause-may_answer : goal.has_answered-requires-clause-may_answer
has_answered-requires-clause-may_answer c = may_answer c.args.world.now c.args.nodes c.args.text.now c.args.line.now c.turn_clock.new.world c.args.event c.requires c.in-Ok.ensures

pub returns-in-Ok : goal.returns-in-Ok
returns-in-Ok c =
    event_audits c.args.world.now c.turn_clock.new.world c.has_answered.new.world c.args.nodes c.args.text.now c.args.line.now c.args.event c.requires c.in-Ok.ensures c.has_answered.result c.verdict_of.result
    c.has_answered.ensures c.verdict_of.ensures

pub returns-in-Err : goal.returns-in-Err
returns-in-Err c = clock_fails c.args.world.now c.turn_clock.new.world c.args.nodes c.args.text.now c.args.line.now c.in-Err.fault c.in-Err.ensures
