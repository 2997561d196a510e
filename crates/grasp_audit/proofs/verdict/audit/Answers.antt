use Rattle.grasp_audit.proofs.Verdicts.{header_fault, verdict_fault, verdict_ok, verdict_only}
use Rattle.grasp_audit.proofs.verdict.audit.Goals as goal

pub returns-in-Ok-clause-ok : goal.returns-in-Ok-clause-ok
returns-in-Ok-clause-ok c = verdict_ok c.args.text.now c.audit_behind.result c.audit_behind.ensures

pub returns-in-Ok-clause-fault : goal.returns-in-Ok-clause-fault
returns-in-Ok-clause-fault c = verdict_fault c.args.text.now c.audit_behind.result c.audit_behind.ensures

pub returns-in-Ok-clause-only : goal.returns-in-Ok-clause-only
returns-in-Ok-clause-only c = verdict_only c.audits_agree.ensures c.args.text.now c.audit_behind.result c.audit_behind.ensures

pub returns-in-Err-clause-fault : goal.returns-in-Err-clause-fault
returns-in-Err-clause-fault c = header_fault c.args.text.now c.header_end-end.result c.in-Err.fault c.in-Err.ensures

pub returns-in-Err-clause-only : goal.returns-in-Err-clause-only
returns-in-Err-clause-only c = λ is. c.audits_agree.ensures.either c.args.text.now c.in-Err.fault is (header_fault c.args.text.now c.header_end-end.result c.in-Err.fault c.in-Err.ensures)
