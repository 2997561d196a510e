use Rattle.std.proofs.Common.{List, ℕ, drop, subst, Ok, Err}
use Rattle.grasp_audit.specs.Rest.{AuditsRest}
use Rattle.grasp_audit.proofs.Verdicts.{behind_is, lines_fault, lines_verdict}
use Rattle.grasp_audit.proofs.verdict.audit_behind.Goals as goal

pub returns-in-Ok : goal.returns-in-Ok
returns-in-Ok c =
    lines_verdict c.args.text.now (drop c.args.end.bytes c.args.text.now) c.args.plan c.args.end.lines c.requires.header c.audited_runs_are_safe.ensures c.in-Ok.lines
    (subst (λ (r : List ℕ). AuditsRest c.args.plan r c.args.end.lines (Ok c.in-Ok.lines)) (behind_is c.args.text.now c.args.end.bytes) c.in-Ok.ensures)

pub returns-in-Err : goal.returns-in-Err
returns-in-Err c =
    lines_fault c.args.text.now (drop c.args.end.bytes c.args.text.now) c.args.plan c.args.end.lines c.requires.header c.in-Err.fault
    (subst (λ (r : List ℕ). AuditsRest c.args.plan r c.args.end.lines (Err c.in-Err.fault)) (behind_is c.args.text.now c.args.end.bytes) c.in-Err.ensures)
