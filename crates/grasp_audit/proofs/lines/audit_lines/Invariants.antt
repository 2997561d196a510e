use Rattle.std.proofs.Common.{◌+◌, ◌≤◌, length}
use Rattle.grasp_audit.specs.Rest.{AuditsBefore}
use Rattle.grasp_audit.proofs.lines.audit_lines.Given as goal

-- the lines before the rest hold
abbrev pub invariant-loop-rest : goal.invariant-loop-rest
invariant-loop-rest l = record {
  so : AuditsBefore l.fn.world l.world l.nodes l.text l.rest l.number l.last;
  room : l.last + length l.rest ≤ l.number + length l.text;
}

abbrev pub decreases-loop-rest : goal.decreases-loop-rest
decreases-loop-rest l = length l.rest
