use Rattle.std.proofs.Common.{length}
use Rattle.grasp_audit.specs.Headers.{HasPassed}
use Rattle.grasp_audit.proofs.headers.header_end.Given as goal

-- no header ends in the lines before the rest
abbrev pub invariant-loop-rest : goal.invariant-loop-rest
invariant-loop-rest l = HasPassed l.text l.rest l.lines

abbrev pub decreases-loop-rest : goal.decreases-loop-rest
decreases-loop-rest l = length l.rest
