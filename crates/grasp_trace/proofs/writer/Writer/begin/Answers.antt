use Rattle.std.proofs.Common.{inl}
use Rattle.grasp_trace.proofs.Watching.{begins_none}
use Rattle.grasp_trace.proofs.writer.Writer.begin.Goals as goal

pub returns-then-begin-clause-begins : goal.returns-then-begin-clause-begins
returns-then-begin-clause-begins g c = record { begins = inl (c.begin.ensures.new c.if-begin.true); others = c.begin.ensures.others }

pub returns-clause-begins : goal.returns-clause-begins
returns-clause-begins g c = begins_none _ _ _ (c.begin.ensures.none c.if-begin.false) c.leave_out.ensures c.begin.ensures.others
