use Rattle.std.proofs.Common.{refl}
use Rattle.grasp_trace.proofs.Telling.{quiet_then_one}
use Rattle.grasp_trace.proofs.Watching.{begins_then}
use Rattle.grasp_trace.proofs.writer.Writer.dialled.Goals as goal

pub returns-clause-told : goal.returns-clause-told
returns-clause-told g c = quiet_then_one _ _ _ _ c.begin.ensures.quiet c.dial.ensures

pub returns-clause-begins : goal.returns-clause-begins
returns-clause-begins g c = begins_then _ _ _ _ c.begin.ensures.begins refl c.dial.ensures.tells.never_falls
