use Rattle.grasp_disk.proofs.Lefts.{failed_calls_leave_nothing}
use Rattle.grasp_disk.proofs.laws.failed_calls_leave_nothing.Goals as goal

pub returns : goal.returns
returns c = failed_calls_leave_nothing
