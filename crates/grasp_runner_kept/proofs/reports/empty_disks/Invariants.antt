use Rattle.grasp_kept.specs.Disks.{AreEmpty}
use Rattle.grasp_runner_kept.proofs.reports.empty_disks.Given as goal

-- so many are there
abbrev pub invariant-loop-made : goal.invariant-loop-made
invariant-loop-made l = AreEmpty l.made l.disks
