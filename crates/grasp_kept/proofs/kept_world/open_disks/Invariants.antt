use Rattle.std.proofs.Common.{◌≡◌, ◌+◌, length}
use Rattle.std.specs.List.{All}
use Rattle.grasp_kept.specs.Disks.{AreOpenedTo, IsEmptyDisk}
use Rattle.grasp_kept.proofs.kept_world.open_disks.Given as goal

-- the nodes before this one have keepers, and there is a disk for each other one
abbrev pub invariant-loop-before : goal.invariant-loop-before
invariant-loop-before l = AreOpenedTo l.plan l.before l.keepers.items × All IsEmptyDisk l.disks.items × (length l.disks.items + l.before ≡ l.plan.nodes)
