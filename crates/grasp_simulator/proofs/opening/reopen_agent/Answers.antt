use Rattle.grasp_simulator.proofs.ImageFaults.{no_fault}
use Rattle.grasp_simulator.proofs.opening.reopen_agent.Goals as goal

pub unreachable-requires : goal.unreachable-requires
unreachable-requires c = c.in_default.not-OutOfMemory (no_fault c.args.image.now c.requires.few c.requires.disjoint c.in-Err.fault c.in-Err.ensures.reopened)
