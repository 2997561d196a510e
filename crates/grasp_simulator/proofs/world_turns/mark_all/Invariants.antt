use Rattle.std.proofs.Common.{take}
use Rattle.grasp_simulator.specs.Restarts.{AreMarked}
use Rattle.grasp_simulator.proofs.world_turns.mark_all.Given as goal

-- those before this one
abbrev pub invariant-loop-seat : goal.invariant-loop-seat
invariant-loop-seat l = AreMarked (take l.seat-index l.seats) l.node l.fn.marks l.marks
